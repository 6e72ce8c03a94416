-- The truth tables, and tautologies.
use Rattle.std.proofs.Common.{◌≡◌, Bool, true, false, ◌&&◌, ◌||◌, not, List, refl, subst}
use Rattle.std.specs.Bool.{beq}
use Rattle.leo_q0.specs.Terms.{arrow, truth, Variable, Term, variable, apply, lambda, HasType, of_variable, of_apply, of_lambda, IsFormula}
use Rattle.leo_q0.specs.Substitution.{is_free, is_free_for}
use Rattle.leo_q0.specs.Connectives.{x_of, y_of, equation, true_term, false_term, and_term, not_term, or_term}
use Rattle.leo_sound.specs.Propositions.{truth_term}
use Rattle.leo_q0.specs.Derivations.{Derivable}
use Rattle.leo_q0.proofs.Variables.{same_variable-refl}
use Rattle.leo_q0.proofs.WellTyped.{HasType-equation}
use Rattle.leo_q0.proofs.Formulas.{HasType-true, HasType-false, HasType-and, HasType-imp, HasType-not, HasType-apply_two}
use Rattle.leo_q0.proofs.Fresh.{limit, IsBelow-limit, not_free_above}
use Rattle.leo_sound.proofs.Unfree.{replace_unfree, free_for_unfree}
use Rattle.leo_sound.proofs.Places.{and_closed, not_closed, or_closed, flat_x, flat_y, flat_closed, flat_apply, at_formulas}
use Rattle.leo_q0.proofs.Equations.{Equal, beta, same, back, then, applied, carry}
use Rattle.leo_q0.proofs.Renaming.{same_equations}
use Rattle.leo_sound.proofs.Truth.{and_of, true_is_same, truth_holds, same_and, every_formula, true_and, true_equals_false, true_equals, equals_true, true_equation}
use Rattle.leo_sound.proofs.Logic.{imp_of, or_of, not_of, same_imp, imp_is, true_imp, membership}

module _ {H : List Term} where
  -- F implies each formula
  pub false_imp : {s : Term} → IsFormula s → Derivable H (imp_of false_term s)
  false_imp {s} hs =
      let x = x_of truth in
      let f : Variable = record { number = limit s; type = arrow truth truth } in
      let hf = of_variable f in
      let n : is_free f s ≡ false = not_free_above f s (IsBelow-limit s) in
      let all = of_lambda x HasType-true in
      let itself = of_lambda x (of_variable x) in
      let free : (q : Term) → is_free_for q f (apply (variable f) s) ≡ true = λ q. free_for_unfree f q s n in
      let at : (q : Term) → HasType q (arrow truth truth) → Equal H truth (apply (lambda f (apply (variable f) s)) q) (apply q s) =
      λ q hq. rw (replace_unfree f q s n, same_variable-refl f) at (beta {H = H} {x = f} (of_apply hf hs) hq (free q)) in
      let left = then (at (lambda x true_term) all) (beta HasType-true hs refl) in
      let right = then (at (lambda x (variable x)) itself) (beta {x = x} {s = variable x} (of_variable x) hs refl) in
      carry (same_imp (same HasType-false) (then (same_equations left right) (true_equals hs))) (membership all itself (of_lambda f (of_apply hf hs)))

  false_and : {s : Term} → IsFormula s → Equal H truth (and_of false_term s) false_term
  false_and hs =
      back (record { left = HasType-false; right = HasType-apply_two HasType-and HasType-false hs; derived = carry (imp_is HasType-false hs) (false_imp hs) })

  -- s and F is F
  and_false : {s : Term} → IsFormula s → Equal H truth (and_of s false_term) false_term
  and_false {s} hs =
      let x = x_of truth in
      let hx = of_variable x in
      let body = HasType-equation (HasType-apply_two HasType-and hx HasType-false) HasType-false in
      let at_true = then (true_equation (true_and HasType-false)) (back (beta body HasType-true refl)) in
      let at_false = then (true_equation (false_and HasType-false)) (back (beta body HasType-false refl)) in
      let all = then (every_formula (of_lambda x body) hs at_true at_false) (beta body hs refl) in
      record { left = HasType-apply_two HasType-and hs HasType-false; right = HasType-false; derived = carry all truth_holds }

  -- what implies F is F
  imp_false : {s : Term} → IsFormula s → Derivable H (imp_of s false_term) → Equal H truth s false_term
  imp_false hs d =
      then (record { left = hs; right = HasType-apply_two HasType-and hs HasType-false; derived = carry (imp_is hs HasType-false) d }) (and_false hs)

  false_equals_true : Equal H truth (equation truth false_term true_term) false_term
  false_equals_true =
      let x = x_of truth in
      let body = HasType-equation (of_variable x) HasType-false in
      let at_false = then (beta {x = x} body HasType-false refl) (back (true_is_same HasType-false)) in
      let at_true = then (beta {x = x} body HasType-true refl) true_equals_false in
      let sides = then (same_equations at_false at_true) true_equals_false in
      let premise = HasType-equation HasType-false HasType-true in
      imp_false premise (carry (same_imp (same premise) sides) (membership HasType-false HasType-true (of_lambda x body)))

  pub same_not : {s t : Term} → Equal H truth s t → Equal H truth (not_of s) (not_of t)
  same_not e = applied (same HasType-not) e

  or_at_variables : Equal H truth (or_of (variable (x_of truth)) (variable (y_of truth)))
      (not_of (and_of (not_of (variable (x_of truth))) (not_of (variable (y_of truth)))))
  or_at_variables =
      let x = x_of truth in
      let y = y_of truth in
      let hx = of_variable x in
      let hy = of_variable y in
      let body = of_apply HasType-not (HasType-apply_two HasType-and (of_apply HasType-not hx) (of_apply HasType-not hy)) in
      let first = applied (beta {x = x} {t = variable x} (of_lambda y body) hx refl) (same hy) in
      then first (beta {x = y} {t = variable y} body hy refl)

  -- Or, at any two formulas
  pub or_is : {s t : Term} → IsFormula s → IsFormula t → Equal H truth (or_of s t) (not_of (and_of (not_of s) (not_of t)))
  or_is {s} {t} hs ht =
      let neg = flat_closed not_term not_closed in
      at_formulas s t (flat_apply (flat_apply (flat_closed or_term or_closed) flat_x) flat_y)
      (flat_apply neg (flat_apply (flat_apply (flat_closed and_term and_closed) (flat_apply neg flat_x)) (flat_apply neg flat_y)))
      hs ht or_at_variables

de_morgan : (b c : Bool) → not (not b && not c) ≡ (b || c)
de_morgan true c = refl
de_morgan false true = refl
de_morgan false false = refl

pub HasType-truth_term : (b : Bool) → IsFormula (truth_term b)
HasType-truth_term true = HasType-true
HasType-truth_term false = HasType-false

module _ {H : List Term} where
  pub not_table : (b : Bool) → Equal H truth (not_of (truth_term b)) (truth_term (not b))
  not_table true = false_equals_true
  not_table false = back (true_is_same HasType-false)

  pub and_table : (b c : Bool) → Equal H truth (and_of (truth_term b) (truth_term c)) (truth_term (b && c))
  and_table true c = true_and (HasType-truth_term c)
  and_table false c = false_and (HasType-truth_term c)

  pub imp_table : (b c : Bool) → Equal H truth (imp_of (truth_term b) (truth_term c)) (truth_term (not b || c))
  imp_table true c = true_imp (HasType-truth_term c)
  imp_table false c = equals_true (HasType-apply_two HasType-imp HasType-false (HasType-truth_term c)) (false_imp (HasType-truth_term c))

  pub or_table : (b c : Bool) → Equal H truth (or_of (truth_term b) (truth_term c)) (truth_term (b || c))
  or_table b c =
      let open_up = or_is (HasType-truth_term b) (HasType-truth_term c) in
      let parts = same_not (then (same_and (not_table b) (not_table c)) (and_table (not b) (not c))) in
      subst (λ (d : Bool). Equal H truth (or_of (truth_term b) (truth_term c)) (truth_term d)) (de_morgan b c) (then open_up (then parts (not_table (not b && not c))))

  pub equals_table : (b c : Bool) → Equal H truth (equation truth (truth_term b) (truth_term c)) (truth_term (beq b c))
  equals_table true true = back (true_is_same HasType-true)
  equals_table true false = true_equals_false
  equals_table false true = false_equals_true
  equals_table false false = back (true_is_same HasType-false)
