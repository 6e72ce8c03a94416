-- Substitution, cases, modus ponens and the tables of the connectives.
use Rattle.std.proofs.Common.{◌≡◌, ℕ, suc, true, false, List, refl, subst, arith}
use Rattle.std.specs.Prelude.{max}
use Rattle.leo_q0.specs.Terms.{SimpleType, arrow, truth, Variable, same_variable, Term, variable, identity, apply, lambda, HasType, of_variable, of_apply, of_lambda, IsFormula}
use Rattle.leo_q0.specs.Substitution.{is_free, is_free_for, replace}
use Rattle.leo_q0.specs.Connectives.{x_of, y_of, equation, apply_two, true_term, false_term, and_term, imp_term, not_term, or_term}
use Rattle.leo_q0.specs.Axioms.{by_same_sets}
use Rattle.leo_q0.specs.Derivations.{Derivable, by_axiom}
use Rattle.leo_q0.proofs.Variables.{same_type-arrow, same_variable-refl}
use Rattle.leo_q0.proofs.WellTyped.{HasType-equation, HasType-replace}
use Rattle.leo_q0.proofs.Formulas.{binary, HasType-true, HasType-false, HasType-and, HasType-imp, HasType-apply_two}
use Rattle.leo_q0.proofs.Fresh.{limit, IsBelow-more, IsBelow-limit, not_free_above, different}
use Rattle.leo_sound.proofs.Unfree.{replace_unfree, free_for_unfree, free_for_closed, free_for_itself, replace_itself}
use Rattle.leo_sound.proofs.Places.{Closed, and_closed, imp_closed, true_closed, false_closed, flat_x, flat_y, flat_closed, flat_apply, at_formulas}
use Rattle.leo_q0.proofs.Equations.{Equal, beta, same, back, then, applied, carry}
use Rattle.leo_q0.proofs.Renaming.{same_equations, instance}
use Rattle.leo_sound.proofs.Truth.{and_of, true_is_same, truth_holds, every_formula, true_and, true_equals, equals_true}

-- the connectives, applied
abbrev pub imp_of : Term → Term → Term
imp_of s t = apply_two imp_term s t

abbrev pub or_of : Term → Term → Term
or_of s t = apply_two or_term s t

abbrev pub not_of : Term → Term
not_of s = apply not_term s

module _ {H : List Term} where
  -- from a formula, its instance
  pub substituted : (v : Variable) (t : Term) {s : Term} → IsFormula s → HasType t v.type → is_free_for t v s ≡ true → Derivable H s → Derivable H (replace v t s)
  substituted v t hs ht f d = carry (instance v t (back (equals_true hs d)) ht refl f) truth_holds

  -- from a formula with T and with F for a variable, the formula
  pub cases : (n : ℕ) {s : Term} → IsFormula s →
      Derivable H (replace (record { number = n; type = truth }) true_term s) → Derivable H (replace (record { number = n; type = truth }) false_term s) → Derivable H s
  cases n {s} hs at_true at_false =
      let v : Variable = record { number = n; type = truth } in
      let hv = of_variable v in
      let one = then (back (equals_true (HasType-replace v true_term hs HasType-true) at_true)) (back (beta hs HasType-true (free_for_closed v true_term s true_closed))) in
      let two = then (back (equals_true (HasType-replace v false_term hs HasType-false) at_false)) (back (beta hs HasType-false (free_for_closed v false_term s false_closed))) in
      let all = then (every_formula (of_lambda v hs) hv one two) (beta hs hv (free_for_itself v s)) in
      subst (Derivable H) (replace_itself v s) (carry all truth_holds)

  pub same_two : {c s t s' t' : Term} → HasType c binary → Equal H truth s s' → Equal H truth t t' → Equal H truth (apply_two c s t) (apply_two c s' t')
  same_two h e k = applied (applied (same h) e) k

  pub same_imp : {s t s' t' : Term} → Equal H truth s s' → Equal H truth t t' → Equal H truth (imp_of s t) (imp_of s' t')
  same_imp e k = same_two HasType-imp e k

  -- Imp at the variables x and y
  imp_at_variables : Equal H truth (imp_of (variable (x_of truth)) (variable (y_of truth)))
      (equation truth (variable (x_of truth)) (and_of (variable (x_of truth)) (variable (y_of truth))))
  imp_at_variables =
      let x = x_of truth in
      let y = y_of truth in
      let hx = of_variable x in
      let hy = of_variable y in
      let body = HasType-equation hx (HasType-apply_two HasType-and hx hy) in
      let first = applied (beta {x = x} {t = variable x} (of_lambda y body) hx refl) (same hy) in
      then first (beta {x = y} {t = variable y} body hy refl)

  -- Imp, at any two formulas
  pub imp_is : {s t : Term} → IsFormula s → IsFormula t → Equal H truth (imp_of s t) (equation truth s (and_of s t))
  imp_is {s} {t} hs ht =
      at_formulas s t (flat_apply (flat_apply (flat_closed imp_term imp_closed) flat_x) flat_y)
      (flat_apply (flat_apply (flat_closed (identity truth) (λ w. refl)) flat_x) (flat_apply (flat_apply (flat_closed and_term and_closed) flat_x) flat_y))
      hs ht imp_at_variables

  -- Imp with T on the left is its right side
  pub true_imp : {s : Term} → IsFormula s → Equal H truth (imp_of true_term s) s
  true_imp h = then (imp_is HasType-true h) (then (same_equations (same HasType-true) (true_and h)) (true_equals h))

  -- modus ponens
  pub modus_ponens : {s t : Term} → IsFormula s → IsFormula t → Derivable H (imp_of s t) → Derivable H s → Derivable H t
  modus_ponens hs ht d e = carry (then (same_imp (equals_true hs e) (same ht)) (true_imp ht)) d

-- equals p and q are both in the set r, or neither is
abbrev pub same_membership : SimpleType → Term → Term → Term → Term
same_membership a p q r = imp_of (equation a p q) (equation truth (apply r p) (apply r q))

replaced_membership : (v : Variable) (b c : Term) (a : SimpleType) (p q r p' q' r' : Term) → Closed c → replace v b p ≡ p' → replace v b q ≡ q' → replace v b r ≡ r' →
    replace v b (apply_two c (equation a p q) (equation truth (apply r p) (apply r q))) ≡ apply_two c (equation a p' q') (equation truth (apply r' p') (apply r' q'))
replaced_membership v b c a p q r p' q' r' h e k m = let n = replace_unfree v b c (h v) in cc

free_membership : (v : Variable) (b c : Term) (a : SimpleType) (p q r : Term) → Closed c → is_free_for b v p ≡ true → is_free_for b v q ≡ true → is_free_for b v r ≡ true →
    is_free_for b v (apply_two c (equation a p q) (equation truth (apply r p) (apply r q))) ≡ true
free_membership v b c a p q r h e k m = rw (free_for_unfree v b c (h v), e, k, m) refl

module _ {H : List Term} where
  membership_step : (v : Variable) (b : Term) (a : SimpleType) {p q r p' q' r' : Term} → HasType b v.type →
      HasType p a → HasType q a → HasType r (arrow a truth) →
      is_free_for b v p ≡ true → is_free_for b v q ≡ true → is_free_for b v r ≡ true →
      replace v b p ≡ p' → replace v b q ≡ q' → replace v b r ≡ r' → Derivable H (same_membership a p q r) → Derivable H (same_membership a p' q' r')
  membership_step v b a {p} {q} {r} {p'} {q'} {r'} hb hp hq hr fp fq fr e k m d =
      subst (Derivable H) (replaced_membership v b imp_term a p q r p' q' r' imp_closed e k m)
      (substituted v b (HasType-apply_two HasType-imp (HasType-equation hp hq) (HasType-equation (of_apply hr hp) (of_apply hr hq))) hb
      (free_membership v b imp_term a p q r imp_closed fp fq fr) d)

  -- axiom 2, at any terms
  pub membership : {a : SimpleType} {s t u : Term} → HasType s a → HasType t a → HasType u (arrow a truth) → Derivable H (same_membership a s t u)
  membership {a} {s} {t} {u} hs ht hu =
      let k = suc (suc (max (limit s) (max (limit t) (limit u)))) in
      let x = x_of a in
      let y = y_of a in
      let h = x_of (arrow a truth) in
      let x' : Variable = record { number = k; type = a } in
      let y' : Variable = record { number = suc k; type = a } in
      let hx = of_variable x in
      let hy = of_variable y in
      let hh = of_variable h in
      let hx' = of_variable x' in
      let hy' = of_variable y' in
      let x_y' : same_variable x y' ≡ false = different x y' (λ (e : 0 ≡ suc k). omega (arith, e)) in
      let h_x' : same_variable h x' ≡ false = different h x' (λ (e : 0 ≡ k). omega (arith, e)) in
      let h_y' : same_variable h y' ≡ false = different h y' (λ (e : 0 ≡ suc k). omega (arith, e)) in
      let x'_y' : same_variable x' y' ≡ false = different x' y' (λ (e : k ≡ suc k). omega (arith, e)) in
      let x'_u : is_free x' u ≡ false = not_free_above x' u (IsBelow-more (limit u) k u (omega arith) (IsBelow-limit u)) in
      let y'_u : is_free y' u ≡ false = not_free_above y' u (IsBelow-more (limit u) (suc k) u (omega arith) (IsBelow-limit u)) in
      let y'_s : is_free y' s ≡ false = not_free_above y' s (IsBelow-more (limit s) (suc k) s (omega arith) (IsBelow-limit s)) in
      let start : Derivable H (same_membership a (variable x) (variable y) (variable h)) = by_axiom (by_same_sets a) in
      let one : Derivable H (same_membership a (variable x) (variable y') (variable h)) =
      membership_step y (variable y') a hy' hx hy hh refl refl refl refl (rw (same_variable-refl y) refl) refl start in
      let two : Derivable H (same_membership a (variable x') (variable y') (variable h)) =
      membership_step x (variable x') a hx' hx hy' hh refl refl refl (rw (same_variable-refl x) refl) (rw x_y' refl) (rw (same_type-arrow a truth) refl) one in
      let three : Derivable H (same_membership a (variable x') (variable y') u) =
      membership_step h u a hu hx' hy' hh refl refl refl (rw h_x' refl) (rw h_y' refl) (rw (same_variable-refl h) refl) two in
      let four : Derivable H (same_membership a s (variable y') u) =
      membership_step x' s a hs hx' hy' hu refl refl (free_for_unfree x' s u x'_u) (rw (same_variable-refl x') refl) (rw x'_y' refl) (replace_unfree x' s u x'_u) three in
      membership_step y' t a ht hs hy' hu (free_for_unfree y' t s y'_s) refl (free_for_unfree y' t u y'_u)
      (replace_unfree y' t s y'_s) (rw (same_variable-refl y') refl) (replace_unfree y' t u y'_u) four

  -- equal arguments give equal values, as a formula
  pub values_agree : {a b : SimpleType} {s t c : Term} → HasType s a → HasType t a → HasType c (arrow a b) →
      Derivable H (imp_of (equation a s t) (equation b (apply c s) (apply c t)))
  values_agree {a} {b} {s} {t} {c} hs ht hc =
      let k = max (limit s) (limit c) in
      let z : Variable = record { number = k; type = a } in
      let z_s : is_free z s ≡ false = not_free_above z s (IsBelow-more (limit s) k s (omega arith) (IsBelow-limit s)) in
      let z_c : is_free z c ≡ false = not_free_above z c (IsBelow-more (limit c) k c (omega arith) (IsBelow-limit c)) in
      let hcs = of_apply hc hs in
      let hct = of_apply hc ht in
      let body = HasType-equation hcs (of_apply hc (of_variable z)) in
      let free : (q : Term) → is_free_for q z (equation b (apply c s) (apply c (variable z))) ≡ true = λ q. rw (free_for_unfree z q c z_c, free_for_unfree z q s z_s) refl in
      let at : (q : Term) → HasType q a → Equal H truth (apply (lambda z (equation b (apply c s) (apply c (variable z)))) q) (equation b (apply c s) (apply c q)) =
      λ q hq. rw (replace_unfree z q c z_c, replace_unfree z q s z_s, same_variable-refl z) at (beta {H = H} {x = z} body hq (free q)) in
      let d = membership hs ht (of_lambda z body) in
      let left = then (at s hs) (back (true_is_same hcs)) in
      let right = at t ht in
      let result = HasType-equation hcs hct in
      carry (same_imp (same (HasType-equation hs ht)) (then (same_equations left right) (true_equals result))) d
