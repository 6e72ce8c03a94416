-- Each tautology is derivable, and literals of a disjunction may be weakened.
use Rattle.std.proofs.Common.{◌≡◌, ℕ, zero, suc, ◌≤◌, Bool, true, false, ◌||◌, not, List, [], ◌∷◌, ◌++◌, map, refl, ap, subst, arith}
use Rattle.std.specs.Prelude.{max}
use Rattle.std.proofs.lemmas.Bool.{and_from}
use Rattle.std.proofs.lemmas.List.{append-nil}
use Rattle.leo_q0.specs.Terms.{truth, Variable, Term, variable, identity, apply, lambda, of_variable, of_apply, of_lambda, IsFormula}
use Rattle.leo_q0.specs.Substitution.{is_free, is_free_for, replace}
use Rattle.leo_q0.specs.Connectives.{apply_two, true_term, false_term, and_term, imp_term, not_term, or_term}
use Rattle.leo_sound.specs.Propositions.{Proposition, atom, truth_value, negation, both, either, implies, equals, value_at, value, truth_term, term_at, formula_of, disjunction}
use Rattle.leo_q0.specs.Derivations.{Derivable}
use Rattle.leo_q0.proofs.Variables.{same_variable-refl}
use Rattle.leo_q0.proofs.WellTyped.{HasType-equation}
use Rattle.leo_q0.proofs.Formulas.{HasType-true, HasType-false, HasType-and, HasType-imp, HasType-not, HasType-or, HasType-apply_two}
use Rattle.leo_q0.proofs.Fresh.{limit, IsBelow-more, IsBelow-limit, not_free_above}
use Rattle.leo_sound.proofs.Unfree.{replace_unfree, free_for_unfree}
use Rattle.leo_sound.proofs.Places.{Closed, and_closed, imp_closed, not_closed, or_closed, true_closed, false_closed}
use Rattle.leo_q0.proofs.Equations.{Equal, beta, same, back, then, carry}
use Rattle.leo_q0.proofs.Renaming.{same_equations}
use Rattle.leo_sound.proofs.Truth.{truth_holds, every_formula}
use Rattle.leo_sound.proofs.Logic.{imp_of, or_of, same_two, modus_ponens}
use Rattle.leo_sound.proofs.Tables.{same_not, HasType-truth_term, not_table, and_table, imp_table, or_table, equals_table}

-- all of the list are formulas
abbrev pub AreFormulas : List Term → Type 0
AreFormulas [] = Unit {0}
AreFormulas (s ∷ ss) = IsFormula s × AreFormulas ss

HasType-term_at : (ss : List Term) (n : ℕ) → AreFormulas ss → IsFormula (term_at ss n)
HasType-term_at [] n h = HasType-true
HasType-term_at (s ∷ ss) zero h = h.0
HasType-term_at (s ∷ ss) (suc n) h = HasType-term_at ss n h.1

pub HasType-formula_of : (ss : List Term) (p : Proposition) → AreFormulas ss → IsFormula (formula_of ss p)
HasType-formula_of ss (atom n) h = HasType-term_at ss n h
HasType-formula_of ss (truth_value b) h = HasType-truth_term b
HasType-formula_of ss (negation p) h = of_apply HasType-not (HasType-formula_of ss p h)
HasType-formula_of ss (both p q) h = HasType-apply_two HasType-and (HasType-formula_of ss p h) (HasType-formula_of ss q h)
HasType-formula_of ss (either p q) h = HasType-apply_two HasType-or (HasType-formula_of ss p h) (HasType-formula_of ss q h)
HasType-formula_of ss (implies p q) h = HasType-apply_two HasType-imp (HasType-formula_of ss p h) (HasType-formula_of ss q h)
HasType-formula_of ss (equals p q) h = HasType-equation (HasType-formula_of ss p h) (HasType-formula_of ss q h)

term_at-map : (bs : List Bool) (n : ℕ) → term_at (map truth_term bs) n ≡ truth_term (value_at bs n)
term_at-map [] n = refl
term_at-map (b ∷ bs) zero = refl
term_at-map (b ∷ bs) (suc n) = term_at-map bs n

module _ {H : List Term} where
  -- a proposition over truth values equals its value
  evaluated : (bs : List Bool) (p : Proposition) → Equal H truth (formula_of (map truth_term bs) p) (truth_term (value bs p))
  evaluated bs (atom n) = subst (λ (s : Term). Equal H truth (term_at (map truth_term bs) n) s) (term_at-map bs n) (same (rw (term_at-map bs n) (HasType-truth_term (value_at bs n))))
  evaluated bs (truth_value b) = same (HasType-truth_term b)
  evaluated bs (negation p) = then (same_not (evaluated bs p)) (not_table (value bs p))
  evaluated bs (both p q) = then (same_two HasType-and (evaluated bs p) (evaluated bs q)) (and_table (value bs p) (value bs q))
  evaluated bs (either p q) = then (same_two HasType-or (evaluated bs p) (evaluated bs q)) (or_table (value bs p) (value bs q))
  evaluated bs (implies p q) = then (same_two HasType-imp (evaluated bs p) (evaluated bs q)) (imp_table (value bs p) (value bs q))
  evaluated bs (equals p q) = then (same_equations (evaluated bs p) (evaluated bs q)) (equals_table (value bs p) (value bs q))

-- the variable is free in none of the list
abbrev NotFreeIn : Variable → List Term → Type 0
NotFreeIn z [] = Unit {0}
NotFreeIn z (s ∷ ss) = (is_free z s ≡ false) × NotFreeIn z ss

truth_term_closed : (b : Bool) → Closed (truth_term b)
truth_term_closed true = true_closed
truth_term_closed false = false_closed

not_free_in_values : (z : Variable) (bs : List Bool) → NotFreeIn z (map truth_term bs)
not_free_in_values z [] = tt
not_free_in_values z (b ∷ bs) = (truth_term_closed b z, not_free_in_values z bs)

replaced_one : (z : Variable) (b c s s' : Term) → Closed c → replace z b s ≡ s' → replace z b (apply c s) ≡ apply c s'
replaced_one z b c s s' h e = let k = replace_unfree z b c (h z) in cc

replaced_two : (z : Variable) (b c s t s' t' : Term) → Closed c → replace z b s ≡ s' → replace z b t ≡ t' → replace z b (apply_two c s t) ≡ apply_two c s' t'
replaced_two z b c s t s' t' h e m = let k = replace_unfree z b c (h z) in cc

free_one : (z : Variable) (b c s : Term) → Closed c → is_free_for b z s ≡ true → is_free_for b z (apply c s) ≡ true
free_one z b c s h e = and_from _ _ (free_for_unfree z b c (h z)) e

free_two : (z : Variable) (b c s t : Term) → Closed c → is_free_for b z s ≡ true → is_free_for b z t ≡ true → is_free_for b z (apply_two c s t) ≡ true
free_two z b c s t h e m = and_from _ _ (and_from _ _ (free_for_unfree z b c (h z)) e) m

identity_closed : Closed (identity truth)
identity_closed w = refl

module _ (z : Variable) (b : Term) where
  replaced_after : (rest : List Term) (n : ℕ) → NotFreeIn z rest → replace z b (term_at rest n) ≡ term_at rest n
  replaced_after [] n h = replace_unfree z b true_term (true_closed z)
  replaced_after (s ∷ ss) zero h = replace_unfree z b s h.0
  replaced_after (s ∷ ss) (suc n) h = replaced_after ss n h.1

  replaced_atom : (front rest : List Term) (n : ℕ) → NotFreeIn z front → NotFreeIn z rest → replace z b (term_at (front ++ variable z ∷ rest) n) ≡ term_at (front ++ b ∷ rest) n
  replaced_atom [] rest zero h k = rw (same_variable-refl z) refl
  replaced_atom [] rest (suc n) h k = replaced_after rest n k
  replaced_atom (s ∷ ss) rest zero h k = replace_unfree z b s h.0
  replaced_atom (s ∷ ss) rest (suc n) h k = replaced_atom ss rest n h.1 k

  free_after : (rest : List Term) (n : ℕ) → NotFreeIn z rest → is_free_for b z (term_at rest n) ≡ true
  free_after [] n h = free_for_unfree z b true_term (true_closed z)
  free_after (s ∷ ss) zero h = free_for_unfree z b s h.0
  free_after (s ∷ ss) (suc n) h = free_after ss n h.1

  free_atom : (front rest : List Term) (n : ℕ) → NotFreeIn z front → NotFreeIn z rest → is_free_for b z (term_at (front ++ variable z ∷ rest) n) ≡ true
  free_atom [] rest zero h k = refl
  free_atom [] rest (suc n) h k = free_after rest n k
  free_atom (s ∷ ss) rest zero h k = free_for_unfree z b s h.0
  free_atom (s ∷ ss) rest (suc n) h k = free_atom ss rest n h.1 k

  module _ (front rest : List Term) (h : NotFreeIn z front) (k : NotFreeIn z rest) where
    -- a term for the variable among the atoms
    replaced_formula : (p : Proposition) → replace z b (formula_of (front ++ variable z ∷ rest) p) ≡ formula_of (front ++ b ∷ rest) p
    replaced_formula (atom n) = replaced_atom front rest n h k
    replaced_formula (truth_value c) = replace_unfree z b (truth_term c) (truth_term_closed c z)
    replaced_formula (negation p) = replaced_one z b not_term _ _ not_closed (replaced_formula p)
    replaced_formula (both p q) = replaced_two z b and_term _ _ _ _ and_closed (replaced_formula p) (replaced_formula q)
    replaced_formula (either p q) = replaced_two z b or_term _ _ _ _ or_closed (replaced_formula p) (replaced_formula q)
    replaced_formula (implies p q) = replaced_two z b imp_term _ _ _ _ imp_closed (replaced_formula p) (replaced_formula q)
    replaced_formula (equals p q) = replaced_two z b (identity truth) _ _ _ _ identity_closed (replaced_formula p) (replaced_formula q)

    free_formula : (p : Proposition) → is_free_for b z (formula_of (front ++ variable z ∷ rest) p) ≡ true
    free_formula (atom n) = free_atom front rest n h k
    free_formula (truth_value c) = free_for_unfree z b (truth_term c) (truth_term_closed c z)
    free_formula (negation p) = free_one z b not_term (formula_of (front ++ variable z ∷ rest) p) not_closed (free_formula p)
    free_formula (both p q) = free_two z b and_term (formula_of (front ++ variable z ∷ rest) p) (formula_of (front ++ variable z ∷ rest) q) and_closed (free_formula p) (free_formula q)
    free_formula (either p q) = free_two z b or_term (formula_of (front ++ variable z ∷ rest) p) (formula_of (front ++ variable z ∷ rest) q) or_closed (free_formula p) (free_formula q)
    free_formula (implies p q) = free_two z b imp_term (formula_of (front ++ variable z ∷ rest) p) (formula_of (front ++ variable z ∷ rest) q) imp_closed (free_formula p) (free_formula q)
    free_formula (equals p q) = free_two z b (identity truth) (formula_of (front ++ variable z ∷ rest) p) (formula_of (front ++ variable z ∷ rest) q) identity_closed (free_formula p) (free_formula q)

-- a number above those of all terms of the list
abbrev limit_of : List Term → ℕ
limit_of [] = 0
limit_of (s ∷ ss) = max (limit s) (limit_of ss)

not_free_in_above : (z : Variable) (ss : List Term) → limit_of ss ≤ z.number → NotFreeIn z ss
not_free_in_above z [] le = tt
not_free_in_above z (s ∷ ss) le =
    (not_free_above z s (IsBelow-more (limit s) z.number s (omega arith) (IsBelow-limit s)), not_free_in_above z ss (omega arith))

one_value_more : (bs : List Bool) (b : Bool) (ss : List Term) → map truth_term (bs ++ b ∷ []) ++ ss ≡ map truth_term bs ++ truth_term b ∷ ss
one_value_more [] b ss = refl
one_value_more (c ∷ bs) b ss = ap (λ (l : List Term). truth_term c ∷ l) (one_value_more bs b ss)

formulas_with : (bs : List Bool) (s : Term) (ss : List Term) → IsFormula s → AreFormulas ss → AreFormulas (map truth_term bs ++ s ∷ ss)
formulas_with [] s ss h k = (h, k)
formulas_with (b ∷ bs) s ss h k = (HasType-truth_term b, formulas_with bs s ss h k)

module _ {H : List Term} where
  tautology_from : (l : List Term) (bs : List Bool) (p : Proposition) → AreFormulas l → ((vs : List Bool) → value vs p ≡ true) →
      Equal H truth true_term (formula_of (map truth_term bs ++ l) p)
  tautology_from [] bs p h all =
      rw (append-nil (map truth_term bs)) (back (subst (λ (b : Bool). Equal H truth (formula_of (map truth_term bs) p) (truth_term b)) (all bs) (evaluated bs p)))
  tautology_from (s ∷ l) bs p h all =
      let front = map truth_term bs in
      let z : Variable = record { number = limit_of l; type = truth } in
      let n = not_free_in_values z bs in
      let m = not_free_in_above z l (omega arith) in
      let body = HasType-formula_of (front ++ variable z ∷ l) p (formulas_with bs (variable z) l (of_variable z) h.1) in
      let at : (t : Term) → IsFormula t → Equal H truth (apply (lambda z (formula_of (front ++ variable z ∷ l) p)) t) (formula_of (front ++ t ∷ l) p) =
      λ t ht. subst (λ (u : Term). Equal H truth (apply (lambda z (formula_of (front ++ variable z ∷ l) p)) t) u) (replaced_formula z t front l n m p)
      (beta body ht (free_formula z t front l n m p)) in
      let value_for : (b : Bool) → Equal H truth true_term (formula_of (front ++ truth_term b ∷ l) p) =
      λ b. subst (λ (ss : List Term). Equal H truth true_term (formula_of ss p)) (one_value_more bs b l) (tautology_from l (bs ++ b ∷ []) p h.1 all) in
      then (every_formula (of_lambda z body) h.0 (then (value_for true) (back (at true_term HasType-true))) (then (value_for false) (back (at false_term HasType-false)))) (at s h.0)

  -- each tautology is derivable, whatever formulas its atoms are
  pub tautology : (atoms : List Term) (p : Proposition) → AreFormulas atoms → ((vs : List Bool) → value vs p ≡ true) → Derivable H (formula_of atoms p)
  tautology atoms p h all = carry (tautology_from atoms [] p h all) truth_holds

-- a weaker literal makes a weaker disjunction
left_weaker : Proposition
left_weaker = implies (implies (atom 0) (atom 1)) (implies (either (atom 0) (atom 2)) (either (atom 1) (atom 2)))

right_weaker : Proposition
right_weaker = implies (implies (atom 0) (atom 1)) (implies (either (atom 2) (atom 0)) (either (atom 2) (atom 1)))

left_weaker_holds : (vs : List Bool) → value vs left_weaker ≡ true
unfolding left_weaker
left_weaker_holds vs = go (value_at vs 0) (value_at vs 1) (value_at vs 2)
  where
    go : (a b c : Bool) → (not (not a || b) || (not (a || c) || (b || c))) ≡ true
    go true true c = refl
    go true false c = refl
    go false true true = refl
    go false true false = refl
    go false false true = refl
    go false false false = refl

right_weaker_holds : (vs : List Bool) → value vs right_weaker ≡ true
unfolding right_weaker
right_weaker_holds vs = go (value_at vs 0) (value_at vs 1) (value_at vs 2)
  where
    go : (a b c : Bool) → (not (not a || b) || (not (c || a) || (c || b))) ≡ true
    go true true true = refl
    go true true false = refl
    go true false true = refl
    go true false false = refl
    go false b true = refl
    go false true false = refl
    go false false false = refl

module _ {H : List Term} where
  left_weakened : {s t r : Term} → IsFormula s → IsFormula t → IsFormula r → Derivable H (imp_of s t) → Derivable H (imp_of (or_of s r) (or_of t r))
  unfolding left_weaker
  left_weakened {s} {t} {r} hs ht hr d =
      let both = HasType-apply_two HasType-imp (HasType-apply_two HasType-or hs hr) (HasType-apply_two HasType-or ht hr) in
      let whole : Derivable H (imp_of (imp_of s t) (imp_of (or_of s r) (or_of t r))) = tautology (s ∷ t ∷ r ∷ []) left_weaker (hs, (ht, (hr, tt))) left_weaker_holds in
      modus_ponens (HasType-apply_two HasType-imp hs ht) both whole d

  right_weakened : {s t r : Term} → IsFormula s → IsFormula t → IsFormula r → Derivable H (imp_of s t) → Derivable H (imp_of (or_of r s) (or_of r t))
  unfolding right_weaker
  right_weakened {s} {t} {r} hs ht hr d =
      let both = HasType-apply_two HasType-imp (HasType-apply_two HasType-or hr hs) (HasType-apply_two HasType-or hr ht) in
      let whole : Derivable H (imp_of (imp_of s t) (imp_of (or_of r s) (or_of r t))) = tautology (s ∷ t ∷ r ∷ []) right_weaker (hs, (ht, (hr, tt))) right_weaker_holds in
      modus_ponens (HasType-apply_two HasType-imp hs ht) both whole d

pub HasType-disjunction : (ss : List Term) → AreFormulas ss → IsFormula (disjunction ss)
HasType-disjunction [] h = HasType-false
HasType-disjunction (s ∷ []) h = h.0
HasType-disjunction (s ∷ t ∷ ts) h = HasType-apply_two HasType-or h.0 (HasType-disjunction (t ∷ ts) h.1)

formulas_around : (front back : List Term) (s : Term) → AreFormulas front → IsFormula s → AreFormulas back → AreFormulas (front ++ s ∷ back)
formulas_around [] back s f h b = (h, b)
formulas_around (t ∷ ts) back s f h b = (f.0, formulas_around ts back s f.1 h b)

module _ {H : List Term} where
  weakened : (front back : List Term) {s t : Term} → AreFormulas front → AreFormulas back → IsFormula s → IsFormula t → Derivable H (imp_of s t) →
      Derivable H (imp_of (disjunction (front ++ s ∷ back)) (disjunction (front ++ t ∷ back)))
  weakened [] [] f b hs ht d = d
  weakened [] (r ∷ rs) f b hs ht d = left_weakened hs ht (HasType-disjunction (r ∷ rs) b) d
  weakened (r ∷ []) back {s} {t} f b hs ht d =
      right_weakened (HasType-disjunction (s ∷ back) (hs, b)) (HasType-disjunction (t ∷ back) (ht, b)) f.0 (weakened [] back tt b hs ht d)
  weakened (r ∷ q ∷ qs) back {s} {t} f b hs ht d =
      right_weakened (HasType-disjunction (q ∷ qs ++ s ∷ back) (formulas_around (q ∷ qs) back s f.1 hs b))
      (HasType-disjunction (q ∷ qs ++ t ∷ back) (formulas_around (q ∷ qs) back t f.1 ht b)) f.0 (weakened (q ∷ qs) back f.1 b hs ht d)

  -- a disjunction with a weaker literal
  pub weaker_literal : (front back : List Term) {s t : Term} → AreFormulas front → AreFormulas back → IsFormula s → IsFormula t →
      Derivable H (imp_of s t) → Derivable H (disjunction (front ++ s ∷ back)) → Derivable H (disjunction (front ++ t ∷ back))
  weaker_literal front back {s} {t} f b hs ht d e =
      modus_ponens (HasType-disjunction (front ++ s ∷ back) (formulas_around front back s f hs b)) (HasType-disjunction (front ++ t ∷ back) (formulas_around front back t f ht b))
      (weakened front back f b hs ht d) e
