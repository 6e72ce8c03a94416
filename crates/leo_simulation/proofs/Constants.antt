-- Derivations stay derivations when closed terms are put in for constants.
use Rattle.std.proofs.Common.{◌≡◌, ℕ, Bool, true, false, ◌&&◌, ◌||◌, not, cond, List, Option, Some, None, refl, sym, ap, subst}
use Rattle.std.specs.List.{Contains}
use Rattle.std.proofs.lemmas.Bool.{and_from}
use Rattle.leo_q0.specs.Terms.{SimpleType, Variable, same_variable, Term, variable, constant, identity, choice, apply, lambda, HasType, of_variable, of_constant, of_identity, of_choice, of_apply, of_lambda}
use Rattle.leo_q0.specs.Substitution.{is_free, is_free_for, replace}
use Rattle.leo_q0.specs.Connectives.{equation}
use Rattle.leo_q0.specs.Axioms.{IsAxiom, by_truth_values, by_same_sets, by_same_values, by_conversion, by_choice}
use Rattle.leo_q0.specs.Derivations.{Derivable, by_axiom, by_hypothesis, by_rule_r, Replaces, here, in_function, in_argument, in_body}
use Rattle.leo_sound.proofs.Places.{Closed}
use Rattle.leo_sound.proofs.Unfree.{replace_unfree, free_for_unfree}

-- terms for constants
abbrev pub Meanings : Type 0
Meanings = ℕ → SimpleType → Option Term

abbrev pub or_constant : ℕ → SimpleType → Option Term → Term
or_constant n a None = constant n a
or_constant n a (Some s) = s

-- a term with terms in the place of the constants that mean them
abbrev pub put_for : Meanings → Term → Term
put_for m (variable v) = variable v
put_for m (constant n a) = or_constant n a (m n a)
put_for m (identity a) = identity a
put_for m (choice a) = choice a
put_for m (apply f t) = apply (put_for m f) (put_for m t)
put_for m (lambda v t) = lambda v (put_for m t)

-- each term that is given is closed, and has the type of its constant
abbrev pub AreClosedMeanings : Meanings → Type 0
AreClosedMeanings m = (n : ℕ) (a : SimpleType) (s : Term) → m n a ≡ Some s → HasType s a × Closed s

module _ (m : Meanings) (ok : AreClosedMeanings m) where
  typed_constant : (n : ℕ) (a : SimpleType) (o : Option Term) → m n a ≡ o → HasType (or_constant n a o) a
  typed_constant n a None e = of_constant n a
  typed_constant n a (Some s) e = (ok n a s e).0

  pub HasType-put_for : {t : Term} {a : SimpleType} → HasType t a → HasType (put_for m t) a
  HasType-put_for (of_variable v) = of_variable v
  HasType-put_for (of_constant n a) = typed_constant n a (m n a) refl
  HasType-put_for (of_identity a) = of_identity a
  HasType-put_for (of_choice a) = of_choice a
  HasType-put_for (of_apply f t) = of_apply (HasType-put_for f) (HasType-put_for t)
  HasType-put_for (of_lambda v t) = of_lambda v (HasType-put_for t)

  unfree_constant : (x : Variable) (n : ℕ) (a : SimpleType) (o : Option Term) → m n a ≡ o → is_free x (or_constant n a o) ≡ false
  unfree_constant x n a None e = refl
  unfree_constant x n a (Some s) e = (ok n a s e).1 x

  -- the same variables are free
  pub is_free-put_for : (x : Variable) (t : Term) → is_free x (put_for m t) ≡ is_free x t
  is_free-put_for x (variable v) = refl
  is_free-put_for x (constant n a) = unfree_constant x n a (m n a) refl
  is_free-put_for x (identity a) = refl
  is_free-put_for x (choice a) = refl
  is_free-put_for x (apply f t) = rw (is_free-put_for x f, is_free-put_for x t) refl
  is_free-put_for x (lambda v t) = rw (is_free-put_for x t) refl

  pub free_for-put_for : (b : Term) (x : Variable) (t : Term) → is_free_for b x t ≡ true → is_free_for (put_for m b) x (put_for m t) ≡ true
  free_for-put_for b x (variable v) h = refl
  free_for-put_for b x (constant n a) h = free_for_unfree x (put_for m b) (or_constant n a (m n a)) (unfree_constant x n a (m n a) refl)
  free_for-put_for b x (identity a) h = refl
  free_for-put_for b x (choice a) h = refl
  free_for-put_for b x (apply f t) h = both (is_free_for b x f) (is_free_for b x t) h (free_for-put_for b x f) (free_for-put_for b x t)
    where
      both : (p q : Bool) {p' q' : Bool} → (p && q) ≡ true → (p ≡ true → p' ≡ true) → (q ≡ true → q' ≡ true) → (p' && q') ≡ true
      both true true h f g = and_from _ _ (f refl) (g refl)
      both true false h f g = cc
      both false q h f g = cc
  free_for-put_for b x (lambda v t) h =
      rw (is_free-put_for x t, is_free-put_for v b) (either (not (not (same_variable x v) && is_free x t)) (not (is_free v b)) (is_free_for b x t) h (free_for-put_for b x t))
    where
      either : (p q r : Bool) {r' : Bool} → (p || (q && r)) ≡ true → (r ≡ true → r' ≡ true) → (p || (q && r')) ≡ true
      either true q r h f = refl
      either false true true h f = f refl
      either false true false h f = cc
      either false false r h f = cc

  chosen_variable : (c : Bool) (b : Term) (v : Variable) → put_for m (cond c b (variable v)) ≡ cond c (put_for m b) (variable v)
  chosen_variable true b v = refl
  chosen_variable false b v = refl

  chosen_body : (c : Bool) (v : Variable) (s t t' : Term) → put_for m t ≡ t' → put_for m (cond c (lambda v s) (lambda v t)) ≡ cond c (lambda v (put_for m s)) (lambda v t')
  chosen_body true v s t t' e = refl
  chosen_body false v s t t' e = ap (lambda v) e

  pub put_for-replace : (x : Variable) (b t : Term) → put_for m (replace x b t) ≡ replace x (put_for m b) (put_for m t)
  put_for-replace x b (variable v) = chosen_variable (same_variable x v) b v
  put_for-replace x b (constant n a) = sym (replace_unfree x (put_for m b) (or_constant n a (m n a)) (unfree_constant x n a (m n a) refl))
  put_for-replace x b (identity a) = refl
  put_for-replace x b (choice a) = refl
  put_for-replace x b (apply f t) = rw (put_for-replace x b f, put_for-replace x b t) refl
  put_for-replace x b (lambda v t) = chosen_body (same_variable x v) v t (replace x b t) (replace x (put_for m b) (put_for m t)) (put_for-replace x b t)

  pub IsAxiom-put_for : {t : Term} → IsAxiom t → IsAxiom (put_for m t)
  IsAxiom-put_for by_truth_values = by_truth_values
  IsAxiom-put_for (by_same_sets a) = by_same_sets a
  IsAxiom-put_for (by_same_values a b) = by_same_values a b
  IsAxiom-put_for (by_conversion {x = x} {s = s} {t = t} {b = b} hs ht f) =
      subst (λ (u : Term). IsAxiom (equation b (apply (lambda x (put_for m s)) (put_for m t)) u)) (sym (put_for-replace x t s))
      (by_conversion (HasType-put_for hs) (HasType-put_for ht) (free_for-put_for t x s f))
  IsAxiom-put_for (by_choice a) = by_choice a

  Replaces-put_for : {s t c d : Term} → Replaces s t c d → Replaces (put_for m s) (put_for m t) (put_for m c) (put_for m d)
  Replaces-put_for here = here
  Replaces-put_for (in_function u r) = in_function (put_for m u) (Replaces-put_for r)
  Replaces-put_for (in_argument f r) = in_argument (put_for m f) (Replaces-put_for r)
  Replaces-put_for (in_body v r) = in_body v (Replaces-put_for r)

  -- what is derivable stays so
  pub Derivable-put_for : {H K : List Term} → ((h : Term) → Contains H h → Derivable K (put_for m h)) → {t : Term} → Derivable H t → Derivable K (put_for m t)
  Derivable-put_for given (by_axiom a) = by_axiom (IsAxiom-put_for a)
  Derivable-put_for given (by_hypothesis {s = s} c) = given s c
  Derivable-put_for given (by_rule_r d e r) = by_rule_r (Derivable-put_for given d) (Derivable-put_for given e) (Replaces-put_for r)
