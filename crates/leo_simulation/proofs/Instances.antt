-- From a formula, its instance with terms for its variables, all at once, where the terms avoid the numbers of the variables.
use Rattle.std.proofs.Common.{◌≡◌, ℕ, zero, suc, ◌+◌, ◌<◌, ◌≤◌, Bool, true, false, ◌&&◌, ◌||◌, cond, List, [], ◌∷◌, length, slice_get, Some, ◌⊎◌, inl, inr, refl, sym, ap, ◌∙◌, subst, eqb, eq-eqb, ltb, arith}
use Rattle.std.proofs.lemmas.Bool.{eqb-true, ltb-false, and_from}
use Rattle.std.proofs.lemmas.Option.{slice_get_within}
use Rattle.leo_q0.specs.Terms.{SimpleType, same_type, Variable, Term, variable, constant, identity, choice, apply, lambda, HasType, IsFormula}
use Rattle.leo_q0.specs.Substitution.{is_free, is_free_for, replace}
use Rattle.leo_q0.specs.Derivations.{Derivable}
use Rattle.leo_q0.proofs.Variables.{same_type-refl}
use Rattle.leo_q0.proofs.WellTyped.{HasType-replace}
use Rattle.leo_sound.proofs.Places.{Closed}
use Rattle.leo_sound.proofs.Unfree.{replace_unfree, free_for_unfree}
use Rattle.leo_sound.proofs.Logic.{substituted}
use Rattle.leo_terms.specs.Decode.{named}

-- a lambda whose variable has a number below the limit is closed, of any other the body is looked at
abbrev pub LowOrHigh : Bool → Type 0 → Type 0 → Type 0
LowOrHigh true Low High = Low
LowOrHigh false Low High = High

-- the variables with numbers from `first` on have these types
abbrev pub IsOpenFor : ℕ → ℕ → List SimpleType → Term → Type 0
IsOpenFor limit first types (variable v) = (i : ℕ) (a : SimpleType) → slice_get types i ≡ Some a → v.number ≡ first + i → v.type ≡ a
IsOpenFor limit first types (constant n a) = Unit {0}
IsOpenFor limit first types (identity a) = Unit {0}
IsOpenFor limit first types (choice a) = Unit {0}
IsOpenFor limit first types (apply f t) = IsOpenFor limit first types f × IsOpenFor limit first types t
IsOpenFor limit first types (lambda v t) = LowOrHigh (ltb v.number limit) (Closed (lambda v t)) (IsOpenFor limit first types t)

-- no variable has one of `count` numbers from `first` on
abbrev pub Avoids : ℕ → ℕ → ℕ → Term → Type 0
Avoids limit first count (variable v) = (v.number < first) ⊎ (first + count ≤ v.number)
Avoids limit first count (constant n a) = Unit {0}
Avoids limit first count (identity a) = Unit {0}
Avoids limit first count (choice a) = Unit {0}
Avoids limit first count (apply f t) = Avoids limit first count f × Avoids limit first count t
Avoids limit first count (lambda v t) = LowOrHigh (ltb v.number limit) (Closed (lambda v t)) (Avoids limit first count t)

-- no number from `limit` on is that of a free variable
abbrev pub IsFreeBelow : ℕ → Term → Type 0
IsFreeBelow limit t = (v : Variable) → limit ≤ v.number → is_free v t ≡ false

-- what stands for a variable: the terms are for the numbers from `first` on
abbrev pub image : ℕ → List Term → Variable → Term
image first [] v = variable v
image first (s ∷ ss) v = cond (eqb v.number first) s (image (suc first) ss v)

-- the term with these in the place of its variables
abbrev pub mapped : ℕ → ℕ → List Term → Term → Term
mapped limit first ss (variable v) = image first ss v
mapped limit first ss (constant n a) = constant n a
mapped limit first ss (identity a) = identity a
mapped limit first ss (choice a) = choice a
mapped limit first ss (apply f t) = apply (mapped limit first ss f) (mapped limit first ss t)
mapped limit first ss (lambda v t) = cond (ltb v.number limit) (lambda v t) (lambda v (mapped limit first ss t))

-- one term for one number
abbrev one_mapped : ℕ → ℕ → Term → Term → Term
one_mapped limit n s (variable v) = cond (eqb v.number n) s (variable v)
one_mapped limit n s (constant m a) = constant m a
one_mapped limit n s (identity a) = identity a
one_mapped limit n s (choice a) = choice a
one_mapped limit n s (apply f t) = apply (one_mapped limit n s f) (one_mapped limit n s t)
one_mapped limit n s (lambda v t) = cond (ltb v.number limit) (lambda v t) (lambda v (one_mapped limit n s t))

not_equal : (m n : ℕ) → (m ≡ n → ⊥) → eqb m n ≡ false
not_equal m n h = go (eqb m n) refl
  where
    go : (b : Bool) → eqb m n ≡ b → b ≡ false
    go true e = absurd (h (eqb-true m n e))
    go false e = refl

replaced_variable : (n : ℕ) (a : SimpleType) (s : Term) (v : Variable) (b : Bool) → eqb v.number n ≡ b → (v.number ≡ n → v.type ≡ a) →
    cond (eqb n v.number && same_type a v.type) s (variable v) ≡ cond b s (variable v)
replaced_variable n a s v true e h =
    let k : v.number ≡ n = eqb-true v.number n e in
    let t : v.type ≡ a = h k in
    rw (eq-eqb n v.number (sym k), t, same_type-refl a) refl
replaced_variable n a s v false e h =
    let k : eqb n v.number ≡ false = not_equal n v.number (λ (q : n ≡ v.number). (let r = eq-eqb v.number n (sym q) in let f : ⊥ = cc in f)) in
    rw k refl

replaced_lambda : (n : ℕ) (a : SimpleType) (v : Variable) (s t : Term) → n < v.number → cond (eqb n v.number && same_type a v.type) s t ≡ t
replaced_lambda n a v s t h = rw (not_equal n v.number (λ e. omega (arith, e))) refl

or_yes : (b : Bool) → (b || true) ≡ true
or_yes true = refl
or_yes false = refl

module _ (limit : ℕ) where
  -- Andrews' substitution is this, where no lambda binds the variable
  replace_is : (first : ℕ) (a : SimpleType) (types : List SimpleType) (s t : Term) → first < limit → IsOpenFor limit first (a ∷ types) t →
      replace (named first a) s t ≡ one_mapped limit first s t
  replace_is first a types s (variable v) lt h = replaced_variable first a s v (eqb v.number first) refl (λ e. h 0 a refl (omega (arith, e)))
  replace_is first a types s (constant n b) lt h = refl
  replace_is first a types s (identity b) lt h = refl
  replace_is first a types s (choice b) lt h = refl
  replace_is first a types s (apply f t) lt h = rw (replace_is first a types s f lt h.0, replace_is first a types s t lt h.1) refl
  replace_is first a types s (lambda v t) lt h = go (replace_is first a types s t lt) (ltb v.number limit) refl h
    where
      go : (IsOpenFor limit first (a ∷ types) t → replace (named first a) s t ≡ one_mapped limit first s t) →
          (b : Bool) → ltb v.number limit ≡ b → LowOrHigh b (Closed (lambda v t)) (IsOpenFor limit first (a ∷ types) t) →
          replace (named first a) s (lambda v t) ≡ cond b (lambda v t) (lambda v (one_mapped limit first s t))
      go inner true e h = replace_unfree (named first a) s (lambda v t) (h (named first a))
      go inner false e h =
          let high = ltb-false v.number limit e in
          replaced_lambda first a v (lambda v t) (lambda v (replace (named first a) s t)) (omega (arith, high, lt)) ∙ ap (lambda v) (inner h)

  -- a term without free variables from `limit` on may be put in
  free_for_high : (first : ℕ) (types : List SimpleType) (x : Variable) (s t : Term) → IsFreeBelow limit s → IsOpenFor limit first types t → is_free_for s x t ≡ true
  free_for_high first types x s (variable v) f h = refl
  free_for_high first types x s (constant n a) f h = refl
  free_for_high first types x s (identity a) f h = refl
  free_for_high first types x s (choice a) f h = refl
  free_for_high first types x s (apply g t) f h = and_from _ _ (free_for_high first types x s g f h.0) (free_for_high first types x s t f h.1)
  free_for_high first types x s (lambda v t) f h = go (free_for_high first types x s t f) (ltb v.number limit) refl h
    where
      go : (IsOpenFor limit first types t → is_free_for s x t ≡ true) → (b : Bool) → ltb v.number limit ≡ b →
          LowOrHigh b (Closed (lambda v t)) (IsOpenFor limit first types t) → is_free_for s x (lambda v t) ≡ true
      go inner true e h = free_for_unfree x s (lambda v t) (h x)
      go inner false e h = rw (f v (ltb-false v.number limit e), inner h) (or_yes _)

  -- a term that avoids the numbers stays as it is
  pub avoiding_image : (first count : ℕ) (ss : List Term) (v : Variable) → length ss ≤ count → (v.number < first) ⊎ (first + count ≤ v.number) → image first ss v ≡ variable v
  avoiding_image first count [] v le h = refl
  avoiding_image first zero (s ∷ ss) v le h = absurd (let f : ⊥ = omega (arith, le) in f)
  avoiding_image first (suc count) (s ∷ ss) v le h =
      rw (not_equal v.number first (λ e. different h e)) (avoiding_image (suc first) count ss v (omega (arith, le)) (next h))
    where
      different : (v.number < first) ⊎ (first + suc count ≤ v.number) → v.number ≡ first → ⊥
      different (inl k) e = omega (arith, k, e)
      different (inr k) e = omega (arith, k, e)

      next : (v.number < first) ⊎ (first + suc count ≤ v.number) → (v.number < suc first) ⊎ (suc first + count ≤ v.number)
      next (inl k) = inl (omega (arith, k))
      next (inr k) = inr (omega (arith, k))

  pub avoiding_mapped : (first count : ℕ) (ss : List Term) (t : Term) → length ss ≤ count → Avoids limit first count t → mapped limit first ss t ≡ t
  avoiding_mapped first count ss (variable v) le h = avoiding_image first count ss v le h
  avoiding_mapped first count ss (constant n a) le h = refl
  avoiding_mapped first count ss (identity a) le h = refl
  avoiding_mapped first count ss (choice a) le h = refl
  avoiding_mapped first count ss (apply f t) le h = rw (avoiding_mapped first count ss f le h.0, avoiding_mapped first count ss t le h.1) refl
  avoiding_mapped first count ss (lambda v t) le h = go (avoiding_mapped first count ss t le) (ltb v.number limit) h
    where
      go : (Avoids limit first count t → mapped limit first ss t ≡ t) → (b : Bool) → LowOrHigh b (Closed (lambda v t)) (Avoids limit first count t) →
          cond b (lambda v t) (lambda v (mapped limit first ss t)) ≡ lambda v t
      go inner true h = refl
      go inner false h = ap (lambda v) (inner h)

  chosen_mapped : (b : Bool) (first : ℕ) (ss : List Term) (s : Term) (v : Variable) → mapped limit first ss s ≡ s → mapped limit first ss (cond b s (variable v)) ≡ cond b s (image first ss v)
  chosen_mapped true first ss s v e = e
  chosen_mapped false first ss s v e = refl

  -- one after the other is all at once
  one_then_rest : (first : ℕ) (ss : List Term) (s t : Term) → mapped limit (suc first) ss s ≡ s → mapped limit (suc first) ss (one_mapped limit first s t) ≡ mapped limit first (s ∷ ss) t
  one_then_rest first ss s (variable v) e = chosen_mapped (eqb v.number first) (suc first) ss s v e
  one_then_rest first ss s (constant n a) e = refl
  one_then_rest first ss s (identity a) e = refl
  one_then_rest first ss s (choice a) e = refl
  one_then_rest first ss s (apply f t) e = rw (one_then_rest first ss s f e, one_then_rest first ss s t e) refl
  one_then_rest first ss s (lambda v t) e = go (one_then_rest first ss s t e) (ltb v.number limit) refl
    where
      go : mapped limit (suc first) ss (one_mapped limit first s t) ≡ mapped limit first (s ∷ ss) t → (b : Bool) → ltb v.number limit ≡ b →
          mapped limit (suc first) ss (cond b (lambda v t) (lambda v (one_mapped limit first s t))) ≡ cond b (lambda v t) (lambda v (mapped limit first (s ∷ ss) t))
      go inner true k = rw k refl
      go inner false k = rw k (ap (lambda v) inner)

  -- what avoids the numbers is open for any types of theirs
  avoiding_open : (first count : ℕ) (types : List SimpleType) (t : Term) → length types ≤ count → Avoids limit first count t → IsOpenFor limit first types t
  avoiding_open first count types (variable v) le h = λ i a e k. (let lt = slice_get_within types i a e in absurd (outside i lt k h))
    where
      outside : (i : ℕ) → i < length types → v.number ≡ first + i → (v.number < first) ⊎ (first + count ≤ v.number) → ⊥
      outside i lt k (inl q) = omega (arith, k, q)
      outside i lt k (inr q) = omega (arith, k, q, lt, le)
  avoiding_open first count types (constant n a) le h = tt
  avoiding_open first count types (identity a) le h = tt
  avoiding_open first count types (choice a) le h = tt
  avoiding_open first count types (apply f t) le h = (avoiding_open first count types f le h.0, avoiding_open first count types t le h.1)
  avoiding_open first count types (lambda v t) le h = go (avoiding_open first count types t le) (ltb v.number limit) h
    where
      go : (Avoids limit first count t → IsOpenFor limit first types t) → (b : Bool) → LowOrHigh b (Closed (lambda v t)) (Avoids limit first count t) →
          LowOrHigh b (Closed (lambda v t)) (IsOpenFor limit first types t)
      go inner true h = h
      go inner false h = inner h

  chosen_open : (b : Bool) (first : ℕ) (types : List SimpleType) (s : Term) (v : Variable) → IsOpenFor limit first types s → IsOpenFor limit first types (variable v) →
      IsOpenFor limit first types (cond b s (variable v))
  chosen_open true first types s v h k = h
  chosen_open false first types s v h k = k

  -- the rest of the numbers is open afterwards
  open_rest : (first : ℕ) (a : SimpleType) (types : List SimpleType) (s t : Term) → IsOpenFor limit (suc first) types s → IsOpenFor limit first (a ∷ types) t →
      IsOpenFor limit (suc first) types (one_mapped limit first s t)
  open_rest first a types s (variable v) hs h = chosen_open (eqb v.number first) (suc first) types s v hs (λ i b e k. h (suc i) b e (omega (arith, k)))
  open_rest first a types s (constant n b) hs h = tt
  open_rest first a types s (identity b) hs h = tt
  open_rest first a types s (choice b) hs h = tt
  open_rest first a types s (apply f t) hs h = (open_rest first a types s f hs h.0, open_rest first a types s t hs h.1)
  open_rest first a types s (lambda v t) hs h = go (open_rest first a types s t hs) (ltb v.number limit) refl h
    where
      go : (IsOpenFor limit first (a ∷ types) t → IsOpenFor limit (suc first) types (one_mapped limit first s t)) → (b : Bool) → ltb v.number limit ≡ b →
          LowOrHigh b (Closed (lambda v t)) (IsOpenFor limit first (a ∷ types) t) → IsOpenFor limit (suc first) types (cond b (lambda v t) (lambda v (one_mapped limit first s t)))
      go inner true e h = rw e h
      go inner false e h = rw e (inner h)

  -- terms of these types that avoid `count` numbers from `first` on
  abbrev pub AreTermsFor : ℕ → ℕ → List SimpleType → List Term → Type 0
  AreTermsFor first count [] [] = Unit {0}
  AreTermsFor first count [] (s ∷ ss) = ⊥
  AreTermsFor first count (a ∷ types) [] = ⊥
  AreTermsFor first count (a ∷ types) (s ∷ ss) = HasType s a × IsFreeBelow limit s × Avoids limit first count s × AreTermsFor first count types ss

  same_length : (first count : ℕ) (types : List SimpleType) (ss : List Term) → AreTermsFor first count types ss → length ss ≡ length types
  same_length first count [] [] h = refl
  same_length first count [] (s ∷ ss) h = absurd h
  same_length first count (a ∷ types) [] h = absurd h
  same_length first count (a ∷ types) (s ∷ ss) h = ap suc (same_length first count types ss h.3)

  fewer : (first count : ℕ) (t : Term) → Avoids limit first (suc count) t → Avoids limit (suc first) count t
  fewer first count (variable v) (inl k) = inl (omega (arith, k))
  fewer first count (variable v) (inr k) = inr (omega (arith, k))
  fewer first count (constant n a) h = tt
  fewer first count (identity a) h = tt
  fewer first count (choice a) h = tt
  fewer first count (apply f t) h = (fewer first count f h.0, fewer first count t h.1)
  fewer first count (lambda v t) h = go (fewer first count t) (ltb v.number limit) h
    where
      go : (Avoids limit first (suc count) t → Avoids limit (suc first) count t) → (b : Bool) → LowOrHigh b (Closed (lambda v t)) (Avoids limit first (suc count) t) →
          LowOrHigh b (Closed (lambda v t)) (Avoids limit (suc first) count t)
      go inner true h = h
      go inner false h = inner h

  fewer_for : (first count : ℕ) (types : List SimpleType) (ss : List Term) → AreTermsFor first (suc count) types ss → AreTermsFor (suc first) count types ss
  fewer_for first count [] [] h = tt
  fewer_for first count [] (s ∷ ss) h = h
  fewer_for first count (a ∷ types) [] h = h
  fewer_for first count (a ∷ types) (s ∷ ss) h = (h.0, h.1, fewer first count s h.2, fewer_for first count types ss h.3)

  nothing_mapped : (first : ℕ) (t : Term) → mapped limit first [] t ≡ t
  nothing_mapped first (variable v) = refl
  nothing_mapped first (constant n a) = refl
  nothing_mapped first (identity a) = refl
  nothing_mapped first (choice a) = refl
  nothing_mapped first (apply f t) = rw (nothing_mapped first f, nothing_mapped first t) refl
  nothing_mapped first (lambda v t) = go (nothing_mapped first t) (ltb v.number limit)
    where
      go : mapped limit first [] t ≡ t → (b : Bool) → cond b (lambda v t) (lambda v (mapped limit first [] t)) ≡ lambda v t
      go inner true = refl
      go inner false = ap (lambda v) inner

  module _ {H : List Term} where
    -- the instance with terms that avoid the numbers of the variables
    pub apart_instance : (first count : ℕ) (types : List SimpleType) (ss : List Term) (t : Term) → length types ≤ count → first + length types ≤ limit →
        AreTermsFor first count types ss → IsOpenFor limit first types t → IsFormula t → Derivable H t →
        Derivable H (mapped limit first ss t) × IsFormula (mapped limit first ss t)
    apart_instance first count [] [] t le fits h o ht d = (subst (Derivable H) (sym (nothing_mapped first t)) d, subst IsFormula (sym (nothing_mapped first t)) ht)
    apart_instance first count [] (s ∷ ss) t le fits h o ht d = absurd h
    apart_instance first count (a ∷ types) [] t le fits h o ht d = absurd h
    apart_instance first zero (a ∷ types) (s ∷ ss) t le fits h o ht d = absurd (let f : ⊥ = omega (arith, le) in f)
    apart_instance first (suc count) (a ∷ types) (s ∷ ss) t le fits h o ht d =
        let x = named first a in
        let e : replace x s t ≡ one_mapped limit first s t = replace_is first a types s t (omega (arith, fits)) o in
        let free = free_for_high first (a ∷ types) x s t h.1 o in
        let one : Derivable H (one_mapped limit first s t) = subst (Derivable H) e (substituted x s ht h.0 free d) in
        let one_formula : IsFormula (one_mapped limit first s t) = subst IsFormula e (HasType-replace x s ht h.0) in
        let less = fewer first count s h.2 in
        let rest = fewer_for first count types ss h.3 in
        let le' : length types ≤ count = omega (arith, le) in
        let open_s = avoiding_open (suc first) count types s le' less in
        let all = apart_instance (suc first) count types ss (one_mapped limit first s t) le' (omega (arith, fits)) rest (open_rest first a types s t open_s o) one_formula one in
        let stays : mapped limit (suc first) ss s ≡ s = avoiding_mapped (suc first) count ss s (omega (arith, same_length (suc first) count types ss rest, le')) less in
        let whole = one_then_rest first ss s t stays in
        (subst (Derivable H) whole all.0, subst IsFormula whole all.1)
