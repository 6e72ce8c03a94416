-- Tautologies by their tables: a proposition over the first n atoms is tried at all their values.
use Rattle.std.proofs.Common.{◌≡◌, ℕ, zero, suc, Bool, true, false, ◌&&◌, List, [], ◌∷◌, refl}
use Rattle.std.proofs.lemmas.Bool.{and_parts}
use Rattle.leo_q0.specs.Terms.{Term}
use Rattle.leo_q0.specs.Derivations.{Derivable}
use Rattle.leo_sound.specs.Propositions.{Proposition, atom, truth_value, negation, both, either, implies, equals, value_at, value, formula_of}
use Rattle.leo_sound.proofs.Tautologies.{AreFormulas, tautology}

-- whether a number is below n, by a test that computes
abbrev below : ℕ → ℕ → Bool
below m zero = false
below zero (suc n) = true
below (suc m) (suc n) = below m n

-- whether all atoms have numbers below n
abbrev pub atoms_below : ℕ → Proposition → Bool
atoms_below n (atom m) = below m n
atoms_below n (truth_value b) = true
atoms_below n (negation p) = atoms_below n p
atoms_below n (both p q) = atoms_below n p && atoms_below n q
atoms_below n (either p q) = atoms_below n p && atoms_below n q
atoms_below n (implies p q) = atoms_below n p && atoms_below n q
atoms_below n (equals p q) = atoms_below n p && atoms_below n q

-- the first n values
abbrev firsts : ℕ → List Bool → List Bool
firsts zero bs = []
firsts (suc n) [] = true ∷ firsts n []
firsts (suc n) (b ∷ bs) = b ∷ firsts n bs

-- a test of all lists of n values
abbrev for_all : ℕ → (List Bool → Bool) → Bool
for_all zero test = test []
for_all (suc n) test = for_all n (λ bs. test (true ∷ bs)) && for_all n (λ bs. test (false ∷ bs))

-- whether the proposition has the value true, whatever its n atoms are
abbrev pub always : ℕ → Proposition → Bool
always n p = for_all n (λ bs. value bs p)

first_value : (n m : ℕ) (bs : List Bool) → below m n ≡ true → value_at bs m ≡ value_at (firsts n bs) m
first_value zero m bs h = cc
first_value (suc n) zero [] h = refl
first_value (suc n) zero (b ∷ bs) h = refl
first_value (suc n) (suc m) [] h = first_value n m [] h
first_value (suc n) (suc m) (b ∷ bs) h = first_value n m bs h

same_value : (n : ℕ) (bs : List Bool) (p : Proposition) → atoms_below n p ≡ true → value bs p ≡ value (firsts n bs) p
same_value n bs (atom m) h = first_value n m bs h
same_value n bs (truth_value b) h = refl
same_value n bs (negation p) h = rw (same_value n bs p h) refl
same_value n bs (both p q) h = let k = and_parts _ _ h in rw (same_value n bs p k.0, same_value n bs q k.1) refl
same_value n bs (either p q) h = let k = and_parts _ _ h in rw (same_value n bs p k.0, same_value n bs q k.1) refl
same_value n bs (implies p q) h = let k = and_parts _ _ h in rw (same_value n bs p k.0, same_value n bs q k.1) refl
same_value n bs (equals p q) h = let k = and_parts _ _ h in rw (same_value n bs p k.0, same_value n bs q k.1) refl

at_each : (n : ℕ) (test : List Bool → Bool) (bs : List Bool) → for_all n test ≡ true → test (firsts n bs) ≡ true
at_each zero test bs h = h
at_each (suc n) test [] h = let k = and_parts _ _ h in at_each n (λ cs. test (true ∷ cs)) [] k.0
at_each (suc n) test (true ∷ bs) h = let k = and_parts _ _ h in at_each n (λ cs. test (true ∷ cs)) bs k.0
at_each (suc n) test (false ∷ bs) h = let k = and_parts _ _ h in at_each n (λ cs. test (false ∷ cs)) bs k.1

-- a proposition that is always true is derivable for all formulas
pub by_table : {H : List Term} (n : ℕ) (atoms : List Term) (p : Proposition) → AreFormulas atoms → atoms_below n p ≡ true → always n p ≡ true →
    Derivable H (formula_of atoms p)
by_table n atoms p h below holds =
    tautology atoms p h (λ bs. rw (same_value n bs p below) (at_each n (λ cs. value cs p) bs holds))
