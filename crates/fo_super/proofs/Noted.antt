-- Notes on clauses.
use Rattle.std.proofs.Common.{ℕ, zero, suc, ◌≡◌, ◌∙◌, ◌<◌, ◌≤◌, List, [], ◌∷◌, ◌++◌, length, map, take, slice_get, Some, refl, sym, ap, arith, inl, inr, ◌+◌}
use Rattle.std.specs.Prelude.{bit_and}
use Rattle.std.proofs.lemmas.Bool.{cases_lt}
use Rattle.std.proofs.lemmas.List.{map-append}
use Rattle.fo_text.specs.declared.problem.FoSym.{FoSym}
use Rattle.fo_text.specs.declared.problem.FoClause.{FoClause}
use Rattle.fo_replay.specs.Replays.{clause_weight}
use Rattle.fo_super.specs.declared.notes.FoNotes.{FoNotes}
use Rattle.fo_super.specs.Marks.{mask}
use Rattle.fo_super.specs.Notes.{clause_mask, AreMoreNotes, AreNotes}
use Rattle.fo_super.specs.Outcomes.{IsIdentical}
use Rattle.fo_super.specs.Subsumption.{Subsumes}
use Rattle.fo_super.proofs.Answering.{NoneBelow}
use Rattle.fo_super.proofs.Fronts.{front-cut, front-long, front-same, front-trans}
use Rattle.fo_super.proofs.Masks.{subsumed-within}
use Rattle.fo_super.proofs.Never.{length-mapped}

pub more-same : (n : FoNotes) → AreMoreNotes n n
more-same n = record { masks = front-same n.masks; weights = front-same n.weights }

pub more-trans : (n m k : FoNotes) → AreMoreNotes n m → AreMoreNotes m k → AreMoreNotes n k
more-trans n m k h i = record { masks = front-trans n.masks m.masks k.masks h.masks i.masks; weights = front-trans n.weights m.weights k.weights h.weights i.weights }

-- a mask at a place
map-there : (kept : List FoClause) (i : ℕ) (k : FoClause) → slice_get kept i ≡ Some k → slice_get (map clause_mask kept) i ≡ Some (mask k.lits)
map-there [] i k e = absurd (let f : ⊥ = cc in f)
map-there (x ∷ kept) zero k e = (let same : x ≡ k = cc in ap (λ (y : FoClause). Some (clause_mask y)) same)
map-there (x ∷ kept) (suc i) k e = map-there kept i k e

module _ (kept : List FoClause) (masks : List ℕ) (are : masks ≡ map clause_mask kept) (c : FoClause) (m : ℕ) (is : m ≡ mask c.lits) where
  mask-there : (i : ℕ) (k : FoClause) → slice_get kept i ≡ Some k → slice_get masks i ≡ Some (mask k.lits)
  mask-there i k e = ap (λ (x : List ℕ). slice_get x i) are ∙ map-there kept i k e

  pub as-long : (n : ℕ) → n ≤ length masks → n ≤ length kept
  as-long n l = (let h : length masks ≡ length kept = ap length are ∙ length-mapped clause_mask kept in omega (arith, h, l))

  pub as-many : (n : ℕ) → n < length kept → n + 1 ≤ length masks
  as-many n l = (let h : length masks ≡ length kept = ap length are ∙ length-mapped clause_mask kept in omega (arith, h, l))

  -- none is the same where the masks are others
  pub none-copied : (from to : ℕ) → NoneBelow (λ (k : FoClause). IsIdentical k c) kept from → ((i : ℕ) → from ≤ i → i < to → slice_get masks i ≡ Some m → ⊥) → NoneBelow (λ (k : FoClause). IsIdentical k c) kept to
  none-copied from to none passed i k l at same =
      elim (cases_lt i from) [
        | inl a ↦ none i k a at same
        | inr a ↦ passed i a l (mask-there i k at ∙ ap Some (ap mask same.literals ∙ sym is))
      ]

  -- and none subsumes the clause where the masks do not lie within its mask
  pub none-subsuming : (syms : List FoSym) (from to : ℕ) → NoneBelow (λ (k : FoClause). Subsumes syms k c) kept from → ((i n : ℕ) → from ≤ i → i < to → slice_get masks i ≡ Some n → bit_and n m ≡ n → ⊥) → NoneBelow (λ (k : FoClause). Subsumes syms k c) kept to
  none-subsuming syms from to none passed i k l at h =
      elim (cases_lt i from) [
        | inl a ↦ none i k a at h
        | inr a ↦ passed i (mask k.lits) a l (mask-there i k at) (ap (bit_and (mask k.lits)) is ∙ subsumed-within syms k c h)
      ]

-- at the start
pub none-below : (P : FoClause → Type 0) (kept : List FoClause) → NoneBelow P kept 0
none-below P kept i k l e h = omega (arith, l)

-- a note that is put at the end
pub noted-more : (old new : FoNotes) (c : FoClause) → new.masks ≡ old.masks ++ mask c.lits ∷ [] → new.weights ≡ old.weights ++ clause_weight c ∷ [] → (cs : List FoClause) → AreNotes old cs → AreNotes new (cs ++ c ∷ [])
noted-more old new c e f cs h = record {
  masks = e ∙ ap (λ (x : List ℕ). x ++ mask c.lits ∷ []) h.masks ∙ sym (map-append clause_mask cs (c ∷ []));
  weights = f ∙ ap (λ (x : List ℕ). x ++ clause_weight c ∷ []) h.weights ∙ sym (map-append clause_weight cs (c ∷ []));
}

-- as many notes as clauses
pub notes-long : (n m : FoNotes) (cs : List FoClause) (count : ℕ) → AreNotes n cs → AreMoreNotes n m → count ≡ length cs → (count ≤ length m.masks) × (count ≤ length m.weights)
notes-long n m cs count h k e =
    let a : length n.masks ≡ length cs = ap length h.masks ∙ length-mapped clause_mask cs in
    let b : length n.weights ≡ length cs = ap length h.weights ∙ length-mapped clause_weight cs in
    let c = front-long n.masks m.masks k.masks in
    let d = front-long n.weights m.weights k.weights in
    (omega (arith, a, c, e), omega (arith, b, d, e))

-- cut back
abbrev make : List ℕ → List ℕ → FoNotes
make ms ws = record { masks = ms; weights = ws }

pub notes-cut : (cut old new : FoNotes) (cs : List FoClause) (m : ℕ) → AreNotes old cs → AreMoreNotes old new → m ≡ length cs → cut.masks ≡ take m new.masks → cut.weights ≡ take m new.weights → cut ≡ old
notes-cut cut old new cs m h k e f g =
    let a : length old.masks ≡ length cs = ap length h.masks ∙ length-mapped clause_mask cs in
    let b : length old.weights ≡ length cs = ap length h.weights ∙ length-mapped clause_weight cs in
    ap (λ (x : List ℕ). make x cut.weights) (f ∙ front-cut old.masks new.masks m k.masks (e ∙ sym a)) ∙ ap (make old.masks) (g ∙ front-cut old.weights new.weights m k.weights (e ∙ sym b))
