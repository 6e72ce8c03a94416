-- Records of a bank as lines.
use Rattle.std.proofs.Common.{ℕ, zero, suc, ◌≡◌, ◌<◌, List, [], ◌∷◌, length, map, refl, arith, ◌+◌, inl, inr}
use Rattle.std.specs.Prelude.{slice_get, slice_index_or, Some}
use Rattle.leo_terms.specs.Contents.{Contents}
use Rattle.leo_clause.specs.declared.record.StepRecord.{StepRecord}
use Rattle.leo_kernel.specs.Steps.{Line, line_at}
use Rattle.leo_derive.specs.Resting.{IsEmptyLine}
use Rattle.leo_derive.proofs.Keeping.{below_or}

pub record_stands : (steps : List StepRecord) (n : ℕ) (r : StepRecord) → n < length steps → r ≡ slice_index_or steps n r → slice_get steps n ≡ Some r
record_stands [] n r o e = absurd (omega (arith, o))
record_stands (s ∷ ss) zero r o e = let f : r ≡ s = e in rw f refl
record_stands (s ∷ ss) (suc n) r o e = record_stands ss n r (omega (arith, o)) e

pub mapped_get : (c : Contents) (steps : List StepRecord) (n : ℕ) (r : StepRecord) → slice_get steps n ≡ Some r → slice_get (map (line_at c) steps) n ≡ Some (line_at c r)
mapped_get c [] n r e = absurd cc
mapped_get c (s ∷ ss) zero r e = let f : s ≡ r = cc in rw f refl
mapped_get c (s ∷ ss) (suc n) r e = mapped_get c ss n r e

pub line_stands : (c : Contents) (steps : List StepRecord) (n : ℕ) (r : StepRecord) → n < length steps → r ≡ slice_index_or steps n r → slice_get (map (line_at c) steps) n ≡ Some (line_at c r)
line_stands c steps n r o e = mapped_get c steps n r (record_stands steps n r o e)

-- no line before one more is empty
pub one_more : (lines : List Line) (n : ℕ) (l : Line) → slice_get lines n ≡ Some l → (IsEmptyLine l → ⊥) → ((m : ℕ) (k : Line) → m < n → slice_get lines m ≡ Some k → IsEmptyLine k → ⊥) → (m : ℕ) (k : Line) → m < n + 1 → slice_get lines m ≡ Some k → IsEmptyLine k → ⊥
one_more lines n l e full before m k o g h = elim (below_or m n o) [
  | inl x ↦ before m k x g h
  | inr x ↦ (let f : slice_get lines n ≡ Some k = rw (← x) g in let same : k ≡ l = cc in full (rw same at h))
]

pub mapped_empty : {X Y : Type 0} (f : X → Y) (xs : List X) → map f xs ≡ [] → xs ≡ []
mapped_empty f [] e = refl
mapped_empty f (x ∷ xs) e = absurd cc
