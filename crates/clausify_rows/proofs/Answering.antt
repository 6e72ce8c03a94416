-- What a split gives, as it is told.
use Rattle.std.proofs.Common.{ℕ, ◌≡◌, ◌<◌, List, [], length, slice_index_or}
use Rattle.leo_terms.specs.Contents.{Contents, AreTerms}
use Rattle.leo_clause.specs.declared.choices.Abbr.{Abbr}
use Rattle.leo_clause.specs.declared.clause.Clause.{Clause}
use Rattle.leo_clause.specs.declared.record.StepRecord.{StepRecord}
use Rattle.leo_clause.specs.Choices.{AreChoicesOf}
use Rattle.leo_kernel.specs.Records.{AreStepsOf, IsStepOf}
use Rattle.leo_kernel.proofs.Lists.{get-index}
use Rattle.leo_clausify.specs.declared.leaves.Leaf.{Leaf}
use Rattle.leo_clausify.specs.declared.leaves.Split.{Split}
use Rattle.leo_clausify.specs.declared.leaves.Split.TheVariants.{Clauses, Room}
use Rattle.leo_clausify.specs.Choosing.{AreInOrder}
use Rattle.leo_clausify.specs.Leaves.{IsSplit}
use Rattle.clausify_rows.specs.Boards.{AreLeaves, IsLeaf, IsSplitOf}

-- no choice symbols
pub none-in-order : (c : Contents) (items : List (ℕ × ℕ)) → items ≡ [] → AreInOrder c items
none-in-order c items e = rw e (record {
  of_bank = λ n k g. absurd (cc);
  choices = record {
    distinct = λ m n j k g h f. absurd (cc);
    closed = λ n k g. absurd (cc);
    lacking = λ m n j k g h l. absurd (cc);
  };
})

pub split-told : (old new : Contents) (before after : Abbr) (k : Clause) (s : Split) → IsSplit old new before after k s → IsSplitOf new s
split-told old new before after k (Clauses leaves) h = λ n l e. (let g = h.1 n l e in record { clause_of = g.typed.of_bank; records_of = g.steps })
split-told old new before after k Room h = tt

-- items of lists
pub leaf-at : (c : Contents) (leaves : List Leaf) → AreLeaves c leaves → (i : ℕ) (l : Leaf) → i < length leaves → l ≡ slice_index_or leaves i l → IsLeaf c l
leaf-at c leaves h i l lt e = h i l (get-index leaves i l lt e)

pub step-at : (c : Contents) (steps : List StepRecord) → AreStepsOf c steps → (i : ℕ) (s : StepRecord) → i < length steps → s ≡ slice_index_or steps i s → IsStepOf c s
step-at c steps h i s l e = h i s (get-index steps i s l e)

pub choice-at : (c : Contents) (items : List (ℕ × ℕ)) → AreChoicesOf c items → (i : ℕ) (k : ℕ × ℕ) → i < length items → k ≡ slice_index_or items i k → k.1 < length c.terms
choice-at c items h i k l e = (h i k (get-index items i k l e)).term_within

pub term-at : (c : Contents) (terms : List ℕ) → AreTerms c terms → (i t : ℕ) → i < length terms → t ≡ slice_index_or terms i t → t < length c.terms
term-at c terms h i t l e = h i t (get-index terms i t l e)
