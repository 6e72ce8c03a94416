-- The steps that lead from a clause to its leaves, each from the one before it. No public contract speaks of it.
use Rattle.std.specs.Prelude.{ℕ, ◌≡◌, ◌+◌, ◌<◌, true, List, [], ◌∷◌, length, map, slice_get, Some}
use Rattle.leo_terms.specs.Contents.{Contents, AreTerms, tree_at}
use Rattle.leo_clause.specs.Choices.{Choice, symbol_of}
use Rattle.leo_clause.specs.Trees.{ClauseTree, clause_at}
use Rattle.leo_clause.specs.Typed.{IsClauseOf}
use Rattle.leo_clause.specs.declared.record.Rule.{Rule}
use Rattle.leo_clause.specs.declared.record.Rule.TheVariants as record_of
use Rattle.leo_clause.specs.declared.record.StepRecord.{StepRecord}
use Rattle.leo_kernel.specs.Acceptance.{Accepts}
use Rattle.leo_kernel.specs.Shapes.{equal}
use Rattle.leo_kernel.specs.Steps.{StepRule, convert, inst, arrange, drop_literal, take_apart, Line, clause_of}
use Rattle.leo_kernel.specs.Symbols.{abbreviation_of}
use Rattle.leo_clausify.specs.declared.moves.Move.{Move}
use Rattle.leo_clausify.specs.declared.moves.Move.TheVariants as move
use Rattle.leo_clausify.specs.declared.moves.Step.{Step}
use Rattle.leo_clausify.specs.Origins.{Origin, IsClauseFrom, AreChoicesFrom, IsLineFrom}

-- a clause, and the rule that gives it from the line with a number
pub record TreeStep : Type 0 where
  pub clause : ClauseTree
  pub rule : ℕ → StepRule

abbrev pub move_rule : Contents → Move → ℕ → StepRule
move_rule c move.Arrange p = arrange p
move_rule c (move.Omit i) p = drop_literal p i
move_rule c (move.Apart i k a) p = take_apart p i k a
move_rule c move.Convert p = convert p
move_rule c (move.Inst sigma) p = inst p (map (tree_at c) sigma)

abbrev pub step_at : Contents → Step → TreeStep
step_at c s = record { clause = clause_at c s.clause; rule = move_rule c s.rule }

abbrev pub IsMoveOf : Contents → Move → Type 0
IsMoveOf c (move.Inst sigma) = AreTerms c sigma
IsMoveOf c move.Arrange = Unit {0}
IsMoveOf c (move.Omit i) = Unit {0}
IsMoveOf c (move.Apart i k a) = Unit {0}
IsMoveOf c move.Convert = Unit {0}

-- the records of steps, where the line before them has the number p
abbrev pub rule_for : Move → ℕ → Rule
rule_for move.Arrange p = record_of.Arrange p
rule_for (move.Omit i) p = record_of.Drop p i
rule_for (move.Apart i k a) p = record_of.Logic p i k a
rule_for move.Convert p = record_of.Convert p
rule_for (move.Inst sigma) p = record_of.Inst p sigma

abbrev pub records_after : ℕ → List Step → List StepRecord
records_after p [] = []
records_after p (s ∷ ss) = record { clause = s.clause; rule = rule_for s.rule p } ∷ records_after (p + 1) ss

-- the numbers are numbers of the bank
pub record IsStepIn (c : Contents) (s : Step) : Type 0 where
  pub clause_of : IsClauseOf c s.clause
  pub terms_of : IsMoveOf c s.rule

abbrev pub AreStepsIn : Contents → List Step → Type 0
AreStepsIn c [] = Unit {0}
AreStepsIn c (s ∷ ss) = IsStepIn c s × AreStepsIn c ss

-- the first lines abbreviate the choice symbols, in order
pub record HaveChoices (choices : List Choice) (lines : List Line) : Type 0 where
  pub within : (n : ℕ) (k : Choice) → slice_get choices n ≡ Some k → n < length lines
  pub abbreviated : (n : ℕ) (k : Choice) → slice_get choices n ≡ Some k → abbreviation_of lines n ≡ Some (equal (symbol_of k) k.term)

-- from any line with the parent, among lines that abbreviate the symbols, the rule gives the clause
pub record Follows (choices : List Choice) (parent : ClauseTree) (s : TreeStep) : Type 0 where
  pub accepted : (lines : List Line) (p : ℕ) → p < length lines → clause_of lines p ≡ parent → HaveChoices choices lines → Accepts [] lines (record { clause = s.clause; rule = s.rule p })

-- each step follows from the one before it, the first from the clause `start`, and the last is `end`
abbrev pub IsChain : List Choice → ClauseTree → List TreeStep → ClauseTree → Type 0
IsChain choices start [] end = start ≡ end
IsChain choices start (s ∷ ss) end = Follows choices start s × IsChain choices s.clause ss end

-- besides, what is so of all base types and symbols of the parent and of the choice symbols is so of those of the step
pub record Descends (choices : List Choice) (parent : ClauseTree) (s : TreeStep) : Type 0 where
  pub follows : Follows choices parent s
  pub origin : (o : Origin) → o.has_base 0 ≡ true → IsClauseFrom o parent → AreChoicesFrom o choices → (p : ℕ) → IsLineFrom o (record { clause = s.clause; rule = s.rule p })

-- a chain of such steps
abbrev pub IsDescent : List Choice → ClauseTree → List TreeStep → ClauseTree → Type 0
IsDescent choices start [] end = start ≡ end
IsDescent choices start (s ∷ ss) end = Descends choices start s × IsDescent choices s.clause ss end

-- the lines of the steps, where the line before them has the number p
abbrev pub lines_after : ℕ → List TreeStep → List Line
lines_after p [] = []
lines_after p (s ∷ ss) = record { clause = s.clause; rule = s.rule p } ∷ lines_after (p + 1) ss
