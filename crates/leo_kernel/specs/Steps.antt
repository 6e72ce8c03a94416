-- Lines of a derivation over terms as trees, and how the records of a bank read as such.
use Rattle.std.specs.Prelude.{ℕ, List, [], map, slice_get, Option, Some, None}
use Rattle.leo_terms.specs.Tree.{Tree}
use Rattle.leo_terms.specs.Contents.{Contents, tree_at}
use Rattle.leo_clause.specs.declared.record.Side.{Side}
use Rattle.leo_clause.specs.declared.record.Half.{Half}
use Rattle.leo_clause.specs.declared.record.LogicKind.{LogicKind}
use Rattle.leo_clause.specs.declared.record.Rule.{Rule}
use Rattle.leo_clause.specs.declared.record.Rule.TheVariants as record_of
use Rattle.leo_clause.specs.declared.record.StepRecord.{StepRecord}
use Rattle.leo_clause.specs.Trees.{Literal, ClauseTree, clause_at}

-- a rule, with what it was applied to
pub data StepRule : Type 0 where
  assume : (hypothesis : ℕ) → StepRule
  convert : (parent : ℕ) → StepRule
  inst : (parent : ℕ) (sigma : List Tree) → StepRule
  para : (source literal : ℕ) (side : Side) (target place : ℕ) (place_side : Side) (path : List ℕ) → StepRule
  arrange : (parent : ℕ) → StepRule
  drop_literal : (parent literal : ℕ) → StepRule
  take_apart : (parent literal : ℕ) (kind : LogicKind) (abbreviation : Option ℕ) → StepRule
  bool_ext : (parent literal : ℕ) (half : Half) → StepRule
  func_ext : (parent literal : ℕ) (abbreviation : Option ℕ) → StepRule
  decompose : (parent literal : ℕ) → StepRule
  reflexivity : StepRule
  choose : StepRule
  factor : (parent first second : ℕ) → StepRule
  abbreviate : (symbol : ℕ) → StepRule

-- a clause, and the rule that gives it
pub record Line : Type 0 where
  pub clause : ClauseTree
  pub rule : StepRule

abbrev pub rule_at : Contents → Rule → StepRule
rule_at c (record_of.Axiom h) = assume h
rule_at c (record_of.Convert p) = convert p
rule_at c (record_of.Inst p sigma) = inst p (map (tree_at c) sigma)
rule_at c (record_of.Para p i s q j r path) = para p i s q j r path
rule_at c (record_of.Arrange p) = arrange p
rule_at c (record_of.Drop p i) = drop_literal p i
rule_at c (record_of.Logic p i kind a) = take_apart p i kind a
rule_at c (record_of.BoolExt p i half) = bool_ext p i half
rule_at c (record_of.FuncExt p i a) = func_ext p i a
rule_at c (record_of.Decompose p i) = decompose p i
rule_at c record_of.Refl = reflexivity
rule_at c record_of.Choice = choose
rule_at c (record_of.Factor p i j) = factor p i j
rule_at c (record_of.Abbreviate s) = abbreviate s

abbrev pub line_at : Contents → StepRecord → Line
line_at c s = record { clause = clause_at c s.clause; rule = rule_at c s.rule }

-- the clause of a line; without variables and literals where there is no such line
abbrev pub clause_in : Option Line → ClauseTree
clause_in None = record { variables = []; literals = [] }
clause_in (Some l) = l.clause

abbrev pub clause_of : List Line → ℕ → ClauseTree
clause_of lines p = clause_in (slice_get lines p)

abbrev pub literal_of : List Line → ℕ → ℕ → Option Literal
literal_of lines p i = slice_get (clause_of lines p).literals i
