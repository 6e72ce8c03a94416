-- Records whose numbers are numbers of a bank, as every call has as its condition.
use Rattle.std.specs.Prelude.{ℕ, ◌≡◌, List, slice_get, Some}
use Rattle.leo_terms.specs.Contents.{Contents, AreTerms}
use Rattle.leo_clause.specs.declared.record.Rule.{Rule}
use Rattle.leo_clause.specs.declared.record.Rule.TheVariants as record_of
use Rattle.leo_clause.specs.declared.record.StepRecord.{StepRecord}
use Rattle.leo_clause.specs.Typed.{IsClauseOf}

abbrev pub AreTermsOfRule : Contents → Rule → Type 0
AreTermsOfRule c (record_of.Inst p sigma) = AreTerms c sigma
AreTermsOfRule c _ = Unit {0}

pub record IsStepOf (c : Contents) (s : StepRecord) : Type 0 where
  pub clause_of : IsClauseOf c s.clause
  pub terms_of : AreTermsOfRule c s.rule

abbrev pub AreStepsOf : Contents → List StepRecord → Type 0
AreStepsOf c steps = (n : ℕ) (s : StepRecord) → slice_get steps n ≡ Some s → IsStepOf c s
