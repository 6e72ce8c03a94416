-- Records whose symbols are symbols of a bank, as every call has as its condition.
use Rattle.std.specs.Prelude.{ℕ, ◌≡◌, ◌<◌, List, length, slice_get, Some}
use Rattle.leo_terms.specs.Contents.{Contents}
use Rattle.leo_clause.specs.declared.record.Rule.{Rule}
use Rattle.leo_clause.specs.declared.record.Rule.TheVariants as record_of
use Rattle.leo_clause.specs.declared.record.StepRecord.{StepRecord}

abbrev pub IsSymbolOfRule : Contents → Rule → Type 0
IsSymbolOfRule c (record_of.Abbreviate s) = s < length c.symbols
IsSymbolOfRule c _ = Unit {0}

abbrev pub AreSymbolsOf : Contents → List StepRecord → Type 0
AreSymbolsOf c steps = (n : ℕ) (s : StepRecord) → slice_get steps n ≡ Some s → IsSymbolOfRule c s.rule
