-- Rules and lines as they are read. For private contracts.
use Rattle.leo_clause.specs.declared.record.Rule.{Rule}
use Rattle.leo_clause.specs.declared.record.Rule.TheVariants as record_of
use Rattle.leo_tstp.specs.declared.reading.trees.ParsedRule.{ParsedRule}
use Rattle.leo_tstp.specs.declared.reading.trees.ParsedRule.TheVariants as parsed
use Rattle.leo_tstp.specs.declared.reading.trees.ParsedLine.{ParsedLine}

-- a rule without terms and symbols
abbrev pub IsPlain : Rule → Type 0
IsPlain (record_of.Inst p sigma) = ⊥
IsPlain (record_of.Abbreviate s) = ⊥
IsPlain _ = Unit {0}

abbrev pub IsRuleRead : ParsedRule → Type 0
IsRuleRead (parsed.Plain r) = IsPlain r
IsRuleRead (parsed.Inst p sigma) = Unit {0}
IsRuleRead parsed.Abbreviate = Unit {0}

pub record IsLineRead (l : ParsedLine) : Type 0 where
  pub rule_read : IsRuleRead l.rule
