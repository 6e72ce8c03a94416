use Rattle.leo_clause.specs.Typed.{AreTypesOf}
use Rattle.leo_terms.proofs.CallerLemmas.{extends-itself, extends-trans}
use Rattle.leo_tstp.proofs.Built.{numbering-kept, types-grow}
use Rattle.leo_tstp.proofs.Recorded.{below-later, typed-kept}
use Rattle.leo_tstp.proofs.building.records.record_of.Goals as goal

pub returns-in_err-variables-clause-grows : goal.returns-in_err-variables-clause-grows
returns-in_err-variables-clause-grows c = extends-itself c.is_sound.ensures.sound

pub clause-requires : goal.clause-requires
clause-requires c = let v : AreTypesOf c.args.bank.now c.deref.result.now = rw c.deref.ensures.value (c.in_ok-variables.ensures c.args.bank.now c.requires.numbering) in record { numbering = c.requires.numbering; variables = v; scope_of = tt }

pub rule_of-requires-clause-site : goal.rule_of-requires-clause-site
rule_of-requires-clause-site c = let v : AreTypesOf c.args.bank.now c.deref-3.result.now = rw c.deref-3.ensures.value (c.in_ok-variables.ensures c.args.bank.now c.requires.numbering) in record { numbering = numbering-kept c.clause.ensures.grows c.requires.numbering; variables = types-grow c.clause.ensures.grows _ v; scope_of = tt }

pub returns-in_err-rule-clause-grows : goal.returns-in_err-rule-clause-grows
returns-in_err-rule-clause-grows c = extends-trans c.clause.ensures.grows c.rule_of.ensures.grows

pub rule_of-requires-clause-symbol : goal.rule_of-requires-clause-symbol
rule_of-requires-clause-symbol c = below-later c.args.symbol _ _ c.clause.ensures.grows.symbols_more c.requires.symbol

pub returns-clause-built : goal.returns-clause-built
returns-clause-built c = record { typed = typed-kept c.rule_of.ensures.grows c.in_ok-clause.clause c.in_ok-clause.ensures.typed; rule = c.in_ok-rule.ensures.built }

pub returns-clause-grows : goal.returns-clause-grows
returns-clause-grows c = extends-trans c.clause.ensures.grows c.rule_of.ensures.grows
