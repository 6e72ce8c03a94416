use Rattle.leo_terms.proofs.CallerLemmas.{extends-itself}
use Rattle.kernel_rows.proofs.rules.rule_of_words.Goals as goal

pub returns-in-abbreviate-clause-rule : goal.returns-in-abbreviate-clause-rule
returns-in-abbreviate-clause-rule c = c.abbreviation.ensures c.args.bank.now

pub returns-in-abbreviate-clause-grows : goal.returns-in-abbreviate-clause-grows
returns-in-abbreviate-clause-grows c = extends-itself c.is_sound.ensures.sound

pub returns-in-para-clause-rule : goal.returns-in-para-clause-rule
returns-in-para-clause-rule c = c.paramodulation.ensures c.args.bank.now

pub returns-in-para-clause-grows : goal.returns-in-para-clause-grows
returns-in-para-clause-grows c = extends-itself c.is_sound.ensures.sound

pub returns-in_default-clause-rule : goal.returns-in_default-clause-rule
returns-in_default-clause-rule c = c.rule_of_numbers.ensures c.args.bank.now

pub returns-in_default-clause-grows : goal.returns-in_default-clause-grows
returns-in_default-clause-grows c = extends-itself c.is_sound.ensures.sound
