use Rattle.leo_terms.proofs.CallerLemmas.{extends-itself, extends-trans}
use Rattle.kernel_rows.proofs.Ready.{board-later, step-made}
use Rattle.kernel_rows.proofs.steps.step_of.Goals as goal

pub returns-in_default-clause-grows : goal.returns-in_default-clause-grows
returns-in_default-clause-grows c = extends-itself c.is_sound.ensures.sound

pub clause_of-requires : goal.clause_of-requires
clause_of-requires c = board-later c.rule_of.ensures.grows c.args.board.now c.requires

pub returns-in_err-clause-clause-grows : goal.returns-in_err-clause-clause-grows
returns-in_err-clause-clause-grows c = extends-trans c.rule_of.ensures.grows c.clause_of.ensures.grows

pub returns-in_default-3-clause-grows : goal.returns-in_default-3-clause-grows
returns-in_default-3-clause-grows c = extends-trans c.rule_of.ensures.grows c.clause_of.ensures.grows

pub returns-clause-grows : goal.returns-clause-grows
returns-clause-grows c = extends-trans c.rule_of.ensures.grows c.clause_of.ensures.grows

pub returns-clause-step : goal.returns-clause-step
returns-clause-step c = step-made c.clause_of.ensures.grows c.in-Some-3.clause c.in-Some-2.rule (rw c.in-Some-3.is at c.in_ok-clause.ensures.clause) (rw c.in-Some-2.is at c.in_ok-rule.ensures.rule)
