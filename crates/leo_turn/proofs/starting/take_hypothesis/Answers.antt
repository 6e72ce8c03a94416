use Rattle.leo_terms.proofs.CallerLemmas.{extends-trans}
use Rattle.leo_turn.proofs.Assumptions.{hypothesis-taken}
use Rattle.leo_turn.proofs.starting.take_hypothesis.Goals as goal

pub returns-in_err-intake-clause-grows : goal.returns-in_err-intake-clause-grows
returns-in_err-intake-clause-grows c = extends-trans c.assume.ensures.grows c.intake.ensures.grows

pub returns-clause-taken : goal.returns-clause-taken
returns-clause-taken c = hypothesis-taken c.assume.ensures.grows c.intake.ensures.grows c.args.search.now c.assume.new.search c.intake.new.search c.args.formula c.in_ok-assume.ensures.assumed (rw c.len-line.ensures at c.in_ok-intake.ensures.intakes)

pub returns-clause-grows : goal.returns-clause-grows
returns-clause-grows c = extends-trans c.assume.ensures.grows c.intake.ensures.grows
