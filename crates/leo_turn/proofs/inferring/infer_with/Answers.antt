use Rattle.leo_terms.proofs.CallerLemmas.{extends-trans}
use Rattle.leo_turn.proofs.Growing.{grows-trans}
use Rattle.leo_turn.proofs.Inferred.{with-another, with-itself}
use Rattle.leo_turn.proofs.Places.{kept-count}
use Rattle.leo_turn.proofs.inferring.infer_with.Goals as goal

pub infer_between-requires-3-clause-source : goal.infer_between-requires-3-clause-source
infer_between-requires-3-clause-source c = kept-count c.args.partner c.infer_between-2.ensures.longer c.requires.partner

pub infer_between-requires-3-clause-target : goal.infer_between-requires-3-clause-target
infer_between-requires-3-clause-target c = kept-count c.args.given c.infer_between-2.ensures.longer c.requires.given

pub returns-in_err-infer_between-3-clause-longer : goal.returns-in_err-infer_between-3-clause-longer
returns-in_err-infer_between-3-clause-longer c = grows-trans c.infer_between-2.ensures.longer c.infer_between-3.ensures.longer

pub returns-in_err-infer_between-3-clause-grows : goal.returns-in_err-infer_between-3-clause-grows
returns-in_err-infer_between-3-clause-grows c = extends-trans c.infer_between-2.ensures.grows c.infer_between-3.ensures.grows

pub returns-clause-longer : goal.returns-clause-longer
returns-clause-longer c = grows-trans c.infer_between-2.ensures.longer c.infer_between-3.ensures.longer

pub returns-clause-grows : goal.returns-clause-grows
returns-clause-grows c = extends-trans c.infer_between-2.ensures.grows c.infer_between-3.ensures.grows

pub returns-clause-inferred : goal.returns-clause-inferred
returns-clause-inferred c = with-another c.infer_between-2.ensures.grows c.infer_between-3.new.bank c.args.search.now c.infer_between-2.new.search c.infer_between-3.new.search c.args.given c.args.partner c.requires.search c.infer_between-2.ensures.longer c.if-partner-given.false c.in_ok-infer_between-2.ensures.inferred c.in_ok-infer_between-3.ensures.inferred

pub returns-then-partner-given-clause-inferred : goal.returns-then-partner-given-clause-inferred
returns-then-partner-given-clause-inferred c = with-itself c.args.bank.now c.infer_between.new.bank c.args.search.now c.infer_between.new.search c.args.given c.args.partner c.if-partner-given.true c.in_ok-infer_between.ensures.inferred
