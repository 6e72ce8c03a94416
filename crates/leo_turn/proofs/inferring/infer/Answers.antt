use Rattle.leo_terms.proofs.CallerLemmas.{extends-trans}
use Rattle.leo_turn.proofs.Growing.{grows-trans}
use Rattle.leo_turn.proofs.Inferred.{all-inferred}
use Rattle.leo_turn.proofs.Places.{below-grown, kept-count}
use Rattle.leo_turn.proofs.inferring.infer.Goals as goal

pub infer_with_all-requires-clause-given : goal.infer_with_all-requires-clause-given
infer_with_all-requires-clause-given c = kept-count c.args.given c.infer_alone.ensures.longer c.requires.given

pub infer_with_all-requires-clause-partners : goal.infer_with_all-requires-clause-partners
infer_with_all-requires-clause-partners c = below-grown c.args.partners.now c.infer_alone.ensures.longer c.requires.partners

pub returns-in_err-infer_with_all-clause-longer : goal.returns-in_err-infer_with_all-clause-longer
returns-in_err-infer_with_all-clause-longer c = grows-trans c.infer_alone.ensures.longer c.infer_with_all.ensures.longer

pub returns-in_err-infer_with_all-clause-grows : goal.returns-in_err-infer_with_all-clause-grows
returns-in_err-infer_with_all-clause-grows c = extends-trans c.infer_alone.ensures.grows c.infer_with_all.ensures.grows

pub returns-clause-longer : goal.returns-clause-longer
returns-clause-longer c = grows-trans c.infer_alone.ensures.longer c.infer_with_all.ensures.longer

pub returns-clause-grows : goal.returns-clause-grows
returns-clause-grows c = extends-trans c.infer_alone.ensures.grows c.infer_with_all.ensures.grows

pub returns-clause-inferred : goal.returns-clause-inferred
returns-clause-inferred c = all-inferred c.infer_alone.ensures.grows c.infer_with_all.new.bank c.args.search.now c.infer_alone.new.search c.infer_with_all.new.search c.args.given c.args.partners.now c.requires.search c.infer_alone.ensures.longer c.requires.given c.requires.partners c.in_ok-infer_alone.ensures.inferred c.in_ok-infer_with_all.ensures.inferred
