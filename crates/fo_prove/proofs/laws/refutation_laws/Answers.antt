use Rattle.fo_prove.proofs.Refuting.{refutations_replay}
use Rattle.fo_prove.proofs.laws.refutation_laws.Goals as goal

pub returns : goal.returns
returns c = refutations_replay c.member_laws.ensures.replay c.member_laws.ensures.sorted
