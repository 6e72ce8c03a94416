use Rattle.fo_super.proofs.Replaying.{members-replay}
use Rattle.fo_super.proofs.Singular.{members-same}
use Rattle.fo_super.proofs.Works.{due-sorted}
use Rattle.fo_super.proofs.laws.member_laws.Goals as goal

pub returns-clause-unique : goal.returns-clause-unique
returns-clause-unique c = members-same

pub returns-clause-replay : goal.returns-clause-replay
returns-clause-replay c = members-replay

pub returns-clause-sorted : goal.returns-clause-sorted
returns-clause-sorted c = due-sorted
