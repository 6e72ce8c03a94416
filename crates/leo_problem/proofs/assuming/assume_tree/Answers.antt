use Rattle.leo_terms.proofs.CallerLemmas.{extends-trans}
use Rattle.leo_problem.proofs.assuming.assume_tree.Goals as goal

pub returns-in_err-assumed-in-Ok-clause-grows : goal.returns-in_err-assumed-in-Ok-clause-grows
returns-in_err-assumed-in-Ok-clause-grows c = extends-trans c.elaborate.ensures.grows c.assume.ensures.grows

pub returns-in_ok-assumed-in-Ok-clause-grows : goal.returns-in_ok-assumed-in-Ok-clause-grows
returns-in_ok-assumed-in-Ok-clause-grows c = extends-trans c.elaborate.ensures.grows c.assume.ensures.grows
