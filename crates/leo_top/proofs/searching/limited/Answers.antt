use Rattle.leo_top.proofs.Answering.{limit_made}
use Rattle.leo_top.proofs.searching.limited.Goals as goal

pub returns : goal.returns
returns c = limit_made c.args.about c.problem.result.now c.requires.about c.problem.ensures c.requires.limit c.in_ok-text.ensures
