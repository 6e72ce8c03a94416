use Rattle.leo_top.proofs.Answering.{end_made}
use Rattle.leo_top.proofs.searching.exhausted.Goals as goal

pub returns : goal.returns
returns c = end_made c.args.about c.problem.result.now c.requires.about c.problem.ensures c.turns.ensures c.in_ok-text.ensures
