use Rattle.leo_kernel.proofs.LinesGrowing.{lines-grow}
use Rattle.leo_derive.proofs.CallerLemmas.{refutation-kept}
use Rattle.derive_rows.proofs.telling.judge.Goals as goal

pub tell_pruned-requires-clause-lines : goal.tell_pruned-requires-clause-lines
tell_pruned-requires-clause-lines g c = lines-grow c.check.ensures.grows c.args.lines.now c.requires.lines

pub tell_pruned-requires-clause-refutation : goal.tell_pruned-requires-clause-refutation
tell_pruned-requires-clause-refutation g c = refutation-kept c.check.ensures.grows c.check.ensures.stays c.requires.problem c.args.lines.now c.requires.lines c.in-Ok.ensures.verdict
