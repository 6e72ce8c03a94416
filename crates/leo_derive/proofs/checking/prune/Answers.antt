use Rattle.std.proofs.Common.{map}
use Rattle.leo_kernel.specs.Steps.{line_at}
use Rattle.leo_derive.specs.Verdicts.{hypotheses_of}
use Rattle.leo_derive.proofs.Ordered.{accepted_in_order}
use Rattle.leo_derive.proofs.PrunedLaw.{pruned_law}
use Rattle.leo_derive.proofs.checking.prune.Goals as goal

pub pruned-requires-clause-order : goal.pruned-requires-clause-order
pruned-requires-clause-order c = accepted_in_order (hypotheses_of c.args.problem.now) (map (line_at c.args.problem.now.bank) c.args.lines.now) c.requires.refutation.0

pub returns-clause-refutation : goal.returns-clause-refutation
returns-clause-refutation c =
    pruned_law (hypotheses_of c.args.problem.now) (map (line_at c.args.problem.now.bank) c.args.lines.now) (map (line_at c.args.problem.now.bank) c.in_ok-found.found.items) c.requires.refutation.0 c.in_ok-found.ensures.pruned
