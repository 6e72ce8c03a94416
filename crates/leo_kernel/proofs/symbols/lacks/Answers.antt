use Rattle.leo_terms.specs.Contents.{tree_at}
use Rattle.leo_kernel.proofs.Lacking.{lacks-decides}
use Rattle.leo_kernel.proofs.symbols.lacks.Goals as goal

pub returns-clause-value : goal.returns-clause-value
returns-clause-value c = lacks-decides c.args.symbol (tree_at c.args.bank.now c.args.t) c.in_ok-passes.passes c.in_ok-passes.ensures.value
