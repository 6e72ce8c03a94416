use Rattle.leo_terms.specs.Contents.{tree_at}
use Rattle.leo_kernel.proofs.Defining.{no_variable-decides}
use Rattle.leo_kernel.proofs.symbols.has_no_variable.Goals as goal

pub returns : goal.returns
returns c = no_variable-decides (tree_at c.args.bank.now c.args.t) c.in_ok-passes.passes c.in_ok-passes.ensures.value
