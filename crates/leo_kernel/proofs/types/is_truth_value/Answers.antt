use Rattle.leo_kernel.proofs.TypeRules.{truth-decides}
use Rattle.leo_kernel.proofs.types.is_truth_value.Goals as goal

pub returns : goal.returns
returns c = truth-decides c.args.bank.now c.type_of-found.ensures.sound c.args.t c.type_of-found.result c.truth-truth.result c.requires c.type_of-found.ensures.number c.truth-truth.ensures c.eq.result c.eq.ensures
