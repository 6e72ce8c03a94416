use Rattle.leo_kernel.proofs.PlainRules.{after-yes}
use Rattle.leo_kernel.proofs.types.are_functions.Goals as goal

pub returns : goal.returns
returns c = after-yes c.is_function.result c.same_type.result c.is_function.ensures c.if-not-is_function.false c.same_type.ensures
