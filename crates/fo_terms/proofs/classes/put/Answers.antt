use Rattle.std.proofs.Common.{arith}
use Rattle.fo_terms.proofs.Joining.{roots_from-set}
use Rattle.fo_terms.proofs.classes.put.Goals as goal

pub returns-clause-fewer : goal.returns-clause-fewer
returns-clause-fewer c = roots_from-set 0 c.args.root c.args.root c.args.under c.args.parents.now.items (omega arith) c.requires.root (λ e. (let l = c.requires.earlier in absurd (omega arith)))
