use Rattle.conclude_rows.proofs.Ready.{type-within}
use Rattle.conclude_rows.proofs.reading.variable_type.Goals as goal

pub returns-then-place-vars : goal.returns-then-place-vars
returns-then-place-vars c = type-within c.args.bank.now c.args.vars.now c.requires _ c.index-vars-place.result c.if-place-vars.true c.index-vars-place.is
