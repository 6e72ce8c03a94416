use Rattle.conclude_rows.proofs.board.variable_types.Goals as goal

pub loop-digit-init : goal.loop-digit-init
loop-digit-init c = rw c.new-vars.ensures tt

pub loop-digit-preserved : goal.loop-digit-preserved
loop-digit-preserved c = c.put_type.ensures.vars
