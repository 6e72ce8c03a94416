use Rattle.ext_rows.proofs.board.variable_types.Goals as goal

pub loop-letter-init : goal.loop-letter-init
loop-letter-init c = rw c.new-vars.ensures tt

pub loop-letter-preserved : goal.loop-letter-preserved
loop-letter-preserved c = c.put_type.ensures.vars
