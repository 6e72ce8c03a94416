use Rattle.leo_tstp.proofs.Writing.{formulas-at}
use Rattle.leo_tstp.proofs.hypotheses.write_hypotheses.Goals as goal

pub write_if_used-requires : goal.write_if_used-requires
write_if_used-requires c = formulas-at c.args.bank.now c.args.hyps.now c.requires c.loop-number.number c.index-hyps-number.result c.loop-number-test.true c.index-hyps-number.is
