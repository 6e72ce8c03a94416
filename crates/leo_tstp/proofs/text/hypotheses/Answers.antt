use Rattle.leo_tstp.proofs.Writing.{formulas-at}
use Rattle.leo_tstp.proofs.text.hypotheses.Goals as goal

pub hypothesis-requires : goal.hypothesis-requires
hypothesis-requires c = formulas-at c.args.bank.now c.args.hyps.now c.requires c.loop-number.number c.index-hyps-number.result c.loop-number-test.true c.index-hyps-number.is
