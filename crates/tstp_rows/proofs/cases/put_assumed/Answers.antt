use Rattle.leo_tstp.proofs.Writing.{formulas-at}
use Rattle.tstp_rows.proofs.cases.put_assumed.Goals as goal

pub put_assumption-requires-clause-term : goal.put_assumption-requires-clause-term
put_assumption-requires-clause-term c = formulas-at c.args.bank.now c.args.hyps.now c.requires.hyps c.loop-number.number c.index-hyps-number.result c.loop-number-test.true c.index-hyps-number.is
