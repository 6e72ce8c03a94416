use Rattle.std.proofs.Common.{arith}
use Rattle.leo_tstp.proofs.Writing.{formulas-at}
use Rattle.tstp_rows.proofs.cases.put_last.Goals as goal

pub put_assumption-requires-clause-term : goal.put_assumption-requires-clause-term
put_assumption-requires-clause-term c = formulas-at c.args.bank.now c.args.hyps.now c.requires.hyps _ _ (omega arith) c.index-hyps-number.is
