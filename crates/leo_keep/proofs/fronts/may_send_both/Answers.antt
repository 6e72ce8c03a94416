use Rattle.leo_keep.proofs.Fronting.{first-sends, many-sends, second-sends}
use Rattle.leo_keep.proofs.Sending.{on-false}
use Rattle.leo_keep.proofs.fronts.may_send_both.Goals as goal

pub returns-then-not-front : goal.returns-then-not-front
returns-then-not-front c = many-sends c.args.bank.now c.args.front.now c.args.heads.now c.if-not-front.true

pub returns-then-not-may_be_among : goal.returns-then-not-may_be_among
returns-then-not-may_be_among c = first-sends c.args.bank.now c.args.front.now c.args.heads.now (rw c.if-not-may_be_among.true at c.may_be_among.ensures)

pub returns : goal.returns
returns c = on-false c.may_be_among-2.result (second-sends c.args.bank.now c.args.front.now c.args.heads.now) c.may_be_among-2.ensures
