use Rattle.leo_keep.proofs.Sending.{neither-way, on-false}
use Rattle.leo_keep.proofs.heads.may_be_same.Goals as goal

pub returns : goal.returns
returns c =
    on-false c.may_both_become-2.result
    (neither-way c.args.bank.now c.args.heads.now c.args.others.now (rw c.if-may_both_become.false at c.may_both_become.ensures)) c.may_both_become-2.ensures
