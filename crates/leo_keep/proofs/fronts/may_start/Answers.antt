use Rattle.leo_keep.proofs.fronts.may_start.Goals as goal

pub returns-in-Some : goal.returns-in-Some
returns-in-Some c = rw c.in-Some.is c.may_send_both.ensures
