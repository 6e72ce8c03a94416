use Rattle.leo_keep.proofs.Sending.{among-more, among-none, on-false}
use Rattle.leo_keep.proofs.heads.+may_be_among.Goals as goal

pub returns-else-may_be_same : goal.returns-else-may_be_same
returns-else-may_be_same t c =
    on-false c.may_be_among.result (λ n. rw c.in-Some.ensures.cases.0 (among-more c.args.bank.now c.args.heads.now c.in-Some.first.now c.in-Some.rest.now (rw c.if-may_be_same.false at c.may_be_same.ensures) n)) c.may_be_among.ensures

pub returns-in-None : goal.returns-in-None
returns-in-None t c = among-none c.args.bank.now c.args.heads.now c.args.others.now c.in-None.ensures.cases
