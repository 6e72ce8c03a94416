use Rattle.leo_clause.specs.Trees.{literal_at}
use Rattle.std.proofs.Common.{map}
use Rattle.leo_keep.proofs.Sending.{first-never}
use Rattle.leo_keep.proofs.heads.+may_send.Goals as goal

pub returns-then-not-may_be_among : goal.returns-then-not-may_be_among
returns-then-not-may_be_among t c =
    rw c.in-Some.ensures.cases.0 (first-never c.args.bank.now (literal_at c.args.bank.now c.in-Some.first.now) (map (literal_at c.args.bank.now) c.in-Some.rest.now) c.heads_of_literal.result c.args.others.now c.heads_of_literal.ensures c.if-not-may_be_among.ensures)
