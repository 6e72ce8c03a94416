use Rattle.conclude_rows.proofs.Ready.{types-end, type-within}
use Rattle.conclude_rows.proofs.board.put_type.Goals as goal

pub returns : goal.returns
returns c = record { vars = rw c.in_ok-push.ensures.ok (types-end c.args.bank.now c.args.vars.now c.index-types-place.result c.requires.vars (type-within c.args.bank.now c.args.types.now c.requires.types c.args.place c.index-types-place.result c.if-place-types.false c.index-types-place.is)) }
