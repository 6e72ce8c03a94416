use Rattle.conclude_rows.proofs.Overs.{on-literal}
use Rattle.conclude_rows.proofs.typing.is_typed_literal.Goals as goal

pub returns : goal.returns
returns c =
    on-literal c.args.bank.now c.is_sound.ensures.sound c.args.vars.now c.args.lit.now c.type_of.result c.type_of-2.result c.ne.result c.is_over.result c.is_over-2.result
    c.requires.left c.requires.right c.type_of.ensures.number c.type_of-2.ensures.number c.ne.ensures c.if-ne.false
    c.is_over.ensures c.if-not-is_over.false c.is_over-2.ensures
