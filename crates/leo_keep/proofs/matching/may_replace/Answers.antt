use Rattle.leo_keep.proofs.Numbers.{no}
use Rattle.leo_keep.proofs.Replaced.{other-type, base-decides, arrow-decides}
use Rattle.leo_keep.proofs.matching.may_replace.Goals as goal

pub returns-then-ne : goal.returns-then-ne
returns-then-ne c =
    no (other-type c.args.bank.now c.type_of.ensures.sound c.args.t c.args.ty c.requires.within c.requires.ty
    c.type_of.result c.ne.result c.type_of.ensures.number c.ne.ensures c.if-ne.true)

pub returns-in-Base : goal.returns-in-Base
returns-in-Base c =
    base-decides c.args.bank.now c.type_of.ensures.sound c.args.t c.args.ty c.requires.within c.requires.ty
    c.type_of.result c.in-Base.field-0 c.ne.result c.type_of.ensures.number c.ne.ensures c.if-ne.false c.in-Base.ensures.view
    c.is_locally_closed.result c.is_locally_closed.ensures.closed

pub returns-in-Arrow : goal.returns-in-Arrow
returns-in-Arrow c =
    arrow-decides c.args.bank.now c.type_of.ensures.sound c.args.t c.args.ty c.requires.within c.requires.ty
    c.type_of.result c.in-Arrow.field-0 c.in-Arrow.field-1 c.ne.result c.type_of.ensures.number c.ne.ensures c.if-ne.false c.in-Arrow.ensures.view
    c.is_variable.result c.is_variable.ensures
