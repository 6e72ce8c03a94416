use Rattle.leo_kernel.proofs.TypedLits.{lit-types_differ, lit-left_fails, lit-typed}
use Rattle.leo_kernel.proofs.typed.is_typed_lit.Goals as goal

pub returns-then-ne-clause-value : goal.returns-then-ne-clause-value
returns-then-ne-clause-value c = lit-types_differ c.args.bank.now c.type_of-left_type.ensures.sound c.args.vars.now c.args.lit c.requires.left c.requires.right c.type_of-left_type.result c.type_of-right_type.result c.ne.result c.type_of-left_type.ensures.number c.type_of-right_type.ensures.number c.ne.ensures c.if-ne.true

pub returns-then-not-left-clause-value : goal.returns-then-not-left-clause-value
returns-then-not-left-clause-value c = lit-left_fails c.args.bank.now c.type_of-left_type.ensures.sound c.args.vars.now c.args.lit c.requires.left c.requires.right c.in_ok-left.left c.in_ok-left.ensures.value c.if-not-left.true

pub returns-clause-value : goal.returns-clause-value
returns-clause-value c = lit-typed c.args.bank.now c.type_of-left_type.ensures.sound c.args.vars.now c.args.lit c.requires.left c.requires.right c.type_of-left_type.result c.type_of-right_type.result c.ne.result c.in_ok-left.left c.in_ok-right.right c.type_of-left_type.ensures.number c.type_of-right_type.ensures.number c.ne.ensures c.if-ne.false c.in_ok-left.ensures.value c.if-not-left.false c.in_ok-right.ensures.value
