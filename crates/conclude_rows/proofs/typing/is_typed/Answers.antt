use Rattle.std.proofs.Common.{map}
use Rattle.leo_terms.specs.Contents.{type_at}
use Rattle.conclude_rows.proofs.Overs.{from-on, literal-within, typed-next}
use Rattle.conclude_rows.proofs.typing.is_typed.Goals as goal

pub is_typed_literal-requires-clause-left : goal.is_typed_literal-requires-clause-left
is_typed_literal-requires-clause-left c = (literal-within c.args.bank.now c.args.clause.now.lits c.requires.literals_of c.loop-lit.lit-index c.lit-item.result (rw c.as_slice-lit-items.ensures at c.loop-lit-test.true) (rw c.as_slice-lit-items.ensures at c.lit-item.is)).0

pub is_typed_literal-requires-clause-right : goal.is_typed_literal-requires-clause-right
is_typed_literal-requires-clause-right c = (literal-within c.args.bank.now c.args.clause.now.lits c.requires.literals_of c.loop-lit.lit-index c.lit-item.result (rw c.as_slice-lit-items.ensures at c.loop-lit-test.true) (rw c.as_slice-lit-items.ensures at c.lit-item.is)).1

pub loop-lit-preserved : goal.loop-lit-preserved
loop-lit-preserved c =
    typed-next c.args.bank.now (map (type_at c.args.bank.now) c.args.clause.now.vars) c.args.clause.now.lits c.loop-lit.lit-index c.lit-item.result c.loop-lit.invariant
    (rw c.as_slice-lit-items.ensures at c.loop-lit-test.true) (rw c.as_slice-lit-items.ensures at c.lit-item.is)
    (from-on c.is_typed_literal.result c.if-not-is_typed_literal.false (rw c.as_slice.ensures at c.is_typed_literal.ensures))
