use Rattle.std.proofs.Common.{map}
use Rattle.leo_terms.specs.Contents.{type_at}
use Rattle.leo_kernel.proofs.TypedLits.{literals-at}
use Rattle.leo_kernel.proofs.GivenTerms.{all-declared, one-undeclared}
use Rattle.leo_kernel.proofs.given.are_declared.Goals as goal

pub is_declared_lit-requires-clause-left : goal.is_declared_lit-requires-clause-left
is_declared_lit-requires-clause-left c = (literals-at c.args.bank.now c.args.lits.now c.requires.lits c.loop-lit.lit-index c.lit-item.result c.loop-lit-test.true c.lit-item.is).0

pub is_declared_lit-requires-clause-right : goal.is_declared_lit-requires-clause-right
is_declared_lit-requires-clause-right c = (literals-at c.args.bank.now c.args.lits.now c.requires.lits c.loop-lit.lit-index c.lit-item.result c.loop-lit-test.true c.lit-item.is).1

pub returns-then-not-declared : goal.returns-then-not-declared
returns-then-not-declared c = one-undeclared c.args.bank.now (map (type_at c.args.bank.now) c.args.vars.now) c.args.lits.now c.loop-lit.lit-index c.lit-item.result c.in_ok-declared.declared c.loop-lit-test.true c.lit-item.is c.in_ok-declared.ensures.value c.if-not-declared.true

pub returns : goal.returns
returns c = all-declared c.args.bank.now (map (type_at c.args.bank.now) c.args.vars.now) c.args.lits.now c.loop-lit.lit-index c.loop-lit-test.false c.loop-lit.invariant.0
