use Rattle.std.proofs.Common.{◌≡◌}
use Rattle.leo_clause.specs.declared.clause.Clause.{Clause}
use Rattle.leo_clause.specs.Trees.{ClauseTree, clause_at}
use Rattle.leo_keep.proofs.Numbers.{get-index, none-next, refuted}
use Rattle.leo_keep.proofs.Clauses.{least-at, none-of, typed-at}
use Rattle.leo_keep.proofs.Fronting.{front-at, front-below}
use Rattle.leo_keep.proofs.searching.first_copy.Goals as goal

pub bounds-fronts-number : goal.bounds-fronts-number
bounds-fronts-number c = front-below c.args.bank.now c.args.kept.now c.args.fronts.now c.requires.fronts c.loop-number.number c.loop-number-test.true

pub is_copy-requires-clause-front : goal.is_copy-requires-clause-front
is_copy-requires-clause-front c =
    let l = front-below c.args.bank.now c.args.kept.now c.args.fronts.now c.requires.fronts c.loop-number.number c.loop-number-test.true in
    front-at c.args.bank.now c.args.kept.now c.args.fronts.now c.requires.fronts c.loop-number.number c.index-kept-number.result c.index-fronts-number.result (get-index c.args.kept.now c.loop-number.number c.index-kept-number.result c.loop-number-test.true c.index-kept-number.is) (get-index c.args.fronts.now c.loop-number.number c.index-fronts-number.result l c.index-fronts-number.is)

pub is_copy-requires-clause-clause : goal.is_copy-requires-clause-clause
is_copy-requires-clause-clause c = (typed-at c.args.bank.now c.args.kept.now c.requires.kept c.loop-number.number c.index-kept-number.result (get-index c.args.kept.now c.loop-number.number c.index-kept-number.result c.loop-number-test.true c.index-kept-number.is)).of_bank

pub returns-then-is_copy : goal.returns-then-is_copy
returns-then-is_copy c =
    least-at c.args.bank.now c.args.kept.now (λ (k : ClauseTree). k ≡ clause_at c.args.bank.now c.args.c.now) c.loop-number.number c.index-kept-number.result c.loop-number.invariant (get-index c.args.kept.now c.loop-number.number c.index-kept-number.result c.loop-number-test.true c.index-kept-number.is) (c.is_copy.ensures.0 c.if-is_copy.true)

pub loop-number-preserved : goal.loop-number-preserved
loop-number-preserved c =
    none-next (λ (k : Clause). clause_at c.args.bank.now k ≡ clause_at c.args.bank.now c.args.c.now) c.args.kept.now c.loop-number.number c.index-kept-number.result c.loop-number.invariant (get-index c.args.kept.now c.loop-number.number c.index-kept-number.result c.loop-number-test.true c.index-kept-number.is) (refuted c.is_copy.result c.is_copy.ensures c.if-is_copy.false)

pub returns : goal.returns
returns c = none-of c.args.bank.now c.args.kept.now (λ (k : ClauseTree). k ≡ clause_at c.args.bank.now c.args.c.now) c.loop-number.number c.loop-number.invariant c.loop-number-test.false
