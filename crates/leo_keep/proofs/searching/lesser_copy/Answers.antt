use Rattle.std.proofs.Common.{◌≡◌, ◌<◌, length, slice_get, Some, arith}
use Rattle.leo_clause.specs.Trees.{ClauseTree, clause_at}
use Rattle.leo_keep.proofs.Clauses.{typed-at}
use Rattle.leo_keep.proofs.Fronting.{front-at, front-below}
use Rattle.leo_keep.proofs.Lowering.{at-fails, at-holds, one-above, one-fails, one-holds}
use Rattle.leo_keep.proofs.Numbers.{get-index, refuted}
use Rattle.leo_keep.proofs.searching.lesser_copy.Goals as goal

pub returns-then-number-least : goal.returns-then-number-least
returns-then-number-least c = one-above _ _ c.args.number c.args.least (let h = c.if-number-least.true in omega arith)

pub bounds-fronts-at : goal.bounds-fronts-at
bounds-fronts-at c = front-below c.args.bank.now c.args.kept.now c.args.fronts.now c.requires.fronts c.args.number (let h = c.if-number-least.false in let l = c.requires.least in omega arith)

pub is_copy-requires-clause-front : goal.is_copy-requires-clause-front
is_copy-requires-clause-front c =
    let w : c.args.number < length c.args.kept.now = (let h = c.if-number-least.false in let l = c.requires.least in omega arith) in
    let l = front-below c.args.bank.now c.args.kept.now c.args.fronts.now c.requires.fronts c.args.number w in
    front-at c.args.bank.now c.args.kept.now c.args.fronts.now c.requires.fronts c.args.number c.index-kept-at.result c.index-fronts-at.result (get-index c.args.kept.now c.args.number c.index-kept-at.result w c.index-kept-at.is) (get-index c.args.fronts.now c.args.number c.index-fronts-at.result l c.index-fronts-at.is)

pub is_copy-requires-clause-clause : goal.is_copy-requires-clause-clause
is_copy-requires-clause-clause c =
    let w : c.args.number < length c.args.kept.now = (let h = c.if-number-least.false in let l = c.requires.least in omega arith) in
    (typed-at c.args.bank.now c.args.kept.now c.requires.kept c.args.number c.index-kept-at.result (get-index c.args.kept.now c.args.number c.index-kept-at.result w c.index-kept-at.is)).of_bank

pub returns-then-is_copy : goal.returns-then-is_copy
returns-then-is_copy c =
    let w : c.args.number < length c.args.kept.now = (let h = c.if-number-least.false in let l = c.requires.least in omega arith) in
    let at : slice_get c.args.kept.now c.args.number ≡ Some c.index-kept-at.result = get-index c.args.kept.now c.args.number c.index-kept-at.result w c.index-kept-at.is in
    one-holds _ _ c.args.number c.args.least (let h = c.if-number-least.false in omega arith) (at-holds c.args.bank.now c.args.kept.now (λ (k : ClauseTree). k ≡ clause_at c.args.bank.now c.args.c.now) c.args.number c.index-kept-at.result at (c.is_copy.ensures.0 c.if-is_copy.true))

pub returns-else-is_copy : goal.returns-else-is_copy
returns-else-is_copy c =
    let w : c.args.number < length c.args.kept.now = (let h = c.if-number-least.false in let l = c.requires.least in omega arith) in
    let at : slice_get c.args.kept.now c.args.number ≡ Some c.index-kept-at.result = get-index c.args.kept.now c.args.number c.index-kept-at.result w c.index-kept-at.is in
    one-fails _ _ c.args.number c.args.least (at-fails c.args.bank.now c.args.kept.now (λ (k : ClauseTree). k ≡ clause_at c.args.bank.now c.args.c.now) c.args.number c.index-kept-at.result at (refuted c.is_copy.result c.is_copy.ensures c.if-is_copy.false))
