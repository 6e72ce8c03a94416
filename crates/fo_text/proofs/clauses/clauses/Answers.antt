use Rattle.std.proofs.Common.{arith, ◌<◌, length}
use Rattle.std.proofs.lemmas.Result.{err_from_is_err_and}
use Rattle.std.specs.List.{flat_map}
use Rattle.fo_text.specs.Problems.{IsClause}
use Rattle.fo_text.specs.Spellings.{clause_text}
use Rattle.fo_text.specs.Pieces.{AreMany}
use Rattle.fo_text.proofs.Composing.{stop-behind, refuses-same, refuses-item}
use Rattle.fo_text.proofs.ClauseReading.{clause-code}
use Rattle.fo_text.proofs.clauses.clauses.Goals as goal

pub returns-in_err-item-clause-refused : goal.returns-in_err-item-clause-refused
returns-in_err-item-clause-refused c =
    let p = err_from_is_err_and c.from_residual-in_err-item.result c.from_residual-in_err-item.ensures.1 in
    let a = c.args in
    let more : length c.loop.list < a.count = (let h = c.loop.invariant.2 in let t = c.loop-test.true in omega arith) in
    rw (p.1, p.2) (stop-behind (AreMany (IsClause a.sorts a.syms.now) a.count) (flat_map clause_text) (IsClause a.sorts a.syms.now) clause_text a.input.now c.loop.rest.now
    (λ left r. refuses-same (AreMany (IsClause a.sorts a.syms.now) a.count) (flat_map clause_text) a.input.now _ left c.loop.invariant.0
    (refuses-item (IsClause a.sorts a.syms.now) clause_text (clause-code a.sorts a.syms.now c.requires.sorts c.requires.numbered) a.count c.loop.list c.loop.rest.now left c.loop.invariant.1 more r))
    c.in_err-item.field-0.0 c.in_err-item.ensures.refused)
