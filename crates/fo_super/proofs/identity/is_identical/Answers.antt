use Rattle.std.proofs.Common.{◌≡◌, ◌∙◌, ◌<◌, arith, length, sym}
use Rattle.fo_super.proofs.Answering.{get-index, no, yes, refuted}
use Rattle.fo_super.proofs.Sorting.{alike-next, identical-all, not-identical}
use Rattle.fo_super.proofs.identity.is_identical.Goals as goal

pub returns-then-not-is_alike : goal.returns-then-not-is_alike
returns-then-not-is_alike c =
    let l : c.loop-place.place < length c.args.clause.now.lits = rw c.as_slice-literals.ensures at c.loop-place-test.true in
    let s : length c.args.clause.now.lits ≡ length c.args.other.now.lits = sym c.len.ensures ∙ c.if-len.false ∙ c.len-2.ensures in
    no (not-identical c.args.clause.now c.args.other.now c.loop-place.place c.index-literals-place.result c.index-others-place.result
    (get-index c.args.clause.now.lits c.loop-place.place c.index-literals-place.result l (rw c.as_slice-literals.ensures at c.index-literals-place.is))
    (get-index c.args.other.now.lits c.loop-place.place c.index-others-place.result (omega arith) (rw c.as_slice-others.ensures at c.index-others-place.is))
    (refuted c.is_alike.result (rw (c.as_slice.ensures, c.as_slice-in-loop-place.ensures) at c.is_alike.ensures) c.if-not-is_alike.true))

pub loop-place-preserved : goal.loop-place-preserved
loop-place-preserved c =
    let l : c.loop-place.place < length c.args.clause.now.lits = rw c.as_slice-literals.ensures at c.loop-place-test.true in
    let s : length c.args.clause.now.lits ≡ length c.args.other.now.lits = sym c.len.ensures ∙ c.if-len.false ∙ c.len-2.ensures in
    alike-next c.args.clause.now.vars c.args.other.now.vars c.args.clause.now.lits c.args.other.now.lits c.loop-place.place c.index-literals-place.result c.index-others-place.result c.loop-place.invariant
    (get-index c.args.clause.now.lits c.loop-place.place c.index-literals-place.result l (rw c.as_slice-literals.ensures at c.index-literals-place.is))
    (get-index c.args.other.now.lits c.loop-place.place c.index-others-place.result (omega arith) (rw c.as_slice-others.ensures at c.index-others-place.is))
    ((rw (c.as_slice.ensures, c.as_slice-in-loop-place.ensures) at c.is_alike.ensures).0 c.if-not-is_alike.false)

pub returns : goal.returns
returns c =
    yes (identical-all c.args.clause.now c.args.other.now c.loop-place.place (sym c.len.ensures ∙ c.if-len.false ∙ c.len-2.ensures) c.loop-place.invariant (rw c.as_slice-literals.ensures at c.loop-place-test.false))
