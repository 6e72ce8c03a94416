use Rattle.std.proofs.Common.{ℕ, ◌≡◌, length, slice_get, Some, subst, sym, rules}
use Rattle.leo_terms.proofs.CallerLemmas.{extends-itself, extends-trans}
use Rattle.leo_turn.specs.declared.search.Search.{Search}
use Rattle.leo_turn.proofs.Assumptions.{AreAssumed, assumed-all, assumed-first, assumed-formula, assumed-next, assumed-stands}
use Rattle.leo_turn.proofs.Lists.{stands-at}
use Rattle.leo_turn.proofs.starting.start.Goals as goal

pub returns-in_err-search-clause-grows : goal.returns-in_err-search-clause-grows
returns-in_err-search-clause-grows c = extends-itself c.is_sound.ensures.sound

pub loop-number-init : goal.loop-number-init
loop-number-init c = subst (λ (s : Search). AreAssumed c.args.bank.now c.args.bank.now c.args.hyps.now c.args.depth c.args.weight s 0) (sym c.in_ok-search.ensures) (assumed-first c.args.bank.now c.args.hyps.now c.args.depth c.args.weight (extends-itself c.is_sound.ensures.sound) c.requires.hypotheses)

pub take_hypothesis-requires-clause-stands : goal.take_hypothesis-requires-clause-stands
take_hypothesis-requires-clause-stands c =
    let stands : slice_get c.args.hyps.now c.loop-number.number ≡ Some c.index-hyps-number.result = stands-at c.args.hyps.now c.loop-number.number c.index-hyps-number.result c.loop-number-test.true c.index-hyps-number.is in
    assumed-stands c.args.bank.now c.loop-number.bank c.args.hyps.now c.args.depth c.args.weight c.loop-number.search c.loop-number.number c.index-hyps-number.result c.loop-number.invariant c.requires.hypotheses stands

pub take_hypothesis-requires-clause-formula : goal.take_hypothesis-requires-clause-formula
take_hypothesis-requires-clause-formula c =
    let stands : slice_get c.args.hyps.now c.loop-number.number ≡ Some c.index-hyps-number.result = stands-at c.args.hyps.now c.loop-number.number c.index-hyps-number.result c.loop-number-test.true c.index-hyps-number.is in
    assumed-formula c.args.bank.now c.loop-number.bank c.args.hyps.now c.args.depth c.args.weight c.loop-number.search c.loop-number.number c.index-hyps-number.result c.loop-number.invariant c.requires.hypotheses stands

pub returns-in_err-take_hypothesis-clause-grows : goal.returns-in_err-take_hypothesis-clause-grows
returns-in_err-take_hypothesis-clause-grows c = extends-trans c.loop-number.invariant.extends c.take_hypothesis.ensures.grows

pub loop-number-preserved : goal.loop-number-preserved
loop-number-preserved c =
    let stands : slice_get c.args.hyps.now c.loop-number.number ≡ Some c.index-hyps-number.result = stands-at c.args.hyps.now c.loop-number.number c.index-hyps-number.result c.loop-number-test.true c.index-hyps-number.is in
    assumed-next c.args.bank.now c.loop-number.bank c.args.hyps.now c.args.depth c.args.weight c.loop-number.search c.loop-number.number c.index-hyps-number.result c.loop-number.invariant c.requires.hypotheses stands
    c.take_hypothesis.new.bank c.take_hypothesis.new.search c.take_hypothesis.ensures.grows c.in_ok-take_hypothesis.ensures.search c.take_hypothesis.ensures.longer c.in_ok-take_hypothesis.ensures.taken

pub returns-clause-start : goal.returns-clause-start
returns-clause-start c =
    let last : c.loop-number.number ≡ length c.args.hyps.now = search rules in
    assumed-all c.args.bank.now c.loop-number.bank c.args.hyps.now c.args.depth c.args.weight c.loop-number.search
    (subst (λ (n : ℕ). AreAssumed c.args.bank.now c.loop-number.bank c.args.hyps.now c.args.depth c.args.weight c.loop-number.search n) last c.loop-number.invariant)
