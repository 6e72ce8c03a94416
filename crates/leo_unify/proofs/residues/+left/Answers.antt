use Rattle.std.proofs.Common.{◌∙◌, map, Some, None, sym}
use Rattle.leo_unify.specs.Views.{pair_at}
use Rattle.leo_unify.proofs.Growing.{pairs-of-append}
use Rattle.leo_unify.proofs.PairLemmas.{residue-equal, residue-other, left-choices_same, left-symbols_same}
use Rattle.leo_unify.proofs.residues.+left.Goals as goal

pub left_of-returns-then-eq-clause-value : goal.left_of-returns-then-eq-clause-value
left_of-returns-then-eq-clause-value m c =
    rw c.new.ensures (residue-equal c.args.bank.now c.is_sound.ensures.sound c.args.l c.args.r c.requires.left c.requires.right c.eq.result c.eq.ensures c.if-eq.true)

pub left_of-returns-in-Some-clause-value : goal.left_of-returns-in-Some-clause-value
left_of-returns-in-Some-clause-value m c =
    residue-other c.args.bank.now c.is_sound.ensures.sound c.args.l c.args.r c.requires.left c.requires.right c.eq.result c.eq.ensures c.if-eq.false (Some (map (pair_at c.args.bank.now) c.in-Some.pairs)) (rw c.in-Some.is at c.in_ok-below.ensures.value)

pub left_of-returns-in_ok-pairs-in-None-clause-value : goal.left_of-returns-in_ok-pairs-in-None-clause-value
left_of-returns-in_ok-pairs-in-None-clause-value m c =
    rw c.in_ok-pairs-in-None.ensures (residue-other c.args.bank.now c.is_sound.ensures.sound c.args.l c.args.r c.requires.left c.requires.right c.eq.result c.eq.ensures c.if-eq.false None (rw c.in-None.is at c.in_ok-below.ensures.value))

pub left_of_heads-returns-in_ok-pairs-in-Some-choice_of-clause-value : goal.left_of_heads-returns-in_ok-pairs-in-Some-choice_of-clause-value
left_of_heads-returns-in_ok-pairs-in-Some-choice_of-clause-value m c =
    rw c.in_ok-pairs-in-Some-choice_of.ensures.value (rw c.if-eq.true at (left-choices_same c.args.bank.now c.is_sound.ensures.sound c.args.l c.args.r c.in-Some.first.ty c.in-Some-choice_of.second.ty c.in-Some.first.property c.in-Some-choice_of.second.property c.in-Some.ensures.ty c.in-Some-choice_of.ensures.ty c.in-Some.ensures.value c.in-Some-choice_of.ensures.value c.eq.result c.eq.ensures))

pub left_of_heads-returns-else-eq-clause-value : goal.left_of_heads-returns-else-eq-clause-value
left_of_heads-returns-else-eq-clause-value m c =
    rw c.if-eq.false at (left-choices_same c.args.bank.now c.is_sound.ensures.sound c.args.l c.args.r c.in-Some.first.ty c.in-Some-choice_of.second.ty c.in-Some.first.property c.in-Some-choice_of.second.property c.in-Some.ensures.ty c.in-Some-choice_of.ensures.ty c.in-Some.ensures.value c.in-Some-choice_of.ensures.value c.eq.result c.eq.ensures)

pub left_of_heads-returns-then-eq-2-clause-value : goal.left_of_heads-returns-then-eq-2-clause-value
left_of_heads-returns-then-eq-2-clause-value m c =
    rw c.new.ensures (rw c.if-eq-2.true at (left-symbols_same c.args.bank.now c.is_sound.ensures.sound c.args.l c.args.r c.requires.left c.requires.right (sym c.is_symbol.ensures ∙ c.if-not-is_symbol.false) c.eq-in-None.result c.eq-in-None.ensures))

pub left_of_heads-returns-else-eq-2-clause-value : goal.left_of_heads-returns-else-eq-2-clause-value
left_of_heads-returns-else-eq-2-clause-value m c =
    rw c.if-eq-2.false at (left-symbols_same c.args.bank.now c.is_sound.ensures.sound c.args.l c.args.r c.requires.left c.requires.right (sym c.is_symbol.ensures ∙ c.if-not-is_symbol.false) c.eq-in-None.result c.eq-in-None.ensures)

pub left_of_parts-returns-in_ok-append-in-Some-front-clause-within : goal.left_of_parts-returns-in_ok-append-in-Some-front-clause-within
left_of_parts-returns-in_ok-append-in-Some-front-clause-within m c =
    rw c.in_ok-append-in-Some-front.ensures (pairs-of-append c.args.bank.now c.in-Some-front.pairs _ (rw c.in-Some-front.is at c.in_ok-front-in-Some-application_of-2.ensures.within) c.in_ok-more-in-Some-front.ensures.within)
