use Rattle.std.proofs.Common.{◌∙◌, sym}
use Rattle.leo_unify.proofs.PairLemmas.{choices-same, atoms-same}
use Rattle.leo_unify.proofs.pairs.paired_heads.Goals as goal

pub returns-in_ok-pairs-in-Some-choice_of-clause-value : goal.returns-in_ok-pairs-in-Some-choice_of-clause-value
returns-in_ok-pairs-in-Some-choice_of-clause-value c =
    rw c.in_ok-pairs-in-Some-choice_of.ensures
    (rw c.if-eq.true at (choices-same c.args.bank.now c.is_sound.ensures.sound c.args.l c.args.r c.in-Some.first.ty c.in-Some-choice_of.second.ty c.in-Some.first.property c.in-Some-choice_of.second.property c.in-Some.ensures.ty c.in-Some-choice_of.ensures.ty c.in-Some.ensures.value c.in-Some-choice_of.ensures.value c.eq.result c.eq.ensures))

pub returns-else-eq-clause-value : goal.returns-else-eq-clause-value
returns-else-eq-clause-value c =
    rw c.if-eq.false at (choices-same c.args.bank.now c.is_sound.ensures.sound c.args.l c.args.r c.in-Some.first.ty c.in-Some-choice_of.second.ty c.in-Some.first.property c.in-Some-choice_of.second.property c.in-Some.ensures.ty c.in-Some-choice_of.ensures.ty c.in-Some.ensures.value c.in-Some-choice_of.ensures.value c.eq.result c.eq.ensures)

pub returns-then-eq-2-clause-value : goal.returns-then-eq-2-clause-value
returns-then-eq-2-clause-value c =
    rw c.new.ensures (rw c.if-eq-2.true at (atoms-same c.args.bank.now c.is_sound.ensures.sound c.args.l c.args.r c.requires.left c.requires.right (sym c.is_atom.ensures ∙ c.if-not-is_atom.false) c.eq-in-None.result c.eq-in-None.ensures))

pub returns-else-eq-2-clause-value : goal.returns-else-eq-2-clause-value
returns-else-eq-2-clause-value c =
    rw c.if-eq-2.false at (atoms-same c.args.bank.now c.is_sound.ensures.sound c.args.l c.args.r c.requires.left c.requires.right (sym c.is_atom.ensures ∙ c.if-not-is_atom.false) c.eq-in-None.result c.eq-in-None.ensures)
