use Rattle.std.proofs.Common.{sym, ◌∙◌, ap, []}
use Rattle.std.specs.Prelude.{is_some}
use Rattle.leo_terms.specs.Contents.{tree_at}
use Rattle.leo_unify.specs.Residues.{residue}
use Rattle.leo_unify.proofs.PairLemmas.{left-choices_same, left-symbols_same}
use Rattle.leo_conclude.proofs.Residues.{test-is}
use Rattle.leo_conclude.proofs.relieving.have_one_head.Goals as goal

pub returns-in-Some-choice_of : goal.returns-in-Some-choice_of
returns-in-Some-choice_of c =
    test-is c.eq.result (residue (tree_at c.args.bank.now c.in-Some.first.property) (tree_at c.args.bank.now c.in-Some-choice_of.second.property)) ∙
    ap is_some (left-choices_same c.args.bank.now c.is_sound.ensures.sound c.args.l c.args.r c.in-Some.first.ty c.in-Some-choice_of.second.ty c.in-Some.first.property c.in-Some-choice_of.second.property c.in-Some.ensures.ty c.in-Some-choice_of.ensures.ty c.in-Some.ensures.value c.in-Some-choice_of.ensures.value c.eq.result c.eq.ensures)

pub returns-else-not-is_symbol : goal.returns-else-not-is_symbol
returns-else-not-is_symbol c =
    test-is c.eq-in-None.result [] ∙
    ap is_some (left-symbols_same c.args.bank.now c.is_sound.ensures.sound c.args.l c.args.r c.requires.left c.requires.right (sym c.is_symbol.ensures ∙ c.if-not-is_symbol.false) c.eq-in-None.result c.eq-in-None.ensures)
