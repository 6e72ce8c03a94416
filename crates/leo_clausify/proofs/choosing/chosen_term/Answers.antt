use Rattle.std.proofs.Common.{refl}
use Rattle.leo_terms.specs.Contents.{tree_at, type_at}
use Rattle.leo_terms.proofs.CallerLemmas.{extends-trans, type-kept}
use Rattle.leo_kernel.proofs.ChosenMaking.{inside-bound, chosen-false}
use Rattle.leo_clausify.proofs.choosing.chosen_term.Goals as goal

pub chosen_against-requires-clause-index : goal.chosen_against-requires-clause-index
chosen_against-requires-clause-index c = rw (c.in_ok-applied.ensures.made.reads, type-kept c.applied_inside.ensures.grows c.args.ty c.requires.type_within) (inside-bound (tree_at c.args.bank.now c.args.property) (type_at c.args.bank.now c.args.ty) (type_at c.args.bank.now c.args.ty) refl)

pub returns-in_err-term-2-clause-grows : goal.returns-in_err-term-2-clause-grows
returns-in_err-term-2-clause-grows c = extends-trans c.applied_inside.ensures.grows c.chosen_against.ensures.grows

pub returns-clause-made : goal.returns-clause-made
returns-clause-made c = rw c.if-v.false (chosen-false c.applied_inside.ensures.grows c.args.property c.requires.type_within c.in_ok-applied.ensures.made c.in_ok-term-2.ensures.made)

pub returns-clause-grows : goal.returns-clause-grows
returns-clause-grows c = extends-trans c.applied_inside.ensures.grows c.chosen_against.ensures.grows
