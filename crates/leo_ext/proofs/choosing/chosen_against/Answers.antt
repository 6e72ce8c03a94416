use Rattle.leo_terms.specs.Contents.{tree_at}
use Rattle.leo_terms.proofs.CallerLemmas.{extends-trans}
use Rattle.leo_kernel.proofs.ChosenMaking.{against-bound, against-made}
use Rattle.leo_ext.proofs.choosing.chosen_against.Goals as goal

pub make_lam-requires-clause-typed : goal.make_lam-requires-clause-typed
make_lam-requires-clause-typed c = against-bound c.make_logic.ensures.grows c.requires.ty (tree_at c.args.bank.now c.args.a) c.in_ok-negated.ensures.made c.requires.index

pub returns-in_err-property-clause-grows : goal.returns-in_err-property-clause-grows
returns-in_err-property-clause-grows c = extends-trans c.make_logic.ensures.grows c.make_lam.ensures.grows

pub returns-in_err-term-clause-grows : goal.returns-in_err-term-clause-grows
returns-in_err-term-clause-grows c = extends-trans (extends-trans c.make_logic.ensures.grows c.make_lam.ensures.grows) c.make_logic-2.ensures.grows

pub returns-clause-made : goal.returns-clause-made
returns-clause-made c = against-made c.make_logic.ensures.grows c.make_lam.ensures.grows c.requires.ty (tree_at c.args.bank.now c.args.a) c.in_ok-negated.ensures.made c.in_ok-property.ensures.made c.in_ok-term.ensures.made

pub returns-clause-grows : goal.returns-clause-grows
returns-clause-grows c = extends-trans (extends-trans c.make_logic.ensures.grows c.make_lam.ensures.grows) c.make_logic-2.ensures.grows
