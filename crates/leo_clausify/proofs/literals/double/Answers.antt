use Rattle.std.proofs.Common.{[], ◌∷◌}
use Rattle.leo_terms.specs.Contents.{tree_at}
use Rattle.leo_terms.proofs.CallerLemmas.{extends-trans, tree-kept}
use Rattle.leo_kernel.specs.Shapes.{valued}
use Rattle.leo_clausify.proofs.Banks.{literals-more, within-grow}
use Rattle.leo_clausify.proofs.literals.double.Goals as goal

pub valued-requires : goal.valued-requires
valued-requires c = within-grow c.single.ensures.grows c.args.b c.requires.second

pub returns-in_err-lit-clause-grows : goal.returns-in_err-lit-clause-grows
returns-in_err-lit-clause-grows c = extends-trans c.single.ensures.grows c.valued.ensures.grows

pub returns-in_err-push-clause-grows : goal.returns-in_err-push-clause-grows
returns-in_err-push-clause-grows c = extends-trans c.single.ensures.grows c.valued.ensures.grows

pub returns-clause-made : goal.returns-clause-made
returns-clause-made c =
    rw c.in_ok-push.ensures.ok (literals-more c.valued.ensures.grows c.in_ok-new.new (valued (tree_at c.args.bank.now c.args.a) c.args.v ∷ []) c.in_ok-lit.lit (valued (tree_at c.args.bank.now c.args.b) c.args.w) c.in_ok-new.ensures.made (rw (tree-kept c.single.ensures.grows c.args.b c.requires.second) at c.in_ok-lit.ensures.made))

pub returns-clause-grows : goal.returns-clause-grows
returns-clause-grows c = extends-trans c.single.ensures.grows c.valued.ensures.grows
