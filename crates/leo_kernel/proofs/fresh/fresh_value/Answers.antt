use Rattle.std.proofs.Common.{◌≡◌, ◌∙◌, refl}
use Rattle.leo_terms.specs.Tree.{app, variable}
use Rattle.leo_terms.specs.Contents.{tree_at, type_at}
use Rattle.leo_terms.proofs.CallerLemmas.{extends-trans, tree-kept}
use Rattle.leo_kernel.proofs.Growing.{property-applies, truths-grow}
use Rattle.leo_kernel.proofs.fresh.fresh_value.Goals as goal

pub make_app-requires-clause-typed : goal.make_app-requires-clause-typed
make_app-requires-clause-typed c = property-applies c.make_var.ensures.grows c.requires.property c.in_ok-argument.ensures.made

pub valued-requires-clause-truths : goal.valued-requires-clause-truths
valued-requires-clause-truths c = truths-grow (extends-trans c.make_var.ensures.grows c.make_app.ensures.grows) c.args.truths.now c.requires.truths

pub returns-clause-reads : goal.returns-clause-reads
returns-clause-reads c =
    let whole : tree_at c.make_app.new.self c.in_ok-whole.whole ≡ app (tree_at c.args.bank.now c.args.property) (variable c.args.number (type_at c.args.bank.now c.args.ty)) =
    c.in_ok-whole.ensures.made.reads ∙ rw (tree-kept c.make_var.ensures.grows c.args.property c.requires.property.within, c.in_ok-argument.ensures.made.reads) refl in
    rw (← whole) c.valued.ensures.reads

pub returns-clause-grows : goal.returns-clause-grows
returns-clause-grows c = extends-trans c.make_var.ensures.grows c.make_app.ensures.grows
