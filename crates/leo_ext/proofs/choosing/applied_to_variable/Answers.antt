use Rattle.std.proofs.Common.{◌∙◌, ◌≡◌, refl, sym, ap}
use Rattle.leo_q0.specs.Terms.{arrow}
use Rattle.leo_terms.specs.Contents.{tree_at}
use Rattle.leo_terms.specs.Tree.{type_of}
use Rattle.leo_terms.proofs.CallerLemmas.{extends-trans, new_bank, tree-kept}
use Rattle.leo_clausify.proofs.Banks.{within-grow}
use Rattle.leo_clausify.proofs.Functions.{applies}
use Rattle.leo_ext.proofs.choosing.applied_to_variable.Goals as goal

pub make_app-requires-clause-typed : goal.make_app-requires-clause-typed
make_app-requires-clause-typed c =
    let e = c.variable_numbered.ensures.grows in
    let m = c.in_ok-x.ensures.made in
    let t : type_of (tree_at c.variable_numbered.new.bank c.args.f) ≡ arrow (type_of (tree_at c.variable_numbered.new.bank c.in_ok-x.x)) c.requires.function.0 = ap type_of (tree-kept e c.args.f c.requires.within) ∙ c.requires.function.1 ∙ ap (λ x. arrow (type_of x) c.requires.function.0) (sym m.reads) in
    applies c.variable_numbered.new.bank (new_bank e) c.args.f c.in_ok-x.x (within-grow e c.args.f c.requires.within) m.within c.requires.function.0 t

pub returns-in_err-whole-clause-grows : goal.returns-in_err-whole-clause-grows
returns-in_err-whole-clause-grows c = extends-trans c.variable_numbered.ensures.grows c.make_app.ensures.grows

pub returns-clause-made : goal.returns-clause-made
returns-clause-made c =
    let m = c.in_ok-whole.ensures.made in
    record { within = m.within; reads = m.reads ∙ rw (tree-kept c.variable_numbered.ensures.grows c.args.f c.requires.within, c.in_ok-x.ensures.made.reads) refl }

pub returns-clause-grows : goal.returns-clause-grows
returns-clause-grows c = extends-trans c.variable_numbered.ensures.grows c.make_app.ensures.grows
