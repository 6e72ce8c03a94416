use Rattle.std.proofs.Common.{◌≡◌, ◌∙◌, ◌∷◌, [], ◌<◌, length, map, true, refl, arith}
use Rattle.leo_terms.specs.Tree.{app, variable, type_of}
use Rattle.leo_terms.specs.Contents.{tree_at, type_at}
use Rattle.leo_terms.proofs.CallerLemmas.{extends-itself, extends-trans, tree-kept, arrow-parts, term-kept}
use Rattle.leo_kernel.specs.Shapes.{domain}
use Rattle.leo_kernel.proofs.Growing.{concluded-later}
use Rattle.leo_kernel.proofs.Lists.{length-map}
use Rattle.leo_kernel.proofs.FormRules.{kept-within}
use Rattle.leo_kernel.proofs.Definitions.{function-applies, domain-of, applied-literal}
use Rattle.leo_kernel.proofs.equations.applies_fresh.Goals as goal

pub returns-in_err-number-clause-grows : goal.returns-in_err-number-clause-grows
returns-in_err-number-clause-grows c = extends-itself c.is_sound.ensures.sound

pub make_var-requires : goal.make_var-requires
make_var-requires c = let p = arrow-parts c.is_sound.ensures.sound c.requires.arrow in let l = p.0 in let m = p.1 in omega arith

pub make_app-requires-clause-typed : goal.make_app-requires-clause-typed
make_app-requires-clause-typed c = function-applies c.make_var.ensures.grows c.requires.left refl c.requires.arrow c.in_ok-argument.ensures.made

pub make_app-requires-2-clause-typed : goal.make_app-requires-2-clause-typed
make_app-requires-2-clause-typed c = function-applies (extends-trans c.make_var.ensures.grows c.make_app.ensures.grows) c.requires.right c.requires.same_type c.requires.arrow (term-kept c.make_app.ensures.grows c.in_ok-argument.ensures.made)

pub returns-in_err-right-clause-grows : goal.returns-in_err-right-clause-grows
returns-in_err-right-clause-grows c = extends-trans (extends-trans c.make_var.ensures.grows c.make_app.ensures.grows) c.make_app-2.ensures.grows

pub returns-clause-value : goal.returns-clause-value
returns-clause-value c =
    let n = length (map (type_at c.args.bank.now) c.args.parent.now.vars) in
    let e = c.make_var.ensures.grows in
    let f = c.make_app.ensures.grows in
    let g = c.make_app-2.ensures.grows in
    let m : c.in_ok-number.number ≡ n = c.in_ok-number.ensures ∙ rw (c.as_slice.ensures, length-map (type_at c.args.bank.now) c.args.parent.now.vars) refl in
    let d : domain (type_of (tree_at c.args.bank.now c.args.lit.left)) ≡ type_at c.args.bank.now c.args.ty = domain-of c.args.bank.now c.is_sound.ensures.sound c.args.lit.left c.args.ty c.args.value c.requires.left c.requires.arrow in
    let x : tree_at c.make_var.new.self c.in_ok-argument.argument ≡ variable n (type_at c.args.bank.now c.args.ty) = c.in_ok-argument.ensures.made.reads ∙ rw m refl in
    let left : tree_at c.make_app-2.new.self c.in_ok-left.left ≡ app (tree_at c.args.bank.now c.args.lit.left) (variable n (type_at c.args.bank.now c.args.ty)) =
    tree-kept g c.in_ok-left.left c.in_ok-left.ensures.made.within ∙ c.in_ok-left.ensures.made.reads ∙ rw (tree-kept e c.args.lit.left c.requires.left, x) refl in
    let right : tree_at c.make_app-2.new.self c.in_ok-right.right ≡ app (tree_at c.args.bank.now c.args.lit.right) (variable n (type_at c.args.bank.now c.args.ty)) =
    c.in_ok-right.ensures.made.reads ∙ rw (tree-kept (extends-trans e f) c.args.lit.right c.requires.right, tree-kept f c.in_ok-argument.argument c.in_ok-argument.ensures.made.within, x) refl in
    let types = arrow-parts c.is_sound.ensures.sound c.requires.arrow in
    let below : c.args.ty < length c.args.bank.now.types = (let k = types.0 in let l = types.1 in omega arith) in
    rw (d, ← applied-literal _ _ _ _ left right)
    (concluded-later (extends-trans (extends-trans e f) g) c.args.parent.now c.args.place (c.args.ty ∷ []) (record { pos = true; left = c.in_ok-left.left; right = c.in_ok-right.right } ∷ []) c.args.step.now c.requires.parent c.requires.step (below, tt)
    (kept-within g c.in_ok-left.left c.in_ok-left.ensures.made.within, c.in_ok-right.ensures.made.within, tt) c.concludes.result c.concludes.ensures)

pub returns-clause-grows : goal.returns-clause-grows
returns-clause-grows c = extends-trans (extends-trans c.make_var.ensures.grows c.make_app.ensures.grows) c.make_app-2.ensures.grows
