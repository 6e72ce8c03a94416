use Rattle.std.proofs.Common.{◌≡◌, ◌∙◌, ◌<◌, length, refl, arith}
use Rattle.std.proofs.lemmas.Result.{IfOk-weaker}
use Rattle.leo_terms.specs.Contents.{IsApplicable, codomain_number, type_number, tree_at}
use Rattle.leo_terms.proofs.CallerLemmas.{applicable, arrow-kept, type_number-kept}
use Rattle.terms_bench.proofs.next.Goals as goal

pub make_app-requires-clause-typed : goal.make_app-requires-clause-typed
make_app-requires-clause-typed c =
    (applicable {c = c.args.bank.now} {s = tree_at c.args.bank.now c.args.f} {u = tree_at c.args.bank.now c.args.t} (record { within = c.requires.function; type_is = refl; reads = refl }) (record { within = c.requires.argument; type_is = c.requires.thing; reads = refl }) c.requires.from_things).0

pub returns-clause-function : goal.returns-clause-function
returns-clause-function c = (let l = c.make_app.ensures.grows.terms_more in let w = c.requires.function in omega arith)

pub returns-clause-argument : goal.returns-clause-argument
returns-clause-argument c = IfOk-weaker c.make_app.result _ _ (λ r h. h.within) c.make_app.ensures.made

pub returns-clause-from_things : goal.returns-clause-from_things
returns-clause-from_things c = rw (type_number-kept c.make_app.ensures.grows c.args.f c.requires.function) (arrow-kept c.make_app.ensures.grows c.requires.from_things)

pub returns-clause-thing : goal.returns-clause-thing
returns-clause-thing c =
    let e = (applicable {c = c.args.bank.now} {s = tree_at c.args.bank.now c.args.f} {u = tree_at c.args.bank.now c.args.t} (record { within = c.requires.function; type_is = refl; reads = refl }) (record { within = c.requires.argument; type_is = c.requires.thing; reads = refl }) c.requires.from_things).1 in
    IfOk-weaker c.make_app.result _ _ (λ r h. h.type_is ∙ e) c.make_app.ensures.made
