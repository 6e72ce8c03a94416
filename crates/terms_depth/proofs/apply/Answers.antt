use Rattle.std.proofs.Common.{◌∙◌, refl}
use Rattle.std.proofs.lemmas.Result.{IfOk-weaker}
use Rattle.leo_terms.specs.Contents.{tree_at}
use Rattle.leo_terms.proofs.CallerLemmas.{applicable}
use Rattle.terms_depth.proofs.apply.Goals as goal

pub make_app-requires-clause-typed : goal.make_app-requires-clause-typed
make_app-requires-clause-typed c =
    (applicable {c = c.args.bank.now} {s = tree_at c.args.bank.now c.args.f} {u = tree_at c.args.bank.now c.args.t} (record { within = c.requires.function; type_is = refl; reads = refl }) (record { within = c.requires.argument; type_is = c.requires.thing; reads = refl }) c.requires.from_itself).0

pub returns-clause-made : goal.returns-clause-made
returns-clause-made c =
    let e = (applicable {c = c.args.bank.now} {s = tree_at c.args.bank.now c.args.f} {u = tree_at c.args.bank.now c.args.t} (record { within = c.requires.function; type_is = refl; reads = refl }) (record { within = c.requires.argument; type_is = c.requires.thing; reads = refl }) c.requires.from_itself).1 in
    IfOk-weaker c.make_app.result _ _ (λ r h. record { within = h.within; type_is = h.type_is ∙ e; reads = h.reads }) c.make_app.ensures.made
