use Rattle.std.proofs.Common.{sym, arith}
use Rattle.leo_terms.proofs.CallerLemmas.{extends-trans, term-kept, arrow-kept, type-kept, applicable}
use Rattle.leo_terms.proofs.tests.an_application_reduces.Goals as goal

pub make_app-requires-clause-typed : goal.make_app-requires-clause-typed
make_app-requires-clause-typed c =
    let before = extends-trans c.fresh.ensures.grows c.make_sym.ensures.grows in
    let since = extends-trans (extends-trans c.fresh-2.ensures.grows c.make_sym-2.ensures.grows) c.make_bound.ensures.grows in
    let f = term-kept since (rw c.in_ok-function.ensures.typed at c.in_ok-f.ensures.made) in
    (applicable f c.in_ok-x.ensures.made (arrow-kept (extends-trans before since) c.in_ok-ty.ensures.made)).0

pub make_lam-requires-clause-typed : goal.make_lam-requires-clause-typed
make_lam-requires-clause-typed c =
    let since = extends-trans (extends-trans c.fresh-2.ensures.grows c.make_sym-2.ensures.grows) c.make_bound.ensures.grows in
    let f = term-kept since c.in_ok-f.ensures.made in
    let e = extends-trans c.make_bound.ensures.grows c.make_app.ensures.grows in
    rw (c.in_ok-body.ensures.made.reads, f.reads, c.in_ok-x.ensures.made.reads) (tt, λ _. sym (type-kept e c.thing-thing.result (omega arith)))

pub make_app-requires-2-clause-typed : goal.make_app-requires-2-clause-typed
make_app-requires-2-clause-typed c =
    let since = extends-trans (extends-trans c.make_bound.ensures.grows c.make_app.ensures.grows) c.make_lam.ensures.grows in
    let a = term-kept since (rw c.in_ok-constant.ensures.typed at c.in_ok-a.ensures.made) in
    (applicable c.in_ok-lambda.ensures.made a c.in_ok-lambda.ensures.arrow).0

pub make_app-requires-3-clause-typed : goal.make_app-requires-3-clause-typed
make_app-requires-3-clause-typed c =
    let before = extends-trans c.fresh.ensures.grows c.make_sym.ensures.grows in
    let between = extends-trans c.fresh-2.ensures.grows c.make_sym-2.ensures.grows in
    let since = extends-trans (extends-trans (extends-trans c.make_bound.ensures.grows c.make_app.ensures.grows) c.make_lam.ensures.grows) c.make_app-2.ensures.grows in
    let f = term-kept (extends-trans between since) (rw c.in_ok-function.ensures.typed at c.in_ok-f.ensures.made) in
    let a = term-kept since (rw c.in_ok-constant.ensures.typed at c.in_ok-a.ensures.made) in
    (applicable f a (arrow-kept (extends-trans before (extends-trans between since)) c.in_ok-ty.ensures.made)).0
