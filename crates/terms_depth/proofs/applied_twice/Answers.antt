use Rattle.std.proofs.Common.{◌≡◌, ap}
use Rattle.leo_terms.specs.Tree.{Tree, app, bound}
use Rattle.leo_terms.proofs.CallerLemmas.{extends-trans, arrow-kept, term-kept, type-kept}
use Rattle.terms_depth.proofs.applied_twice.Goals as goal

twice-reads : (w f o h x g y z : Tree) → w ≡ app f o → f ≡ g → o ≡ app h x → h ≡ g → x ≡ y → y ≡ z → w ≡ app g (app g z)
twice-reads w f o h x g y z a b c d e i = cc

pub apply-requires-clause-from_itself : goal.apply-requires-clause-from_itself
apply-requires-clause-from_itself c =
    let k = term-kept c.make_bound-2.ensures.grows c.in_ok-f.ensures.made in
    rw k.type_is (arrow-kept (extends-trans c.make_bound.ensures.grows c.make_bound-2.ensures.grows) c.requires.arrow)

pub apply-requires-2-clause-from_itself : goal.apply-requires-2-clause-from_itself
apply-requires-2-clause-from_itself c =
    let k = term-kept c.apply.ensures.grows (term-kept c.make_bound-2.ensures.grows c.in_ok-f.ensures.made) in
    rw k.type_is (arrow-kept (extends-trans (extends-trans c.make_bound.ensures.grows c.make_bound-2.ensures.grows) c.apply.ensures.grows) c.requires.arrow)

pub returns-clause-made : goal.returns-clause-made
returns-clause-made c =
    let k = term-kept c.make_bound-2.ensures.grows c.in_ok-f.ensures.made in
    let m = term-kept c.apply.ensures.grows k in
    let w = c.in_ok-twice.ensures.made in
    record {
      within = w.within;
      type_is = w.type_is;
      reads = twice-reads _ _ _ _ _ _ _ _ w.reads m.reads c.in_ok-once.ensures.made.reads k.reads c.in_ok-x.ensures.made.reads (ap (λ a. bound 0 a) (type-kept c.make_bound.ensures.grows c.args.ty c.requires.within));
    }

pub returns-clause-grows : goal.returns-clause-grows
returns-clause-grows c =
    extends-trans (extends-trans (extends-trans c.make_bound.ensures.grows c.make_bound-2.ensures.grows) c.apply.ensures.grows) c.apply-2.ensures.grows
