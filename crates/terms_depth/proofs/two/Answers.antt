use Rattle.std.proofs.Common.{ℕ, ◌≡◌, arith, sym}
use Rattle.leo_terms.specs.Contents.{Contents, type_at}
use Rattle.leo_terms.specs.Tree.{Tree, app, bound, lam, IsBoundAt}
use Rattle.leo_terms.proofs.CallerLemmas.{extends-trans, type-kept}
use Rattle.terms_depth.proofs.two.Goals as goal

bound-inside : (c d : Contents) (f i : ℕ) (t : Tree) → t ≡ app (bound 1 (type_at c f)) (app (bound 1 (type_at c f)) (bound 0 (type_at c i))) →
    type_at c i ≡ type_at d i → IsBoundAt 0 (type_at d i) t
bound-inside c d f i t e h = rw e ((λ k. (let l : ⊥ = omega arith in absurd l)), ((λ k. (let l : ⊥ = omega arith in absurd l)), (λ k. h)))

bound-outside : (b c d : Contents) (f i : ℕ) (t u : Tree) → u ≡ lam (type_at b i) t →
    t ≡ app (bound 1 (type_at c f)) (app (bound 1 (type_at c f)) (bound 0 (type_at c i))) → type_at c f ≡ type_at d f → IsBoundAt 0 (type_at d f) u
bound-outside b c d f i t u e g h = rw (e, g) ((λ k. h), ((λ k. h), (λ k. (let l : ⊥ = omega arith in absurd l))))

pub make_lam-requires-clause-typed : goal.make_lam-requires-clause-typed
make_lam-requires-clause-typed c =
    let m = c.arrow.ensures.grows.types_more in
    let w = c.requires in
    bound-inside c.arrow.new.self c.applied_twice.new.bank c.in_ok-from.from c.args.ty _ c.in_ok-body.ensures.made.reads (sym (type-kept c.in_ok-body.ensures.grows c.args.ty (omega arith)))

pub make_lam-requires-2-clause-typed : goal.make_lam-requires-2-clause-typed
make_lam-requires-2-clause-typed c =
    bound-outside c.applied_twice.new.bank c.arrow.new.self c.make_lam.new.self c.in_ok-from.from c.args.ty _ _ c.in_ok-function.ensures.made.reads c.in_ok-body.ensures.made.reads (sym (type-kept (extends-trans c.in_ok-body.ensures.grows c.make_lam.ensures.grows) c.in_ok-from.from c.in_ok-from.ensures.within))

pub returns-clause-grows : goal.returns-clause-grows
returns-clause-grows c =
    extends-trans (extends-trans (extends-trans c.arrow.ensures.grows c.in_ok-body.ensures.grows) c.make_lam.ensures.grows) c.make_lam-2.ensures.grows
