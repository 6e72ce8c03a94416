-- Where the walk to a head ends.
use Rattle.std.proofs.Common.{ℕ, ◌≡◌, refl}
use Rattle.leo_terms.specs.declared.node.View.{View}
use Rattle.leo_terms.specs.declared.node.View.TheVariants.{Var, Bound, Sym, App, Lam, Logic}
use Rattle.leo_terms.specs.Contents.{Contents, IsBank, tree_at}
use Rattle.leo_terms.proofs.CallerLemmas.{HasView, reads-var, reads-bound, reads-sym, reads-app, reads-lam, reads-logic}
use Rattle.leo_para.specs.Spines.{applied_head, below_lambdas}

module _ (c : Contents) (b : IsBank c) (t : ℕ) where
  pub below-ends : (v : View) → HasView c t v → ((x y : ℕ) → v ≡ Lam x y → ⊥) → tree_at c t ≡ below_lambdas (tree_at c t)
  below-ends (Var n) h other = rw (reads-var b t n h) refl
  below-ends (Bound i) h other = rw (reads-bound b t i h) refl
  below-ends (Sym s) h other = rw (reads-sym b t s h) refl
  below-ends (App f x) h other = rw (reads-app b t f x h) refl
  below-ends (Lam a x) h other = absurd (other a x refl)
  below-ends (Logic o x y) h other = rw (reads-logic b t o x y h) refl

  pub head-ends : (v : View) → HasView c t v → ((x y : ℕ) → v ≡ App x y → ⊥) → tree_at c t ≡ applied_head (tree_at c t)
  head-ends (Var n) h other = rw (reads-var b t n h) refl
  head-ends (Bound i) h other = rw (reads-bound b t i h) refl
  head-ends (Sym s) h other = rw (reads-sym b t s h) refl
  head-ends (App f x) h other = absurd (other f x refl)
  head-ends (Lam a x) h other = rw (reads-lam b t a x h) refl
  head-ends (Logic o x y) h other = rw (reads-logic b t o x y h) refl
