-- Terms of a bank compared with an application, and with a logical constant with its arguments.
use Rattle.std.proofs.Common.{ℕ, nat_eq, ◌≡◌, ◌∙◌, ◌<◌, Bool, true, false, not, length, Option, Some, None, refl, sym}
use Rattle.std.specs.Prelude.{is_some}
use Rattle.std.specs.Bool.{Decides}
use Rattle.leo_terms.specs.Tree.{Tree, variable, bound, symbol, app, lam, logic, absent, Connective}
use Rattle.leo_terms.specs.Typing.{IsPresent}
use Rattle.leo_terms.specs.Contents.{Contents, IsBank, IsArgumentBelow, argument, tree_at}
use Rattle.leo_terms.proofs.CallerLemmas.{term-present}
use Rattle.leo_clause.specs.Sameness.{same_connective}
use Rattle.leo_kernel.proofs.TypedLits.{no, yes, not-both}
use Rattle.leo_kernel.proofs.PlainRules.{terms-decide}
use Rattle.leo_kernel.proofs.Decomposing.{same_connective-refl, equal-connectives}

pub apps : (f x g y : Tree) → app f x ≡ app g y → (f ≡ g) × (x ≡ y)
apps f x g y e = (cc, cc)

constants : (c : Connective) (x y : Tree) (d : Connective) (z w : Tree) → logic c x y ≡ logic d z w → (c ≡ d) × (x ≡ z) × (y ≡ w)
constants c x y d z w e = (cc, cc, cc)

abbrev pub IsNoApp : Tree → Type 0
IsNoApp (app f x) = ⊥
IsNoApp _ = Unit {0}

abbrev pub IsNoLogic : Tree → Type 0
IsNoLogic (logic c x y) = ⊥
IsNoLogic _ = Unit {0}

module _ (c : Contents) (b : IsBank c) where
  pub app-differs : (g y f x : ℕ) → g < length c.terms → f < length c.terms → (q : Bool) → q ≡ nat_eq g f → q ≡ false → Decides q (app (tree_at c g) (tree_at c y) ≡ app (tree_at c f) (tree_at c x))
  app-differs g y f x k l q e h = rw h (no (λ p. not-both q (terms-decide c b g f k l q e) h (apps _ _ _ _ p).0))

  pub app-decides : (g y f x : ℕ) → g < length c.terms → f < length c.terms → y < length c.terms → x < length c.terms → (q r : Bool) → q ≡ nat_eq g f → q ≡ true → r ≡ nat_eq y x → Decides r (app (tree_at c g) (tree_at c y) ≡ app (tree_at c f) (tree_at c x))
  app-decides g y f x k l m n q r e h i =
      let d = terms-decide c b y x m n r i in
      let s : tree_at c g ≡ tree_at c f = (terms-decide c b g f k l q e).0 h in
      (λ p. rw (s, d.0 p) refl, λ p. d.1 (apps _ _ _ _ p).1)

  term-absent : (t : ℕ) → t < length c.terms → tree_at c t ≡ absent → ⊥
  term-absent t l e = (let h : IsPresent absent = rw e at (term-present b t l) in h)

  pub some-missing : (t : ℕ) → t < length c.terms → Decides false (tree_at c t ≡ absent)
  some-missing t l = no (term-absent t l)

  pub none-missing : (y : Option ℕ) → IsArgumentBelow (length c.terms) y → (r : Bool) → is_some y ≡ not r → Decides r (absent ≡ argument (tree_at c) y)
  none-missing None h true e = yes refl
  none-missing None h false e = (let k : ⊥ = cc in absurd k)
  none-missing (Some t) h true e = (let k : ⊥ = cc in absurd k)
  none-missing (Some t) h false e = no (λ p. term-absent t h (sym p))

pub constant-differs : (c d : Connective) (x y z w : Tree) (q : Bool) → q ≡ same_connective c d → q ≡ false → Decides false (logic c x y ≡ logic d z w)
constant-differs c d x y z w q e h = no (λ p. let f : c ≡ d = (constants c x y d z w p).0 in let g : q ≡ true = e ∙ rw f (same_connective-refl d) in (let k : ⊥ = cc in k))

pub first-differs : (c d : Connective) (x y z w : Tree) (q : Bool) → Decides q (x ≡ z) → q ≡ false → Decides false (logic c x y ≡ logic d z w)
first-differs c d x y z w q e h = no (λ p. not-both q e h (constants c x y d z w p).1)

pub constants-decide : (c d : Connective) (x y z w : Tree) (p q r : Bool) → p ≡ same_connective c d → p ≡ true → Decides q (x ≡ z) → q ≡ true → Decides r (y ≡ w) → Decides r (logic c x y ≡ logic d z w)
constants-decide c d x y z w p q r e f g h k =
    let same : c ≡ d = equal-connectives c d (sym e ∙ f) in
    let first : x ≡ z = g.0 h in
    (λ t. rw (same, first, k.0 t) refl, λ t. k.1 (constants c x y d z w t).2)

-- other terms
pub no_app : (f x : Tree) (t : Tree) → IsNoApp t → Decides false (t ≡ app f x)
no_app f x (variable n a) h = no (λ e. (let k : ⊥ = cc in k))
no_app f x (bound i a) h = no (λ e. (let k : ⊥ = cc in k))
no_app f x (symbol n a) h = no (λ e. (let k : ⊥ = cc in k))
no_app f x (app g y) h = absurd h
no_app f x (lam a t) h = no (λ e. (let k : ⊥ = cc in k))
no_app f x (logic c y z) h = no (λ e. (let k : ⊥ = cc in k))
no_app f x absent h = no (λ e. (let k : ⊥ = cc in k))

pub no_logic : (c : Connective) (x y : Tree) (t : Tree) → IsNoLogic t → Decides false (t ≡ logic c x y)
no_logic c x y (variable n a) h = no (λ e. (let k : ⊥ = cc in k))
no_logic c x y (bound i a) h = no (λ e. (let k : ⊥ = cc in k))
no_logic c x y (symbol n a) h = no (λ e. (let k : ⊥ = cc in k))
no_logic c x y (app f z) h = no (λ e. (let k : ⊥ = cc in k))
no_logic c x y (lam a t) h = no (λ e. (let k : ⊥ = cc in k))
no_logic c x y (logic d z w) h = absurd h
no_logic c x y absent h = no (λ e. (let k : ⊥ = cc in k))
