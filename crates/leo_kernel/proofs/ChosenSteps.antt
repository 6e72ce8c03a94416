-- Steps down in a term and beside it in what it is renamed to.
use Rattle.std.proofs.Common.{ℕ, suc, ◌≡◌, ◌∙◌, ◌-◌, ◌<◌, length, Option, refl, sym, ap, arith}
use Rattle.leo_q0.specs.Terms.{SimpleType}
use Rattle.leo_terms.specs.declared.node.Op.{Op}
use Rattle.leo_terms.specs.declared.node.View.{View}
use Rattle.leo_terms.specs.declared.node.View.TheVariants.{Var, Bound, Sym, App, Lam, Logic}
use Rattle.leo_terms.specs.Tree.{Tree, variable, bound, symbol, app, lam, logic, absent, Connective}
use Rattle.leo_terms.specs.Typing.{IsPresent}
use Rattle.leo_terms.specs.Facts.{variable_range}
use Rattle.leo_terms.specs.Contents.{Contents, IsBank, tree_at}
use Rattle.leo_terms.proofs.CallerLemmas.{HasView, reads-var, reads-bound, reads-sym, reads-app, reads-lam, reads-logic, term-present}
use Rattle.leo_kernel.specs.ChosenTerms.{renamed}
use Rattle.leo_kernel.specs.ChosenMatching.{LeadsTo, IsFound, IsApart}
use Rattle.leo_kernel.proofs.ChosenShowing.{apps}

-- the parts of what has the same top
lam-part : (a b : SimpleType) (s t : Tree) → lam a s ≡ lam b t → s ≡ t
lam-part a b s t e = cc

logic-parts : (c d : Connective) (x y z w : Tree) → logic c x y ≡ logic d z w → (x ≡ z) × (y ≡ w)
logic-parts c d x y z w e = (cc, cc)

number : (m n : ℕ) (a b : SimpleType) → variable m a ≡ variable n b → m ≡ n
number m n a b e = cc

module _ (c : Contents) (b : IsBank c) (t : ℕ) (v : View) (view : HasView c t v) where
  -- a term with another top
  no-var : ((n : ℕ) → v ≡ Var n → ⊥) → (n : ℕ) (a : SimpleType) → tree_at c t ≡ variable n a → ⊥
  no-var f n a e = at v view f
    where
      at : (w : View) → HasView c t w → ((n : ℕ) → w ≡ Var n → ⊥) → ⊥
      at (Var m) h f = f m refl
      at (Bound i) h f = (let k = sym (reads-bound b t i h) ∙ e in let g : ⊥ = cc in g)
      at (Sym i) h f = (let k = sym (reads-sym b t i h) ∙ e in let g : ⊥ = cc in g)
      at (App x y) h f = (let k = sym (reads-app b t x y h) ∙ e in let g : ⊥ = cc in g)
      at (Lam x y) h f = (let k = sym (reads-lam b t x y h) ∙ e in let g : ⊥ = cc in g)
      at (Logic o x y) h f = (let k = sym (reads-logic b t o x y h) ∙ e in let g : ⊥ = cc in g)

  no-app : ((x y : ℕ) → v ≡ App x y → ⊥) → (g y : Tree) → tree_at c t ≡ app g y → ⊥
  no-app f g y e = at v view f
    where
      at : (w : View) → HasView c t w → ((x y : ℕ) → w ≡ App x y → ⊥) → ⊥
      at (App x y) h f = f x y refl
      at (Var i) h f = (let k = sym (reads-var b t i h) ∙ e in let g : ⊥ = cc in g)
      at (Bound i) h f = (let k = sym (reads-bound b t i h) ∙ e in let g : ⊥ = cc in g)
      at (Sym i) h f = (let k = sym (reads-sym b t i h) ∙ e in let g : ⊥ = cc in g)
      at (Lam x y) h f = (let k = sym (reads-lam b t x y h) ∙ e in let g : ⊥ = cc in g)
      at (Logic o x y) h f = (let k = sym (reads-logic b t o x y h) ∙ e in let g : ⊥ = cc in g)

  no-lam : ((x y : ℕ) → v ≡ Lam x y → ⊥) → (a : SimpleType) (s : Tree) → tree_at c t ≡ lam a s → ⊥
  no-lam f a s e = at v view f
    where
      at : (w : View) → HasView c t w → ((x y : ℕ) → w ≡ Lam x y → ⊥) → ⊥
      at (Lam x y) h f = f x y refl
      at (Var i) h f = (let k = sym (reads-var b t i h) ∙ e in let g : ⊥ = cc in g)
      at (Bound i) h f = (let k = sym (reads-bound b t i h) ∙ e in let g : ⊥ = cc in g)
      at (Sym i) h f = (let k = sym (reads-sym b t i h) ∙ e in let g : ⊥ = cc in g)
      at (App x y) h f = (let k = sym (reads-app b t x y h) ∙ e in let g : ⊥ = cc in g)
      at (Logic o x y) h f = (let k = sym (reads-logic b t o x y h) ∙ e in let g : ⊥ = cc in g)

  module _ (s : Tree) where
    pub apart-var : ((n : ℕ) → v ≡ Var n → ⊥) → (m : ℕ) (a : SimpleType) → s ≡ variable m a → IsApart s (tree_at c t)
    apart-var f m a e = record { apart = λ rho h. no-var f (rho m) a (h ∙ ap (renamed rho) e) }

    pub apart-app : ((x y : ℕ) → v ≡ App x y → ⊥) → (g y : Tree) → s ≡ app g y → IsApart s (tree_at c t)
    apart-app f g y e = record { apart = λ rho h. no-app f (renamed rho g) (renamed rho y) (h ∙ ap (renamed rho) e) }

    pub apart-lam : ((x y : ℕ) → v ≡ Lam x y → ⊥) → (a : SimpleType) (y : Tree) → s ≡ lam a y → IsApart s (tree_at c t)
    apart-lam f a y e = record { apart = λ rho h. no-lam f a (renamed rho y) (h ∙ ap (renamed rho) e) }

-- the same top
pub found : (s t : Tree) (m n : ℕ) (a d : SimpleType) → s ≡ variable m a → t ≡ variable n d → IsFound s t n
found s t m n a d e f = record { is = λ rho h. number n (rho m) d a (sym f ∙ h ∙ ap (renamed rho) e) ∙ ap rho (last (variable_range s) m (ap variable_range e)) }
  where
    last : (k m : ℕ) → k ≡ suc m → m ≡ k - 1
    last k m e = omega arith

module _ (s t f x g y : Tree) (whole : s ≡ app f x) (other : t ≡ app g y) where
  parts : (rho : ℕ → ℕ) → t ≡ renamed rho s → (g ≡ renamed rho f) × (y ≡ renamed rho x)
  parts rho h = apps g y (renamed rho f) (renamed rho x) (sym other ∙ h ∙ ap (renamed rho) whole)

  pub leads-function : LeadsTo s t f g
  leads-function = record { leads = λ rho h. (parts rho h).0 }

  pub leads-argument : LeadsTo s t x y
  leads-argument = record { leads = λ rho h. (parts rho h).1 }

pub leads-body : (s t x y : Tree) (a d : SimpleType) → s ≡ lam a x → t ≡ lam d y → LeadsTo s t x y
leads-body s t x y a d e f = record { leads = λ rho h. lam-part d a y (renamed rho x) (sym f ∙ h ∙ ap (renamed rho) e) }

module _ (s t x y z w : Tree) (c d : Connective) (whole : s ≡ logic c x y) (other : t ≡ logic d z w) where
  arguments : (rho : ℕ → ℕ) → t ≡ renamed rho s → (z ≡ renamed rho x) × (w ≡ renamed rho y)
  arguments rho h = logic-parts d c z w (renamed rho x) (renamed rho y) (sym other ∙ h ∙ ap (renamed rho) whole)

  pub leads-first : LeadsTo s t x z
  leads-first = record { leads = λ rho h. (arguments rho h).0 }

  pub leads-second : LeadsTo s t y w
  leads-second = record { leads = λ rho h. (arguments rho h).1 }

pub apart-logic : (c : Contents) → IsBank c → (t : ℕ) (v : View) → HasView c t v → (s : Tree) → ((o : Op) (x y : Option ℕ) → v ≡ Logic o x y → ⊥) → (d : Connective) (z w : Tree) → s ≡ logic d z w → IsApart s (tree_at c t)
apart-logic c b t v view s f d z w e = record { apart = λ rho h. at v view f (renamed rho z) (renamed rho w) (h ∙ ap (renamed rho) e) }
  where
    at : (u : View) → HasView c t u → ((o : Op) (x y : Option ℕ) → u ≡ Logic o x y → ⊥) → (p q : Tree) → tree_at c t ≡ logic d p q → ⊥
    at (Logic o x y) h f p q e = f o x y refl
    at (Var i) h f p q e = (let k = sym (reads-var b t i h) ∙ e in let g : ⊥ = cc in g)
    at (Bound i) h f p q e = (let k = sym (reads-bound b t i h) ∙ e in let g : ⊥ = cc in g)
    at (Sym i) h f p q e = (let k = sym (reads-sym b t i h) ∙ e in let g : ⊥ = cc in g)
    at (App x y) h f p q e = (let k = sym (reads-app b t x y h) ∙ e in let g : ⊥ = cc in g)
    at (Lam x y) h f p q e = (let k = sym (reads-lam b t x y h) ∙ e in let g : ⊥ = cc in g)

-- a term is not missing
absent-only : (rho : ℕ → ℕ) (s : Tree) → IsPresent s → absent ≡ renamed rho s → ⊥
absent-only rho (variable n a) p e = cc
absent-only rho (bound i a) p e = cc
absent-only rho (symbol n a) p e = cc
absent-only rho (app f x) p e = cc
absent-only rho (lam a t) p e = cc
absent-only rho (logic c x y) p e = cc
absent-only rho absent p e = p

pub apart-missing : (c : Contents) → IsBank c → (s t : Tree) (m : ℕ) → m < length c.terms → LeadsTo s t (tree_at c m) absent → IsApart s t
apart-missing c b s t m l h = record { apart = λ rho e. absent-only rho (tree_at c m) (term-present b m l) (h.leads rho e) }

-- on the way down
pub leads-none : (s t : Tree) → LeadsTo s t s t
leads-none s t = record { leads = λ rho h. h }

pub leads-more : (s t m n p q : Tree) → LeadsTo s t m n → LeadsTo m n p q → LeadsTo s t p q
leads-more s t m n p q h k = record { leads = λ rho e. k.leads rho (h.leads rho e) }
