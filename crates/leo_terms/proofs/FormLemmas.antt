-- Normal forms by their definition, from those of the parts.
use Rattle.std.proofs.Common.{ℕ, zero, suc, ◌≡◌, ◌≤◌, refl, sym, ◌∙◌, ap, arith}
use Rattle.leo_q0.specs.Terms.{SimpleType, base, arrow}
use Rattle.leo_terms.specs.Tree.{codomain, Tree, variable, bound, symbol, app, lam, logic, absent, Connective, type_of, lifted}
use Rattle.leo_terms.specs.Reduction.{IsNeutral}
use Rattle.leo_terms.specs.NormalForm.{type_size, applied, put_by, put_within, contracted, expanded, eta_long, normal_form}
use Rattle.leo_terms.specs.Normal.{IsPutTree}
use Rattle.leo_terms.proofs.TreeLemmas.{type_of-lifted}

pub type_size-positive : (a : SimpleType) → 1 ≤ type_size a
type_size-positive (base n) = omega arith
type_size-positive (arrow a b) = omega arith

-- a head with arguments is not contracted
pub applied-neutral : (contract : Tree → Tree → Tree) (f x : Tree) → IsNeutral f → applied contract f x ≡ app f x
applied-neutral contract (variable n a) x h = refl
applied-neutral contract (bound i a) x h = refl
applied-neutral contract (symbol s a) x h = refl
applied-neutral contract (app f y) x h = refl
applied-neutral contract (lam a t) x h = absurd h
applied-neutral contract (logic c y z) x h = refl
applied-neutral contract absent x h = refl

pub put-app : (contract : Tree → Tree → Tree) (k : ℕ) (s f x f' x' : Tree) → f' ≡ put_by contract k s f → x' ≡ put_by contract k s x → IsNeutral f' → app f' x' ≡ put_by contract k s (app f x)
put-app contract k s f x f' x' p q n = rw (← p, ← q) (sym (applied-neutral contract f' x' n))

pub put-logic : (contract : Tree → Tree → Tree) (k : ℕ) (s : Tree) (c : Connective) (x y x' y' : Tree) → x' ≡ put_by contract k s x → y' ≡ put_by contract k s y → logic c x' y' ≡ put_by contract k s (logic c x y)
put-logic contract k s c x y x' y' p q = rw (p, q) refl

-- a redex that arises is contracted, with one reduction less to follow
pub put-redex : (n k : ℕ) (s f x : Tree) (a : SimpleType) (b x' r : Tree) → suc (type_size (type_of x')) ≤ n → lam a b ≡ put_within (suc n) k s f → x' ≡ put_within (suc n) k s x → IsPutTree 0 x' b r → r ≡ put_within (suc n) k s (app f x)
put-redex zero k s f x a b x' r l p q v = absurd (omega arith)
put-redex (suc n) k s f x a b x' r l p q v = rw (← p, ← q) (v n (omega arith))

contracted-within : (n : ℕ) (x b r : Tree) → 1 ≤ n → ((depth : ℕ) → n ≤ suc depth → r ≡ put_within (suc depth) 0 x b) → r ≡ put_within n 0 x b
contracted-within zero x b r l v = absurd (omega arith)
contracted-within (suc n) x b r l v = v n (omega arith)

contracted-put : (x b r : Tree) → IsPutTree 0 x b r → r ≡ contracted x b
contracted-put x b r v = contracted-within (type_size (type_of x)) x b r (type_size-positive (type_of x)) v

pub normal-app : (f x : Tree) (a : SimpleType) (b x' r : Tree) → lam a b ≡ normal_form f → x' ≡ normal_form x → IsPutTree 0 x' b r → r ≡ normal_form (app f x)
normal-app f x a b x' r p q v = rw (← p, ← q) (contracted-put x' b r v)

-- the expansion of a head at a type of functions, in its steps
pub expanded-arrow : (t x' y y' : Tree) (a b : SimpleType) → type_of t ≡ arrow a b → x' ≡ eta_long (bound 0 a) → y ≡ app (lifted 0 1 t) x' → y' ≡ eta_long y → lam a y' ≡ eta_long t
expanded-arrow t x' y y' a b e p q r =
    let k : type_of (app (lifted 0 1 t) x') ≡ b = ap codomain (type_of-lifted t 0 1 ∙ e) in
    let m : eta_long (app (lifted 0 1 t) x') ≡ expanded b (app (lifted 0 1 t) x') = ap (λ (s : SimpleType). expanded s (app (lifted 0 1 t) x')) k in
    let n : expanded b (app (lifted 0 1 t) x') ≡ expanded b (app (lifted 0 1 t) (expanded a (bound 0 a))) = ap (λ (z : Tree). expanded b (app (lifted 0 1 t) z)) p in
    rw e (ap (lam a) (r ∙ ap eta_long q ∙ m ∙ n))
