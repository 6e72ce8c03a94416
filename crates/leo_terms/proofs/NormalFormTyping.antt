-- A well-typed term reduces to its normal form, which is normal.
use Rattle.std.proofs.Common.{ℕ, zero, suc, ◌≡◌, ◌+◌, ◌≤◌, Bool, true, false, refl, ◌∙◌, ap, ◌⊎◌, inl, inr, arith}
use Rattle.leo_q0.specs.Terms.{SimpleType, base, arrow}
use Rattle.leo_terms.specs.Tree.{codomain, Tree, variable, bound, symbol, app, lam, logic, absent, connective_type, type_of, IsBoundAt, lifted, opened, bound_opened}
use Rattle.leo_terms.specs.Typing.{IsWellTyped, IsPresent}
use Rattle.leo_terms.specs.Reduction.{Reduces, nothing, andthen, in_app, in_lam, in_logic, beta, eta, IsBase, IsForm, IsNormal, IsNeutral}
use Rattle.leo_terms.specs.NormalForm.{type_size, applied, put_by, put_within, contracted, expanded, eta_long, normal_form}
use Rattle.leo_terms.proofs.TreeLemmas.{type_of-lifted}
use Rattle.leo_terms.proofs.ReductionLemmas.{bound_opened-below, bound_opened-at, bound_opened-above, order, IsForm-lifted}
use Rattle.leo_terms.proofs.TypingLemmas.{Serves-opened, IsWellTyped-opened, reduces_typed}
use Rattle.leo_terms.proofs.FormLemmas.{type_size-positive, applied-neutral}
use Rattle.leo_terms.proofs.NormalFormLaws.{expanded-normal}

-- a contraction that a term reduces to
abbrev Contracts : (Tree → Tree → Tree) → Type 0
Contracts contract = (x t : Tree) → IsWellTyped x → IsPresent x → IsWellTyped t → IsBoundAt 0 (type_of x) t → Reduces (opened 0 x t) (contract x t)

applied-reduces : (contract : Tree → Tree → Tree) → Contracts contract → (f x : Tree) → IsWellTyped (app f x) → Reduces (app f x) (applied contract f x)
applied-reduces contract c (variable n a) x w = nothing (app (variable n a) x)
applied-reduces contract c (bound i a) x w = nothing (app (bound i a) x)
applied-reduces contract c (symbol n a) x w = nothing (app (symbol n a) x)
applied-reduces contract c (app f y) x w = nothing (app (app f y) x)
applied-reduces contract c (lam a t) x w =
    let e : type_of x ≡ a = (let q : arrow a (type_of t) ≡ arrow (type_of x) (type_of t) = w.4 in cc) in
    andthen (app (lam a t) x) (opened 0 x t) (contract x t) (beta a t x w.0.2 e) (c x t w.1 w.3 w.0.0 (rw e w.0.2))
applied-reduces contract c (logic d y z) x w = nothing (app (logic d y z) x)
applied-reduces contract c absent x w = nothing (app absent x)

module _ (contract : Tree → Tree → Tree) (contracts : Contracts contract) (s : Tree) (present : IsPresent s) (well : IsWellTyped s) where
  put_by-reduces : (t : Tree) (k : ℕ) → IsBoundAt k (type_of s) t → IsWellTyped t → Reduces (opened k s t) (put_by contract k s t)
  put_by-reduces (variable n a) k b w = nothing (variable n a)
  put_by-reduces (bound i a) k b w = nothing (bound_opened k s i a)
  put_by-reduces (symbol n a) k b w = nothing (symbol n a)
  put_by-reduces (app f x) k b w =
      let p = put_by-reduces f k b.0 w.0 in
      let q = put_by-reduces x k b.1 w.1 in
      let r : Reduces (opened k s (app f x)) (app (put_by contract k s f) (put_by contract k s x)) = in_app (opened k s f) (put_by contract k s f) (opened k s x) (put_by contract k s x) p q in
      let o = IsWellTyped-opened s (type_of s) refl present well (app f x) k b w in
      andthen (opened k s (app f x)) (app (put_by contract k s f) (put_by contract k s x)) (applied contract (put_by contract k s f) (put_by contract k s x)) r
      (applied-reduces contract contracts (put_by contract k s f) (put_by contract k s x) (reduces_typed (opened k s (app f x)) (app (put_by contract k s f) (put_by contract k s x)) r o).0)
  put_by-reduces (lam a t) k b w = in_lam a (opened (k + 1) s t) (put_by contract (k + 1) s t) (put_by-reduces t (k + 1) b w.0)
  put_by-reduces (logic c x y) k b w = in_logic c (opened k s x) (put_by contract k s x) (opened k s y) (put_by contract k s y) (put_by-reduces x k b.0 w.0) (put_by-reduces y k b.1 w.1)
  put_by-reduces absent k b w = nothing absent

pub put-reduces : (depth k : ℕ) (s t : Tree) → IsWellTyped s → IsPresent s → IsWellTyped t → IsBoundAt k (type_of s) t → Reduces (opened k s t) (put_within depth k s t)
put-reduces zero k s t ws ps wt b = nothing (opened k s t)
put-reduces (suc depth) k s t ws ps wt b = put_by-reduces (put_within depth 0) (put-reduces depth 0) s ps ws t k b wt

expanded-reduces : (a : SimpleType) (t : Tree) → type_of t ≡ a → Reduces t (expanded a t)
expanded-reduces (base n) t e = nothing t
expanded-reduces (arrow a b) t e =
    let u : Tree = lifted 0 1 t in
    let x : Tree = expanded a (bound 0 a) in
    let p : Reduces (app u (bound 0 a)) (app u x) = in_app u u (bound 0 a) x (nothing u) (expanded-reduces a (bound 0 a) refl) in
    let q : Reduces (app u x) (expanded b (app u x)) = expanded-reduces b (app u x) (ap codomain (type_of-lifted t 0 1 ∙ e)) in
    andthen t (lam a (app u (bound 0 a))) (lam a (expanded b (app u x))) (eta a b t e) (in_lam a (app u (bound 0 a)) (expanded b (app u x)) (andthen (app u (bound 0 a)) (app u x) (expanded b (app u x)) p q))

contracted-reduces : Contracts contracted
contracted-reduces x t wx px wt b = put-reduces (type_size (type_of x)) 0 x t wx px wt b

-- a well-typed term reduces to its normal form
pub normal_form-reduces : (t : Tree) → IsWellTyped t → Reduces t (normal_form t)
normal_form-reduces (variable n a) w = expanded-reduces a (variable n a) refl
normal_form-reduces (bound i a) w = expanded-reduces a (bound i a) refl
normal_form-reduces (symbol n a) w = expanded-reduces a (symbol n a) refl
normal_form-reduces (app f x) w =
    let r : Reduces (app f x) (app (normal_form f) (normal_form x)) = in_app f (normal_form f) x (normal_form x) (normal_form-reduces f w.0) (normal_form-reduces x w.1) in
    andthen (app f x) (app (normal_form f) (normal_form x)) (applied contracted (normal_form f) (normal_form x)) r
    (applied-reduces contracted contracted-reduces (normal_form f) (normal_form x) (reduces_typed (app f x) (app (normal_form f) (normal_form x)) r w).0)
normal_form-reduces (lam a t) w = in_lam a t (normal_form t) (normal_form-reduces t w.0)
normal_form-reduces (logic c x y) w =
    andthen (logic c x y) (logic c (normal_form x) (normal_form y)) (eta_long (logic c (normal_form x) (normal_form y)))
    (in_logic c x (normal_form x) y (normal_form y) (normal_form-reduces x w.0) (normal_form-reduces y w.1))
    (expanded-reduces (connective_type c) (logic c (normal_form x) (normal_form y)) refl)
normal_form-reduces absent w = nothing absent

-- a head with normal arguments, of a base type, is normal
neutral-base : (t : Tree) → IsNeutral t → IsBase (type_of t) → IsNormal t
neutral-base (variable n a) h b = b
neutral-base (bound i a) h b = b
neutral-base (symbol s a) h b = b
neutral-base (app f x) h b = (h.0, h.1, b)
neutral-base (lam a t) h b = absurd h
neutral-base (logic c x y) h b = (h.0, h.1, b)
neutral-base absent h b = tt

-- a normal function is a lambda
pub normal-function : (f : Tree) (a b : SimpleType) → IsNormal f → type_of f ≡ arrow a b → (t : Tree) × (f ≡ lam a t)
normal-function (variable n c) a b h e = absurd (rw e at h)
normal-function (bound i c) a b h e = absurd (rw e at h)
normal-function (symbol s c) a b h e = absurd (rw e at h)
normal-function (app f x) a b h e = absurd (rw e at h.2)
normal-function (lam c t) a b h e = (t, (let p : c ≡ a = cc in rw p refl))
normal-function (logic c x y) a b h e = absurd (rw e at h.2)
normal-function absent a b h e = absurd (cc)

-- a contraction of normal terms that gives a normal term, where its variable's type is small enough
abbrev Forms : ℕ → Type 0
Forms depth = (x t : Tree) → IsNormal x → IsWellTyped x → IsPresent x → IsNormal t → IsWellTyped t → IsBoundAt 0 (type_of x) t → type_size (type_of x) ≤ depth → IsNormal (put_within depth 0 x t)

-- the beta step of a function that is normal
applied-normal : (depth : ℕ) → Forms depth → (f x : Tree) (a b : SimpleType) → IsNormal f → IsNormal x → IsWellTyped (app f x) → type_of f ≡ arrow a b → type_of x ≡ a → type_size a ≤ depth → IsNormal (applied (put_within depth 0) f x)
applied-normal depth forms f x a b h n w e g l =
    let p = normal-function f a b h e in
    let q : f ≡ lam a p.0 = p.1 in
    let v : IsWellTyped (app (lam a p.0) x) = rw q at w in
    let m : IsNormal p.0 = rw q at h in
    let r : IsNormal (put_within depth 0 x p.0) = forms x p.0 n v.1 v.3 m v.0.0 (rw g v.0.2) (rw g l) in
    rw q r

module _ (depth : ℕ) (forms : Forms depth) (s : Tree) (normal : IsNormal s) (present : IsPresent s) (well : IsWellTyped s) (small : type_size (type_of s) ≤ suc depth) where
  abbrev put : ℕ → Tree → Tree
  put k t = put_within (suc depth) k s t

  put-typed : (k : ℕ) (t : Tree) → IsBoundAt k (type_of s) t → IsWellTyped t → IsWellTyped (put k t) × (type_of (put k t) ≡ type_of t)
  put-typed k t b w =
      let o = IsWellTyped-opened s (type_of s) refl present well t k b w in
      let r = reduces_typed (opened k s t) (put k t) (put-reduces (suc depth) k s t well present w b) o in
      (r.0, r.1.1 ∙ (Serves-opened s (type_of s) refl present well t k b).1)

  abbrev Formed : Bool → ℕ → Tree → Type 0
  Formed true k t = IsNormal (put k t)
  Formed false k t = IsNeutral (put k t) ⊎ (IsNormal (put k t) × (type_size (type_of t) ≤ type_size (type_of s)))

  formed-long : (long : Bool) (k : ℕ) (t : Tree) → IsBoundAt k (type_of s) t → IsWellTyped t → (long ≡ true → IsBase (type_of t)) → Formed false k t → Formed long k t
  formed-long false k t b w h r = r
  formed-long true k t b w h (inl n) = neutral-base (put k t) n (rw (put-typed k t b w).1 (h refl))
  formed-long true k t b w h (inr n) = n.0

  formed-bound : (k i : ℕ) (a : SimpleType) → (i ≡ k → a ≡ type_of s) → Formed false k (bound i a)
  formed-bound k i a h =
      elim (order i k) [
        | inl l ↦ inl (rw (bound_opened-below k s i a l) tt)
        | inr r ↦ elim r [
          | inl e ↦ inr (rw (bound_opened-at k s i a e) (IsForm-lifted s true 0 k normal), (let g : type_size a ≡ type_size (type_of s) = ap type_size (h e) in omega arith))
          | inr g ↦ inl (rw (bound_opened-above k s i a g) tt)
        ]
      ]

  formed-app : (k : ℕ) (f x : Tree) → IsBoundAt k (type_of s) (app f x) → IsWellTyped (app f x) → Formed false k f → IsNormal (put k x) → Formed false k (app f x)
  formed-app k f x b w (inl n) h = inl (rw (applied-neutral (put_within depth 0) (put k f) (put k x) n) (n, h, tt))
  formed-app k f x b w (inr n) h =
      let p = put-typed k f b.0 w.0 in
      let q = put-typed k x b.1 w.1 in
      let t : type_of f ≡ arrow (type_of x) (codomain (type_of f)) = w.4 in
      let z : type_size (type_of f) ≡ type_size (arrow (type_of x) (codomain (type_of f))) = ap type_size t in
      let l = n.1 in
      let r : Reduces (opened k s (app f x)) (app (put k f) (put k x)) = in_app (opened k s f) (put k f) (opened k s x) (put k x) (put-reduces (suc depth) k s f well present w.0 b.0) (put-reduces (suc depth) k s x well present w.1 b.1) in
      let o = IsWellTyped-opened s (type_of s) refl present well (app f x) k b w in
      let v : IsWellTyped (app (put k f) (put k x)) = (reduces_typed (opened k s (app f x)) (app (put k f) (put k x)) r o).0 in
      inr (applied-normal depth forms (put k f) (put k x) (type_of x) (codomain (type_of f)) n.0 h v (p.1 ∙ t) q.1 (omega arith), omega arith)

  formed : (long : Bool) (k : ℕ) (t : Tree) → IsForm long t → IsBoundAt k (type_of s) t → IsWellTyped t → Formed long k t
  formed long k (variable n a) h b w = formed-long long k (variable n a) b w (λ e. rw e at h) (inl tt)
  formed long k (bound i a) h b w = formed-long long k (bound i a) b w (λ e. rw e at h) (formed-bound k i a b)
  formed long k (symbol n a) h b w = formed-long long k (symbol n a) b w (λ e. rw e at h) (inl tt)
  formed long k (app f x) h b w = formed-long long k (app f x) b w (λ e. rw e at h.2) (formed-app k f x b w (formed false k f h.0 b.0 w.0) (formed true k x h.1 b.1 w.1))
  formed true k (lam a t) h b w = formed true (k + 1) t h b w.0
  formed false k (lam a t) h b w = absurd h
  formed long k (logic c x y) h b w = formed-long long k (logic c x y) b w (λ e. rw e at h.2) (inl (formed true k x h.0 b.0 w.0, formed true k y h.1 b.1 w.1, tt))
  formed long k absent h b w = formed-long long k absent b w (λ e. tt) (inl tt)

pub put-normal : (depth : ℕ) → Forms depth
put-normal zero x t nx wx px nt wt b l = absurd (let p = type_size-positive (type_of x) in omega arith)
put-normal (suc depth) x t nx wx px nt wt b l = formed depth (put-normal depth) x nx px wx l true 0 t nt b wt

-- the normal form of a well-typed term is normal
pub normal_form-normal : (t : Tree) → IsWellTyped t → IsNormal (normal_form t)
normal_form-normal (variable n a) w = expanded-normal a (variable n a) refl tt
normal_form-normal (bound i a) w = expanded-normal a (bound i a) refl tt
normal_form-normal (symbol n a) w = expanded-normal a (symbol n a) refl tt
normal_form-normal (app f x) w =
    let p = reduces_typed f (normal_form f) (normal_form-reduces f w.0) w.0 in
    let q = reduces_typed x (normal_form x) (normal_form-reduces x w.1) w.1 in
    let t : type_of f ≡ arrow (type_of x) (codomain (type_of f)) = w.4 in
    let r : Reduces (app f x) (app (normal_form f) (normal_form x)) = in_app f (normal_form f) x (normal_form x) (normal_form-reduces f w.0) (normal_form-reduces x w.1) in
    let v : IsWellTyped (app (normal_form f) (normal_form x)) = (reduces_typed (app f x) (app (normal_form f) (normal_form x)) r w).0 in
    contracted-normal (normal_form f) (normal_form x) (type_of x) (codomain (type_of f)) (normal_form-normal f w.0) (normal_form-normal x w.1) v (p.1.1 ∙ t) q.1.1
  where
    contracted-normal : (f x : Tree) (a b : SimpleType) → IsNormal f → IsNormal x → IsWellTyped (app f x) → type_of f ≡ arrow a b → type_of x ≡ a → IsNormal (applied contracted f x)
    contracted-normal f x a b h n w e g =
        let p = normal-function f a b h e in
        let q : f ≡ lam a p.0 = p.1 in
        let v : IsWellTyped (app (lam a p.0) x) = rw q at w in
        let m : IsNormal p.0 = rw q at h in
        let r : IsNormal (contracted x p.0) = put-normal (type_size (type_of x)) x p.0 n v.1 v.3 m v.0.0 (rw g v.0.2) (omega arith) in
        rw q r
normal_form-normal (lam a t) w = normal_form-normal t w.0
normal_form-normal (logic c x y) w = expanded-normal (connective_type c) (logic c (normal_form x) (normal_form y)) refl (normal_form-normal x w.0, normal_form-normal y w.1, tt)
normal_form-normal absent w = tt
