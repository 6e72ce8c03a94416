-- A normal term is its own normal form.
use Rattle.std.proofs.Common.{ℕ, zero, suc, ◌≡◌, ◌+◌, ◌<◌, ◌≤◌, Bool, true, false, refl, ◌∙◌, ap, ◌⊎◌, inl, inr, arith}
use Rattle.leo_q0.specs.Terms.{SimpleType, base, arrow}
use Rattle.leo_terms.specs.Tree.{codomain, Tree, variable, bound, symbol, app, lam, logic, absent, type_of, IsBoundAt, lifted}
use Rattle.leo_terms.specs.Typing.{IsWellTyped}
use Rattle.leo_terms.specs.Reduction.{IsBase, IsForm, IsNormal, IsNeutral}
use Rattle.leo_terms.specs.NormalForm.{type_size, put_by, put_within, expanded, eta_long, normal_form}
use Rattle.leo_terms.proofs.TreeLemmas.{lifted-below, lifted-above, type_of-lifted}
use Rattle.leo_terms.proofs.ReductionLemmas.{bound_opened-below, bound_opened-at, bound_opened-above, order, IsForm-lifted}
use Rattle.leo_terms.proofs.FormLemmas.{type_size-positive, applied-neutral}
use Rattle.leo_terms.proofs.LiftLemmas.{lifted-swap, lifted-none, put_within-lifts, put_by-raised}

-- lifting goes into an expansion
pub lifted-expanded : (a : SimpleType) (t : Tree) (from by : ℕ) → lifted from by (expanded a t) ≡ expanded a (lifted from by t)
lifted-expanded (base n) t from by = refl
lifted-expanded (arrow a b) t from by =
    let e : lifted (from + 1) by (lifted 0 1 t) ≡ lifted 0 1 (lifted from by t) = lifted-swap t 0 1 (from + 1) from by (omega arith) (omega arith) in
    let f : lifted (from + 1) by (expanded a (bound 0 a)) ≡ expanded a (bound 0 a) = lifted-expanded a (bound 0 a) (from + 1) by ∙ ap (expanded a) (lifted-below 0 (from + 1) by a (omega arith)) in
    ap (lam a) (lifted-expanded b (app (lifted 0 1 t) (expanded a (bound 0 a))) (from + 1) by ∙ rw (e, f) refl)

-- an expansion is normal
pub expanded-normal : (a : SimpleType) (t : Tree) → type_of t ≡ a → IsNeutral t → IsNormal (expanded a t)
expanded-normal (base n) t e h = neutral_base t n e h
  where
    neutral_base : (t : Tree) (n : ℕ) → type_of t ≡ base n → IsNeutral t → IsNormal t
    neutral_base (variable m a) n e h = rw e tt
    neutral_base (bound i a) n e h = rw e tt
    neutral_base (symbol s a) n e h = rw e tt
    neutral_base (app f x) n e h = (h.0, h.1, rw e tt)
    neutral_base (lam a t) n e h = absurd h
    neutral_base (logic c x y) n e h = (h.0, h.1, rw e tt)
    neutral_base absent n e h = tt
expanded-normal (arrow a b) t e h =
    expanded-normal b (app (lifted 0 1 t) (expanded a (bound 0 a))) (ap codomain (type_of-lifted t 0 1 ∙ e)) (IsForm-lifted t false 0 1 h, expanded-normal a (bound 0 a) refl tt, tt)

-- putting in below a lambda, of a term that was lifted for it
put-under : (depth k : ℕ) (s t : Tree) → put_within (suc depth) (k + 1) s (lifted 0 1 t) ≡ lifted 0 1 (put_within (suc depth) k s t)
put-under depth k s t = put_by-raised (put_within depth 0) 1 (put_within-lifts depth 1) t s k (k + 1) 0 refl (omega arith)

-- putting in goes into an expansion, where its head stays one
pub put-expanded : (a : SimpleType) (depth k : ℕ) (s t r : Tree) → put_within (suc depth) k s t ≡ r → IsNeutral r → put_within (suc depth) k s (expanded a t) ≡ expanded a r
put-expanded (base n) depth k s t r e h = e
put-expanded (arrow a b) depth k s t r e h =
    let x : Tree = expanded a (bound 0 a) in
    let p : put_within (suc depth) (k + 1) s x ≡ x = put-expanded a depth (k + 1) s (bound 0 a) (bound 0 a) (bound_opened-below (k + 1) s 0 a (omega arith)) tt in
    let q : put_within (suc depth) (k + 1) s (lifted 0 1 t) ≡ lifted 0 1 r = put-under depth k s t ∙ ap (lifted 0 1) e in
    let n : IsNeutral (lifted 0 1 r) = IsForm-lifted r false 0 1 h in
    let v : put_within (suc depth) (k + 1) s (app (lifted 0 1 t) x) ≡ app (lifted 0 1 r) x = rw (q, p) (applied-neutral (put_within depth 0) (lifted 0 1 r) x n) in
    ap (lam a) (put-expanded b depth (k + 1) s (app (lifted 0 1 t) x) (app (lifted 0 1 r) x) v (n, expanded-normal a (bound 0 a) refl tt, tt))

pub put-index_below : (a : SimpleType) (depth k j : ℕ) (s : Tree) → j < k → put_within (suc depth) k s (expanded a (bound j a)) ≡ expanded a (bound j a)
put-index_below a depth k j s l = put-expanded a depth k s (bound j a) (bound j a) (bound_opened-below k s j a l) tt

-- where nothing has the index, nothing is put in
put-gap_bound : (contract : Tree → Tree → Tree) (i k : ℕ) (a : SimpleType) (s : Tree) → put_by contract k s (lifted k 1 (bound i a)) ≡ bound i a
put-gap_bound contract i k a s =
    elim (order i k) [
      | inl l ↦ rw (lifted-below i k 1 a l) (bound_opened-below k s i a l)
      | inr r ↦ rw (lifted-above i k 1 a (elim r [ inl e ↦ omega arith | inr g ↦ omega arith ])) (bound_opened-above k s (i + 1) a (elim r [ inl e ↦ omega arith | inr g ↦ omega arith ]) ∙ ap (λ j. bound j a) (omega arith))
    ]

pub put-gap : (contract : Tree → Tree → Tree) (long : Bool) (t s : Tree) (k : ℕ) → IsForm long t → put_by contract k s (lifted k 1 t) ≡ t
put-gap contract long (variable n a) s k h = refl
put-gap contract long (bound i a) s k h = put-gap_bound contract i k a s
put-gap contract long (symbol n a) s k h = refl
put-gap contract long (app f x) s k h = rw (put-gap contract false f s k h.0, put-gap contract true x s k h.1) (applied-neutral contract f x h.0)
put-gap contract true (lam a t) s k h = ap (lam a) (put-gap contract true t s (k + 1) h)
put-gap contract false (lam a t) s k h = absurd h
put-gap contract long (logic c x y) s k h = rw (put-gap contract true x s k h.0, put-gap contract true y s k h.1) refl
put-gap contract long absent s k h = refl

-- putting in the expansion of an index of this type for itself changes no normal term
abbrev pub Renames : ℕ → Type 0
Renames depth = (b : SimpleType) → type_size b ≤ depth → (t : Tree) (k : ℕ) → IsNormal t → IsWellTyped t → IsBoundAt k b t → put_within depth k (expanded b (bound 0 b)) (lifted (k + 1) 1 t) ≡ t

-- a normal term that is put in for an expanded index takes its place
abbrev pub Fills : ℕ → Type 0
Fills depth = (a : SimpleType) → type_size a ≤ depth → (x : Tree) → IsNormal x → IsWellTyped x → type_of x ≡ a → put_within depth 0 x (expanded a (bound 0 a)) ≡ x

put-filled_lam : (depth : ℕ) → Renames depth → (a b : SimpleType) (k : ℕ) (x t : Tree) (c : SimpleType) (r : Tree) → type_size (arrow a b) ≤ suc depth → IsNormal r → IsWellTyped (lam c r) → arrow c (type_of r) ≡ arrow a b → put_within (suc depth) k x t ≡ lam c r → ((u : Tree) → type_of r ≡ b → put_within (suc depth) (k + 1) x u ≡ r → put_within (suc depth) (k + 1) x (expanded b u) ≡ r) → put_within (suc depth) k x (expanded (arrow a b) t) ≡ lam c r
put-filled_lam depth renames a b k x t c r l n w e p later =
    let f : c ≡ a = cc in
    let g : type_of r ≡ b = cc in
    let i : put_within (suc depth) (k + 1) x (expanded a (bound 0 a)) ≡ expanded a (bound 0 a) = put-index_below a depth (k + 1) 0 x (omega arith) in
    let q : put_within (suc depth) (k + 1) x (lifted 0 1 t) ≡ lifted 0 1 (lam c r) = put-under depth k x t ∙ ap (lifted 0 1) p in
    let m : put_within depth 0 (expanded a (bound 0 a)) (lifted (0 + 1) 1 r) ≡ r = renames a (omega arith) r 0 n w.0 (rw (← f) w.2) in
    let v : put_within (suc depth) (k + 1) x (app (lifted 0 1 t) (expanded a (bound 0 a))) ≡ r = rw (q, i) m in
    rw f (ap (lam a) (later (app (lifted 0 1 t) (expanded a (bound 0 a))) g v))

put-filled : (depth : ℕ) → Renames depth → (c : SimpleType) (k : ℕ) (x t r : Tree) → type_size c ≤ suc depth → IsNormal r → IsWellTyped r → type_of r ≡ c → put_within (suc depth) k x t ≡ r → put_within (suc depth) k x (expanded c t) ≡ r
put-filled depth renames (base n) k x t r l h w e p = p
put-filled depth renames (arrow a b) k x t (variable n c) l h w e p = absurd (rw e at h)
put-filled depth renames (arrow a b) k x t (bound i c) l h w e p = absurd (rw e at h)
put-filled depth renames (arrow a b) k x t (symbol s c) l h w e p = absurd (rw e at h)
put-filled depth renames (arrow a b) k x t (app f y) l h w e p = absurd (rw e at h.2)
put-filled depth renames (arrow a b) k x t (lam c r) l h w e p =
    put-filled_lam depth renames a b k x t c r l h w e p (λ u g v. put-filled depth renames b (k + 1) x u r (omega arith) h w.0 g v)
put-filled depth renames (arrow a b) k x t (logic c y z) l h w e p = absurd (rw e at h.2)
put-filled depth renames (arrow a b) k x t absent l h w e p = absurd (cc)

fills-step : (depth : ℕ) → Renames depth → Fills (suc depth)
fills-step depth renames a l x n w e = put-filled depth renames a 0 x (bound 0 a) x l n w e (bound_opened-at 0 x 0 a refl ∙ lifted-none x 0)

-- the beta step of an expanded head
pub contract-expanded : (depth : ℕ) → Fills depth → (a c : SimpleType) (f x : Tree) → type_size a ≤ depth → IsNeutral f → IsNormal x → IsWellTyped x → type_of x ≡ a → put_within depth 0 x (expanded c (app (lifted 0 1 f) (expanded a (bound 0 a)))) ≡ expanded c (app f x)
contract-expanded zero fills a c f x l h n w e = absurd (let p = type_size-positive a in omega arith)
contract-expanded (suc depth) fills a c f x l h n w e =
    let p : put_within (suc depth) 0 x (lifted 0 1 f) ≡ f = put-gap (put_within depth 0) false f x 0 h in
    let q : put_within (suc depth) 0 x (expanded a (bound 0 a)) ≡ x = fills a l x n w e in
    let v : put_within (suc depth) 0 x (app (lifted 0 1 f) (expanded a (bound 0 a))) ≡ app f x = rw (p, q) (applied-neutral (put_within depth 0) f x h) in
    put-expanded c depth 0 x (app (lifted 0 1 f) (expanded a (bound 0 a))) (app f x) v (h, n, tt)

expanded-base : (a : SimpleType) (t : Tree) → IsBase a → expanded a t ≡ t
expanded-base (base n) t h = refl
expanded-base (arrow a b) t h = absurd h

module _ (depth : ℕ) (fills : Fills depth) (b : SimpleType) (small : type_size b ≤ suc depth) where
  abbrev itself : ℕ → Tree → Tree
  itself k t = put_within (suc depth) k (expanded b (bound 0 b)) (lifted (k + 1) 1 t)

  -- a head that had the index becomes its expansion
  abbrev Renamed : Bool → ℕ → Tree → Type 0
  Renamed true k t = itself k t ≡ t
  Renamed false k t = (itself k t ≡ t) ⊎ ((itself k t ≡ eta_long t) × (type_size (type_of t) ≤ type_size b))

  renamed-long : (long : Bool) (k : ℕ) (t : Tree) → (long ≡ true → IsBase (type_of t)) → Renamed false k t → Renamed long k t
  renamed-long false k t h r = r
  renamed-long true k t h (inl e) = e
  renamed-long true k t h (inr e) = e.0 ∙ expanded-base (type_of t) t (h refl)

  renamed-bound : (k i : ℕ) (c : SimpleType) → (i ≡ k → c ≡ b) → Renamed false k (bound i c)
  renamed-bound k i c h =
      let s : Tree = expanded b (bound 0 b) in
      elim (order i k) [
        | inl l ↦ inl (rw (lifted-below i (k + 1) 1 c (omega arith)) (bound_opened-below k s i c l))
        | inr r ↦ elim r [
          | inl e ↦ (let f : c ≡ b = h e in
              let z : 0 + k ≡ k = omega arith in
              inr (rw (lifted-below i (k + 1) 1 c (omega arith)) (bound_opened-at k s i c e ∙ lifted-expanded b (bound 0 b) 0 k ∙ ap (expanded b) (lifted-above 0 0 k b (omega arith)) ∙ ap (λ (j : ℕ). expanded b (bound j b)) z ∙ rw (e, f) refl), (let g : type_size c ≡ type_size b = ap type_size f in omega arith)))
          | inr g ↦ inl (rw (lifted-above i (k + 1) 1 c (omega arith)) (bound_opened-above k s (i + 1) c (omega arith) ∙ ap (λ j. bound j c) (omega arith)))
        ]
      ]

  renamed-app : (k : ℕ) (f x : Tree) → IsNeutral f → IsNormal x → IsWellTyped (app f x) → Renamed false k f → itself k x ≡ x → Renamed false k (app f x)
  renamed-app k f x h n w (inl e) g = inl (rw (e, g) (applied-neutral (put_within depth 0) f x h))
  renamed-app k f x h n w (inr e) g =
      let t : type_of f ≡ arrow (type_of x) (codomain (type_of f)) = w.4 in
      let z : type_size (type_of f) ≡ type_size (arrow (type_of x) (codomain (type_of f))) = ap type_size t in
      let l = e.1 in
      let v : eta_long f ≡ expanded (arrow (type_of x) (codomain (type_of f))) f = ap (λ (a : SimpleType). expanded a f) t in
      let o : itself k f ≡ expanded (arrow (type_of x) (codomain (type_of f))) f = e.0 ∙ v in
      inr (rw (o, g) (contract-expanded depth fills (type_of x) (codomain (type_of f)) f x (omega arith) h n w.1 refl), omega arith)

  renamed : (long : Bool) (k : ℕ) (t : Tree) → IsForm long t → IsWellTyped t → IsBoundAt k b t → Renamed long k t
  renamed long k (variable n a) h w o = renamed-long long k (variable n a) (λ e. rw e at h) (inl refl)
  renamed long k (bound i a) h w o = renamed-long long k (bound i a) (λ e. rw e at h) (renamed-bound k i a o)
  renamed long k (symbol s a) h w o = renamed-long long k (symbol s a) (λ e. rw e at h) (inl refl)
  renamed long k (app f x) h w o = renamed-long long k (app f x) (λ e. rw e at h.2) (renamed-app k f x h.0 h.1 w (renamed false k f h.0 w.0 o.0) (renamed true k x h.1 w.1 o.1))
  renamed true k (lam a t) h w o = ap (lam a) (renamed true (k + 1) t h w.0 o)
  renamed false k (lam a t) h w o = absurd h
  renamed long k (logic c x y) h w o = renamed-long long k (logic c x y) (λ e. rw e at h.2) (inl (rw (renamed true k x h.0 w.0 o.0, renamed true k y h.1 w.1 o.1) refl))
  renamed long k absent h w o = renamed-long long k absent (λ e. tt) (inl refl)

renames-step : (depth : ℕ) → Fills depth → Renames (suc depth)
renames-step depth fills b l t k n w o = renamed depth fills b l true k t n w o

both : (depth : ℕ) → Renames depth × Fills depth
both zero = (λ b l t k n w o. absurd (let p = type_size-positive b in omega arith), λ a l x n w e. absurd (let p = type_size-positive a in omega arith))
both (suc depth) = let p = both depth in (renames-step depth p.1, fills-step depth p.0)

-- the normal form of a normal term, and of a head with normal arguments
abbrev IsOwnForm : Bool → Tree → Type 0
IsOwnForm true t = normal_form t ≡ t
IsOwnForm false t = normal_form t ≡ eta_long t

own-long : (long : Bool) (t : Tree) → (long ≡ true → IsBase (type_of t)) → normal_form t ≡ eta_long t → IsOwnForm long t
own-long false t h e = e
own-long true t h e = e ∙ expanded-base (type_of t) t (h refl)

own-app : (f x : Tree) → IsNeutral f → IsNormal x → IsWellTyped (app f x) → normal_form f ≡ eta_long f → normal_form x ≡ x → normal_form (app f x) ≡ eta_long (app f x)
own-app f x h n w e g =
    let t : type_of f ≡ arrow (type_of x) (codomain (type_of f)) = w.4 in
    let v : eta_long f ≡ expanded (arrow (type_of x) (codomain (type_of f))) f = ap (λ (a : SimpleType). expanded a f) t in
    let o : normal_form f ≡ expanded (arrow (type_of x) (codomain (type_of f))) f = e ∙ v in
    rw (o, g) (contract-expanded (type_size (type_of x)) (both (type_size (type_of x))).1 (type_of x) (codomain (type_of f)) f x (omega arith) h n w.1 refl)

own-form : (long : Bool) (t : Tree) → IsForm long t → IsWellTyped t → IsOwnForm long t
own-form long (variable n a) h w = own-long long (variable n a) (λ e. rw e at h) refl
own-form long (bound i a) h w = own-long long (bound i a) (λ e. rw e at h) refl
own-form long (symbol s a) h w = own-long long (symbol s a) (λ e. rw e at h) refl
own-form long (app f x) h w = own-long long (app f x) (λ e. rw e at h.2) (own-app f x h.0 h.1 w (own-form false f h.0 w.0) (own-form true x h.1 w.1))
own-form true (lam a t) h w = ap (lam a) (own-form true t h w.0)
own-form false (lam a t) h w = absurd h
own-form long (logic c x y) h w = own-long long (logic c x y) (λ e. rw e at h.2) (rw (own-form true x h.0 w.0, own-form true y h.1 w.1) refl)
own-form long absent h w = own-long long absent (λ e. tt) refl

-- a normal term is its own normal form
pub normal_form-itself : (t : Tree) → IsNormal t → IsWellTyped t → normal_form t ≡ t
normal_form-itself t n w = own-form true t n w
