-- Beta steps with expanded heads: a normal term that is put in for an expanded index takes its place.
use Rattle.std.proofs.Common.{ℕ, zero, suc, ◌≡◌, ◌+◌, ◌≤◌, Bool, true, false, refl, ◌∙◌, ap, ◌⊎◌, inl, inr, arith}
use Rattle.leo_q0.specs.Terms.{SimpleType, base, arrow}
use Rattle.leo_terms.specs.Tree.{codomain, Tree, variable, bound, symbol, app, lam, logic, absent, type_of, IsBoundAt, lifted}
use Rattle.leo_terms.specs.Typing.{IsWellTyped}
use Rattle.leo_terms.specs.Reduction.{IsBase, IsForm, IsNormal, IsNeutral}
use Rattle.leo_terms.specs.NormalForm.{type_size, put_within, expanded, eta_long}
use Rattle.leo_terms.proofs.TreeLemmas.{lifted-below, lifted-above}
use Rattle.leo_terms.proofs.ReductionLemmas.{bound_opened-below, bound_opened-at, bound_opened-above, order}
use Rattle.leo_terms.proofs.FormLemmas.{type_size-positive, applied-neutral}
use Rattle.leo_terms.proofs.LiftLemmas.{lifted-none, put_within-lifts, put_by-raised}
use Rattle.leo_terms.proofs.NormalFormLaws.{Renames, Fills, lifted-expanded, put-index_below, contract-expanded}

-- putting in below a lambda, of a term that was lifted for it
put-under : (depth k : ℕ) (s t : Tree) → put_within (suc depth) (k + 1) s (lifted 0 1 t) ≡ lifted 0 1 (put_within (suc depth) k s t)
put-under depth k s t = put_by-raised (put_within depth 0) 1 (put_within-lifts depth 1) t s k (k + 1) 0 refl (omega arith)

-- putting in goes into an expansion, where its head stays one
put-filled_lam : (depth : ℕ) → Renames depth → (a b : SimpleType) (k : ℕ) (x t : Tree) (c : SimpleType) (r : Tree) → type_size (arrow a b) ≤ suc depth → IsNormal r → IsWellTyped (lam c r) → arrow c (type_of r) ≡ arrow a b → put_within (suc depth) k x t ≡ lam c r → ((u : Tree) → type_of r ≡ b → put_within (suc depth) (k + 1) x u ≡ r → put_within (suc depth) (k + 1) x (expanded b u) ≡ r) → put_within (suc depth) k x (expanded (arrow a b) t) ≡ lam c r
put-filled_lam depth renames a b k x t c r l n w e p later =
    let f : c ≡ a = cc in
    let g : type_of r ≡ b = cc in
    let i : put_within (suc depth) (k + 1) x (expanded a (bound 0 a)) ≡ expanded a (bound 0 a) = put-index_below a depth (k + 1) 0 x (omega arith) in
    let q : put_within (suc depth) (k + 1) x (lifted 0 1 t) ≡ lifted 0 1 (lam c r) = put-under depth k x t ∙ ap (lifted 0 1) p in
    let m : put_within depth 0 (expanded a (bound 0 a)) (lifted (0 + 1) 1 r) ≡ r = renames a (omega arith) r 0 n w.0 (rw (← f) w.2) in
    let v : put_within (suc depth) (k + 1) x (app (lifted 0 1 t) (expanded a (bound 0 a))) ≡ r = rw (q, i) m in
    rw f (ap (lam a) (later (app (lifted 0 1 t) (expanded a (bound 0 a))) g v))

put-filled : (depth : ℕ) → Renames depth → (c : SimpleType) (k : ℕ) (x t r : Tree) → type_size c ≤ suc depth → IsNormal r → IsWellTyped r → type_of r ≡ c → put_within (suc depth) k x t ≡ r → put_within (suc depth) k x (expanded c t) ≡ r
put-filled depth renames (base n) k x t r l h w e p = p
put-filled depth renames (arrow a b) k x t (variable n c) l h w e p = absurd (rw e at h)
put-filled depth renames (arrow a b) k x t (bound i c) l h w e p = absurd (rw e at h)
put-filled depth renames (arrow a b) k x t (symbol s c) l h w e p = absurd (rw e at h)
put-filled depth renames (arrow a b) k x t (app f y) l h w e p = absurd (rw e at h.2)
put-filled depth renames (arrow a b) k x t (lam c r) l h w e p =
    put-filled_lam depth renames a b k x t c r l h w e p (λ u g v. put-filled depth renames b (k + 1) x u r (omega arith) h w.0 g v)
put-filled depth renames (arrow a b) k x t (logic c y z) l h w e p = absurd (rw e at h.2)
put-filled depth renames (arrow a b) k x t absent l h w e p = absurd (cc)

fills-step : (depth : ℕ) → Renames depth → Fills (suc depth)
fills-step depth renames a l x n w e = put-filled depth renames a 0 x (bound 0 a) x l n w e (bound_opened-at 0 x 0 a refl ∙ lifted-none x 0)

-- the beta step of an expanded head
pub expanded-base : (a : SimpleType) (t : Tree) → IsBase a → expanded a t ≡ t
expanded-base (base n) t h = refl
expanded-base (arrow a b) t h = absurd h

module _ (depth : ℕ) (fills : Fills depth) (b : SimpleType) (small : type_size b ≤ suc depth) where
  abbrev itself : ℕ → Tree → Tree
  itself k t = put_within (suc depth) k (expanded b (bound 0 b)) (lifted (k + 1) 1 t)

  -- a head that had the index becomes its expansion
  abbrev Renamed : Bool → ℕ → Tree → Type 0
  Renamed true k t = itself k t ≡ t
  Renamed false k t = (itself k t ≡ t) ⊎ ((itself k t ≡ eta_long t) × (type_size (type_of t) ≤ type_size b))

  renamed-long : (long : Bool) (k : ℕ) (t : Tree) → (long ≡ true → IsBase (type_of t)) → Renamed false k t → Renamed long k t
  renamed-long false k t h r = r
  renamed-long true k t h (inl e) = e
  renamed-long true k t h (inr e) = e.0 ∙ expanded-base (type_of t) t (h refl)

  renamed-bound : (k i : ℕ) (c : SimpleType) → (i ≡ k → c ≡ b) → Renamed false k (bound i c)
  renamed-bound k i c h =
      let s : Tree = expanded b (bound 0 b) in
      elim (order i k) [
        | inl l ↦ inl (rw (lifted-below i (k + 1) 1 c (omega arith)) (bound_opened-below k s i c l))
        | inr r ↦ elim r [
          | inl e ↦ (let f : c ≡ b = h e in
              let z : 0 + k ≡ k = omega arith in
              inr (rw (lifted-below i (k + 1) 1 c (omega arith)) (bound_opened-at k s i c e ∙ lifted-expanded b (bound 0 b) 0 k ∙ ap (expanded b) (lifted-above 0 0 k b (omega arith)) ∙ ap (λ (j : ℕ). expanded b (bound j b)) z ∙ rw (e, f) refl), (let g : type_size c ≡ type_size b = ap type_size f in omega arith)))
          | inr g ↦ inl (rw (lifted-above i (k + 1) 1 c (omega arith)) (bound_opened-above k s (i + 1) c (omega arith) ∙ ap (λ j. bound j c) (omega arith)))
        ]
      ]

  renamed-app : (k : ℕ) (f x : Tree) → IsNeutral f → IsNormal x → IsWellTyped (app f x) → Renamed false k f → itself k x ≡ x → Renamed false k (app f x)
  renamed-app k f x h n w (inl e) g = inl (rw (e, g) (applied-neutral (put_within depth 0) f x h))
  renamed-app k f x h n w (inr e) g =
      let t : type_of f ≡ arrow (type_of x) (codomain (type_of f)) = w.4 in
      let z : type_size (type_of f) ≡ type_size (arrow (type_of x) (codomain (type_of f))) = ap type_size t in
      let l = e.1 in
      let v : eta_long f ≡ expanded (arrow (type_of x) (codomain (type_of f))) f = ap (λ (a : SimpleType). expanded a f) t in
      let o : itself k f ≡ expanded (arrow (type_of x) (codomain (type_of f))) f = e.0 ∙ v in
      inr (rw (o, g) (contract-expanded depth fills (type_of x) (codomain (type_of f)) f x (omega arith) h n w.1 refl), omega arith)

  renamed : (long : Bool) (k : ℕ) (t : Tree) → IsForm long t → IsWellTyped t → IsBoundAt k b t → Renamed long k t
  renamed long k (variable n a) h w o = renamed-long long k (variable n a) (λ e. rw e at h) (inl refl)
  renamed long k (bound i a) h w o = renamed-long long k (bound i a) (λ e. rw e at h) (renamed-bound k i a o)
  renamed long k (symbol s a) h w o = renamed-long long k (symbol s a) (λ e. rw e at h) (inl refl)
  renamed long k (app f x) h w o = renamed-long long k (app f x) (λ e. rw e at h.2) (renamed-app k f x h.0 h.1 w (renamed false k f h.0 w.0 o.0) (renamed true k x h.1 w.1 o.1))
  renamed true k (lam a t) h w o = ap (lam a) (renamed true (k + 1) t h w.0 o)
  renamed false k (lam a t) h w o = absurd h
  renamed long k (logic c x y) h w o = renamed-long long k (logic c x y) (λ e. rw e at h.2) (inl (rw (renamed true k x h.0 w.0 o.0, renamed true k y h.1 w.1 o.1) refl))
  renamed long k absent h w o = renamed-long long k absent (λ e. tt) (inl refl)

renames-step : (depth : ℕ) → Fills depth → Renames (suc depth)
renames-step depth fills b l t k n w o = renamed depth fills b l true k t n w o

both : (depth : ℕ) → Renames depth × Fills depth
both zero = (λ b l t k n w o. absurd (let p = type_size-positive b in omega arith), λ a l x n w e. absurd (let p = type_size-positive a in omega arith))
both (suc depth) = let p = both depth in (renames-step depth p.1, fills-step depth p.0)

pub fills : (depth : ℕ) → Fills depth
fills depth = (both depth).1
