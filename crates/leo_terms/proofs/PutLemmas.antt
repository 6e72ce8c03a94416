-- How a normal term with a normal term put in is made of its parts.
use Rattle.std.proofs.Common.{ℕ, suc, ◌≡◌, ◌+◌, ◌-◌, ◌^◌, ◌<◌, ◌≤◌, true, length, Option, refl, sym, ◌∙◌, ap, ◌⊎◌, inl, inr, arith}
use Rattle.leo_terms.specs.declared.node.Op.{Op}
use Rattle.leo_terms.specs.declared.node.View.{View}
use Rattle.leo_terms.specs.declared.node.View.TheVariants.{Bound, App, Lam, Logic}
use Rattle.leo_q0.specs.Terms.{SimpleType, arrow}
use Rattle.leo_terms.specs.Tree.{Tree, bound, app, lam, logic, Connective, type_of, IsBoundAt, lifted, opened, bound_opened}
use Rattle.leo_terms.specs.Reduction.{Reduces, nothing, andthen, in_app, in_lam, in_logic, beta, IsNormal, IsNeutral}
use Rattle.leo_terms.specs.NormalForm.{type_size, put_within}
use Rattle.leo_terms.specs.Normal.{IsPut, IsPutArgument}
use Rattle.leo_terms.specs.Contents.{Contents, type_at, tree_at, connective, argument, argument_type, type_number, IsArrow, IsArgumentBelow, IsSound, Grows, IsTerm, IsArgumentTerm}
use Rattle.leo_terms.proofs.Growth.{arrow-below, ty-arrow, ty-keeps, tree-keeps, type_number-keeps, argument_type-keeps, argument-same, IsKept-length, IsArrow-keeps}
use Rattle.leo_terms.proofs.Rebuild.{HasView, view_sound, tree-app, tree-lam, tree-logic, tree-bound, bound-lam, IsArgumentBelow-length, IsSoundNode-leaf}
use Rattle.leo_terms.proofs.ReductionLemmas.{IsForm-lifted, IsBoundAt-reduces, IsBoundAt-opened, bound_opened-at, bound_opened-above}
use Rattle.leo_terms.proofs.TypeLemmas.{type_at-injective, arrow-same}
use Rattle.leo_terms.proofs.NormalLemmas.{type_of-tree, view-of_function}
use Rattle.leo_terms.proofs.FormLemmas.{type_size-positive, put-app, put-logic, put-redex}

-- neutral or normal
abbrev pub IsReady : Tree → Type 0
IsReady t = IsNeutral t ⊎ IsNormal t

pub IsReady-app : (f x : Tree) → IsReady (app f x) → IsNeutral f × IsNormal x
IsReady-app f x (inl h) = (h.0, h.1)
IsReady-app f x (inr h) = (h.0, h.1)

pub IsReady-lam : (a : SimpleType) (t : Tree) → IsReady (lam a t) → IsNormal t
IsReady-lam a t (inl h) = absurd h
IsReady-lam a t (inr h) = h

pub IsReady-logic : (c : Connective) (x y : Tree) → IsReady (logic c x y) → IsNormal x × IsNormal y
IsReady-logic c x y (inl h) = (h.0, h.1)
IsReady-logic c x y (inr h) = (h.0, h.1)

-- a term that has nothing at the index stays
pub IsPut-itself : (c : Contents) (t k s : ℕ) (u : Tree) → t < length c.terms → tree_at c t ≡ u → opened k (tree_at c s) u ≡ u → ((depth : ℕ) → put_within (suc depth) k (tree_at c s) u ≡ u) → IsPut c c t k s t
IsPut-itself c t k s u l e f g = record {
  within = l;
  type_is = refl;
  value = λ depth _. rw e (sym (g depth));
  reduces = rw (e, f) (nothing u);
  normal = λ h. h;
  neutral = λ h. inl h;
}

-- the index itself is what is put in
pub IsPut-at : (c d : Contents) → IsSound c → (t k s i r : ℕ) → t < length c.terms → s < length c.terms → HasView c t (Bound i) → i ≡ k → IsBoundAt k (type_at c (type_number c s)) (tree_at c t) → IsNormal (tree_at c s) → IsTerm d r (type_number c s) (lifted 0 i (tree_at c s)) → IsPut c d t k s r
IsPut-at c d w t k s i r l m v e h n p =
    let b = tree-bound c w t i v in
    let g : type_at c (type_number c t) ≡ type_at c (type_number c s) = (rw b at h) e in
    let j : type_number c t ≡ type_number c s = type_at-injective c w _ _ (IsSoundNode-leaf c w t l) (IsSoundNode-leaf c w s m) g in
    let f : IsNormal (lifted 0 i (tree_at c s)) = IsForm-lifted (tree_at c s) true 0 i n in
    let y : type_size (type_of (tree_at c t)) ≡ type_size (type_of (tree_at c s)) = ap type_size (type_of-tree c w t l ∙ g ∙ sym (type_of-tree c w s m)) in
    let o : bound_opened k (tree_at c s) i (type_at c (type_number c t)) ≡ lifted 0 k (tree_at c s) = bound_opened-at k (tree_at c s) i _ e in
    record {
      within = p.within;
      type_is = p.type_is ∙ sym j;
      value = λ depth _. rw (b, p.reads, o, e) refl;
      reduces = rw (b, p.reads, o, e) (nothing (lifted 0 k (tree_at c s)));
      normal = λ _. rw p.reads f;
      neutral = λ _. inr (rw p.reads f, omega arith, omega arith);
    }

-- an index above is lowered
pub IsPut-above : (c d : Contents) → IsSound c → (t k s i r : ℕ) → HasView c t (Bound i) → k < i → IsTerm d r (type_number c t) (bound (i - 1) (type_at c (type_number c t))) → IsPut c d t k s r
IsPut-above c d w t k s i r v e p =
    let b = tree-bound c w t i v in
    let o : bound_opened k (tree_at c s) i (type_at c (type_number c t)) ≡ bound (i - 1) (type_at c (type_number c t)) = bound_opened-above k (tree_at c s) i _ e in
    record {
      within = p.within;
      type_is = p.type_is;
      value = λ depth _. rw (b, p.reads, o) refl;
      reduces = rw (b, p.reads, o) (nothing (bound (i - 1) (type_at c (type_number c t))));
      normal = rw (b, p.reads) (λ h. h);
      neutral = λ _. rw p.reads (inl tt);
    }

pub IsTerm-put : (a b : Contents) (t k s r : ℕ) → IsPut a b t k s r → IsTerm b r (type_number a t) (tree_at b r)
IsTerm-put a b t k s r p = record { within = p.within; type_is = p.type_is; reads = refl }

pub IsArgumentTerm-put : (a b : Contents) (x : Option ℕ) (k s : ℕ) (r : Option ℕ) → IsPutArgument a b x k s r → IsArgumentTerm b r (argument_type a x) (argument (tree_at b) r)
IsArgumentTerm-put a b x k s r p = record { within = p.within; type_is = p.type_is; reads = refl }

-- what was put in stays so as the bank grows afterwards
pub IsPut-grows : (a b c : Contents) → Grows b c → (t k s r : ℕ) → IsPut a b t k s r → IsPut a c t k s r
IsPut-grows a b c g t k s r p =
    let e : tree_at c r ≡ tree_at b r = tree-keeps b c g.old_sound g.keeps r p.within in
    let l = IsKept-length b.terms c.terms g.keeps.terms in
    let w = p.within in
    record {
      within = omega arith;
      type_is = type_number-keeps b c g.keeps r p.within ∙ p.type_is;
      value = rw e p.value;
      reduces = rw e p.reduces;
      normal = rw e p.normal;
      neutral = rw e p.neutral;
    }

-- and it is the same for a bank that grew before
pub IsPut-from : (a b c : Contents) → Grows a b → (t k s r : ℕ) → t < length a.terms → s < length a.terms → IsPut b c t k s r → IsPut a c t k s r
IsPut-from a b c g t k s r l m p =
    let e : tree_at b t ≡ tree_at a t = tree-keeps a b g.old_sound g.keeps t l in
    let f : tree_at b s ≡ tree_at a s = tree-keeps a b g.old_sound g.keeps s m in
    let i : type_number b t ≡ type_number a t = type_number-keeps a b g.keeps t l in
    let j : type_number b s ≡ type_number a s = type_number-keeps a b g.keeps s m in
    record {
      within = p.within;
      type_is = p.type_is ∙ i;
      value = rw (← e, ← f) p.value;
      reduces = rw (← e, ← f) p.reduces;
      normal = rw (← e) p.normal;
      neutral = rw (← e, ← f, ← i, ← j) p.neutral;
    }

pub IsPutArgument-grows : (a b c : Contents) → Grows b c → (x : Option ℕ) (k s : ℕ) (r : Option ℕ) → IsPutArgument a b x k s r → IsPutArgument a c x k s r
IsPutArgument-grows a b c g x k s r p =
    let e : argument (tree_at c) r ≡ argument (tree_at b) r = argument-same (tree_at b) (tree_at c) (length b.terms) (tree-keeps b c g.old_sound g.keeps) r p.within in
    record {
      within = IsArgumentBelow-length (length b.terms) (length c.terms) (IsKept-length b.terms c.terms g.keeps.terms) r p.within;
      type_is = argument_type-keeps b c g.keeps (length b.terms) (omega arith) r p.within ∙ p.type_is;
      value = rw e p.value;
      reduces = rw e p.reduces;
      normal = rw e p.normal;
    }

pub IsPutArgument-from : (a b c : Contents) → Grows a b → (x : Option ℕ) (k s : ℕ) (r : Option ℕ) → IsArgumentBelow (length a.terms) x → s < length a.terms → IsPutArgument b c x k s r → IsPutArgument a c x k s r
IsPutArgument-from a b c g x k s r l m p =
    let e : argument (tree_at b) x ≡ argument (tree_at a) x = argument-same (tree_at a) (tree_at b) (length a.terms) (tree-keeps a b g.old_sound g.keeps) x l in
    let f : tree_at b s ≡ tree_at a s = tree-keeps a b g.old_sound g.keeps s m in
    record {
      within = p.within;
      type_is = p.type_is ∙ argument_type-keeps a b g.keeps (length a.terms) (omega arith) x l;
      value = rw (← e, ← f) p.value;
      reduces = rw (← e, ← f) p.reduces;
      normal = rw (← e) p.normal;
    }

-- terms of one type have trees of one type
type_of-same : (a c : Contents) → Grows a c → (f f' : ℕ) → f < length a.terms → f' < length c.terms → type_number c f' ≡ type_number a f → type_of (tree_at c f') ≡ type_of (tree_at a f)
type_of-same a c g f f' l m e =
    let t = ty-keeps a c g.old_sound g.keeps.types (type_number a f) (IsSoundNode-leaf a g.old_sound f l) in
    type_of-tree c g.new_sound f' m ∙ ap (type_at c) e ∙ t ∙ sym (type_of-tree a g.old_sound f l)

module _ (a c : Contents) (g : Grows a c) (t f x k s f' x' : ℕ) (v : HasView a t (App f x)) (ready : IsReady (tree_at a t)) (p : IsPut a c f k s f') (q : IsPut a c x k s x') where
  app_ready : IsNeutral (tree_at a f) × IsNormal (tree_at a x)
  app_ready = IsReady-app (tree_at a f) (tree_at a x) (rw (tree-app a g.old_sound t f x v) at ready)

  app_arrow : IsArrow c (type_number c f') (type_number c x') (type_number a t)
  app_arrow =
      let u = view_sound a g.old_sound t (App f x) v in
      rw (p.type_is, q.type_is) (IsArrow-keeps a c g.keeps _ _ _ u.0.typed)

  app_reduces : Reduces (opened k (tree_at a s) (tree_at a t)) (app (tree_at c f') (tree_at c x'))
  app_reduces = rw (tree-app a g.old_sound t f x v) (in_app _ _ _ _ p.reduces q.reduces)

  -- a function that is no lambda is a head with arguments still
  pub put_head : (w : View) → HasView c f' w → ((i j : ℕ) → w ≡ Lam i j → ⊥) → IsNeutral (tree_at c f')
  put_head w h none =
      elim (p.neutral app_ready.0) [
        | inl n ↦ n
        | inr n ↦ (let b = view-of_function c g.new_sound f' w h n.0 (type_number c x') (type_number a t) app_arrow in absurd (none b.0 b.1 b.2))
      ]

  pub IsPut-app : (d : Contents) (r : ℕ) → IsNeutral (tree_at c f') → IsTerm d r (type_number a t) (app (tree_at c f') (tree_at c x')) → IsPut a d t k s r
  IsPut-app d r n m =
      let u = view_sound a g.old_sound t (App f x) v in
      let below = u.0.function_below in
      let within = u.1 in
      let e : type_of (tree_at c f') ≡ type_of (tree_at a f) = type_of-same a c g f f' (omega arith) p.within p.type_is in
      let y : IsNormal (tree_at c x') = q.normal app_ready.1 in
      record {
        within = m.within;
        type_is = m.type_is;
        value = λ depth l. rw (m.reads, tree-app a g.old_sound t f x v) (put-app (put_within depth 0) k (tree_at a s) (tree_at a f) (tree_at a x) (tree_at c f') (tree_at c x') (p.value depth l) (q.value depth l) n);
        reduces = rw m.reads app_reduces;
        normal = rw (m.reads, tree-app a g.old_sound t f x v) (λ h. (n, y, rw e h.2));
        neutral = rw m.reads (λ _. inl (n, y, tt));
      }

  -- a function that became a lambda is a normal term, of a type no larger than that of what was put in
  module _ (i b : ℕ) (h : HasView c f' (Lam i b)) where
    put_lam : IsNormal (tree_at c f') × (type_number a f ≤ type_number a s) × (type_size (type_of (tree_at a f)) ≤ type_size (type_of (tree_at a s)))
    put_lam =
        elim (p.neutral app_ready.0) [
          | inl n ↦ absurd (rw (tree-lam c g.new_sound f' i b h) at n)
          | inr n ↦ n
        ]

    pub put_body-normal : IsNormal (tree_at c b)
    put_body-normal = rw (tree-lam c g.new_sound f' i b h) at put_lam.0

    lam_types : (i ≡ type_number c x') × (type_number c b ≡ type_number a t)
    lam_types = arrow-same c (type_number c f') _ _ _ _ (view_sound c g.new_sound f' (Lam i b) h).0.typed app_arrow

    pub put_body-bound : IsBoundAt 0 (type_at c (type_number c x')) (tree_at c b)
    put_body-bound = rw (← lam_types.0) (bound-lam c g.new_sound f' i b h)

    pub put_argument-normal : IsNormal (tree_at c x')
    put_argument-normal = q.normal app_ready.1

    pub put_body-within : (b < length c.terms) × (b < 2 ^ 64)
    put_body-within =
        let u = view_sound c g.new_sound f' (Lam i b) h in
        let l = u.0.body_below in
        let m = u.1 in
        let n = g.new_sound.terms_fit in
        (omega arith, omega arith)

    -- the redex binds a variable of a smaller type
    pub put_type-falls : type_number c x' < type_number a s
    put_type-falls =
        let u = view_sound a g.old_sound t (App f x) v in
        let l = arrow-below a g.old_sound (type_number a f) (type_number a x) (type_number a t) u.0.typed in
        let m = put_lam.1 in
        let n = q.type_is in
        omega arith

    pub put_redex : Reduces (opened k (tree_at a s) (tree_at a t)) (opened 0 (tree_at c x') (tree_at c b))
    put_redex =
        let e = tree-lam c g.new_sound f' i b h in
        let w : type_of (tree_at c x') ≡ type_at c i = type_of-tree c g.new_sound x' q.within ∙ ap (type_at c) (sym lam_types.0) in
        let r : Reduces (opened k (tree_at a s) (tree_at a t)) (app (lam (type_at c i) (tree_at c b)) (tree_at c x')) = rw e at app_reduces in
        andthen _ _ _ r (beta (type_at c i) (tree_at c b) (tree_at c x') (bound-lam c g.new_sound f' i b h) w)

    -- by the size of the types too
    put_sizes : type_size (type_of (tree_at a f)) ≡ suc (type_size (type_of (tree_at c x')) + type_size (type_of (tree_at a t)))
    put_sizes =
        let u = view_sound a g.old_sound t (App f x) v in
        let y = u.0.function_below in
        let z = u.0.argument_below in
        let w = u.1 in
        let e : type_of (tree_at a f) ≡ arrow (type_at a (type_number a x)) (type_at a (type_number a t)) = type_of-tree a g.old_sound f (omega arith) ∙ ty-arrow a g.old_sound _ _ _ u.0.typed.arrow_node in
        let i : type_of (tree_at c x') ≡ type_at a (type_number a x) = type_of-same a c g x x' (omega arith) q.within q.type_is ∙ type_of-tree a g.old_sound x (omega arith) in
        let j : type_of (tree_at a t) ≡ type_at a (type_number a t) = type_of-tree a g.old_sound t (omega arith) in
        rw (e, i, j) refl

    pub IsPut-redex : (d : Contents) (r : ℕ) → IsPut c d b 0 x' r → IsPut a d t k s r
    IsPut-redex d r m =
        let n : IsNormal (tree_at d r) = m.normal put_body-normal in
        let u = view_sound a g.old_sound t (App f x) v in
        let l = arrow-below a g.old_sound (type_number a f) (type_number a x) (type_number a t) u.0.typed in
        let o = put_lam.1 in
        let y = put_lam.2 in
        let z = put_sizes in
        let j = type_size-positive (type_of (tree_at a t)) in
        let e = tree-lam c g.new_sound f' i b h in
        record {
          within = m.within;
          type_is = m.type_is ∙ lam_types.1;
          value = λ depth h. rw (tree-app a g.old_sound t f x v) (put-redex depth k (tree_at a s) (tree_at a f) (tree_at a x) (type_at c i) (tree_at c b) (tree_at c x') (tree_at d r) (omega arith) (sym e ∙ p.value depth h) (q.value depth h) m.value);
          reduces = andthen _ _ _ put_redex m.reduces;
          normal = λ _. n;
          neutral = λ _. inr (n, omega arith, omega arith);
        }

-- under a lambda
pub put_lam-bound : (a b : Contents) → Grows a b → (t i x k s x' : ℕ) → HasView a t (Lam i x) → IsPut a b x (k + 1) s x' → IsBoundAt 0 (type_at a i) (tree_at b x')
put_lam-bound a b g t i x k s x' v p =
    IsBoundAt-reduces _ (tree_at b x') p.reduces 0 (type_at a i) (IsBoundAt-opened (tree_at a x) (tree_at a s) (k + 1) 0 (type_at a i) (omega arith) (bound-lam a g.old_sound t i x v))

pub IsPut-lam : (a b d : Contents) → Grows a b → (t i x k s x' r : ℕ) → HasView a t (Lam i x) → IsPut a b x (k + 1) s x' → IsTerm d r (type_number a t) (lam (type_at a i) (tree_at b x')) → IsPut a d t k s r
IsPut-lam a b d g t i x k s x' r v p m =
    let e = tree-lam a g.old_sound t i x v in
    record {
      within = m.within;
      type_is = m.type_is;
      value = λ depth l. rw (m.reads, e) (ap (lam (type_at a i)) (p.value depth l));
      reduces = rw (m.reads, e) (in_lam (type_at a i) _ _ p.reduces);
      normal = rw (m.reads, e) p.normal;
      neutral = rw e (λ h. absurd h);
    }

pub IsPut-logic : (a c d : Contents) → Grows a c → (t : ℕ) (o : Op) (x y : Option ℕ) (k s : ℕ) (x' y' : Option ℕ) (r : ℕ) → HasView a t (Logic o x y) → IsPutArgument a c x k s x' → IsPutArgument a c y k s y' → IsTerm d r (type_number a t) (logic (connective a o) (argument (tree_at c) x') (argument (tree_at c) y')) → IsPut a d t k s r
IsPut-logic a c d g t o x y k s x' y' r v p q m =
    let e = tree-logic a g.old_sound t o x y v in
    record {
      within = m.within;
      type_is = m.type_is;
      value = λ depth l. rw (m.reads, e) (put-logic (put_within depth 0) k (tree_at a s) (connective a o) (argument (tree_at a) x) (argument (tree_at a) y) (argument (tree_at c) x') (argument (tree_at c) y') (p.value depth l) (q.value depth l));
      reduces = rw (m.reads, e) (in_logic (connective a o) _ _ _ _ p.reduces q.reduces);
      normal = rw (m.reads, e) (λ h. (p.normal h.0, q.normal h.1, h.2));
      neutral = rw (m.reads, e) (λ h. inl (p.normal h.0, q.normal h.1, tt));
    }

-- the typing and the form of the parts
pub ready-app : (a : Contents) → IsSound a → (t f x : ℕ) → HasView a t (App f x) → IsReady (tree_at a t) → IsNeutral (tree_at a f) × IsNormal (tree_at a x)
ready-app a s t f x v h = IsReady-app (tree_at a f) (tree_at a x) (rw (tree-app a s t f x v) at h)

pub ready-lam : (a : Contents) → IsSound a → (t i x : ℕ) → HasView a t (Lam i x) → IsReady (tree_at a t) → IsNormal (tree_at a x)
ready-lam a s t i x v h = IsReady-lam (type_at a i) (tree_at a x) (rw (tree-lam a s t i x v) at h)

pub ready-logic : (a : Contents) → IsSound a → (t : ℕ) (o : Op) (x y : Option ℕ) → HasView a t (Logic o x y) → IsReady (tree_at a t) → IsNormal (argument (tree_at a) x) × IsNormal (argument (tree_at a) y)
ready-logic a s t o x y v h = IsReady-logic (connective a o) (argument (tree_at a) x) (argument (tree_at a) y) (rw (tree-logic a s t o x y v) at h)

pub typed-app : (a : Contents) → IsSound a → (t f x : ℕ) → HasView a t (App f x) → (k : ℕ) (i : SimpleType) → IsBoundAt k i (tree_at a t) → IsBoundAt k i (tree_at a f) × IsBoundAt k i (tree_at a x)
typed-app a s t f x v k i h = rw (tree-app a s t f x v) at h

pub typed-lam : (a : Contents) → IsSound a → (t j x : ℕ) → HasView a t (Lam j x) → (k : ℕ) (i : SimpleType) → IsBoundAt k i (tree_at a t) → IsBoundAt (k + 1) i (tree_at a x)
typed-lam a s t j x v k i h = rw (tree-lam a s t j x v) at h

pub typed-logic : (a : Contents) → IsSound a → (t : ℕ) (o : Op) (x y : Option ℕ) → HasView a t (Logic o x y) → (k : ℕ) (i : SimpleType) → IsBoundAt k i (tree_at a t) → IsBoundAt k i (argument (tree_at a) x) × IsBoundAt k i (argument (tree_at a) y)
typed-logic a s t o x y v k i h = rw (tree-logic a s t o x y v) at h
