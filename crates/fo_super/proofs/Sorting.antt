-- Sorts of variables in two lists, by nodes and by terms; clauses that are the same.
use Rattle.std.proofs.Common.{ℕ, zero, suc, ◌≡◌, ◌∙◌, ◌+◌, ◌<◌, ◌≤◌, Bool, List, [], ◌∷◌, ◌++◌, length, slice_get, Some, refl, sym, ap, subst, arith, inl, inr}
use Rattle.std.specs.Bool.{Decides}
use Rattle.std.specs.List.{AllByRecursion}
use Rattle.std.proofs.lemmas.Bool.{cases_eq}
use Rattle.fo_terms.specs.Terms.{Term, Terms, variable, symbol, none, more}
use Rattle.fo_terms.specs.Prefix.{prefix, prefix_of_all}
use Rattle.fo_text.specs.declared.problem.FoLit.{FoLit}
use Rattle.fo_text.specs.declared.problem.FoClause.{FoClause}
use Rattle.fo_super.specs.Matching.{HasNodeSameSorts}
use Rattle.fo_super.specs.Outcomes.{HasSameSorts, HaveSameSorts, HasLiteralSameSorts, IsIdentical}
use Rattle.fo_super.proofs.Answering.{same-item, get-within}

-- a fact about each item
pub all-both : {X : Type 0} (P : X → Type 0) (xs ys : List X) → AllByRecursion P xs → AllByRecursion P ys → AllByRecursion P (xs ++ ys)
all-both P [] ys h k = k
all-both P (x ∷ xs) ys h k = (h.0, all-both P xs ys h.1 k)

all-front : {X : Type 0} (P : X → Type 0) (xs ys : List X) → AllByRecursion P (xs ++ ys) → AllByRecursion P xs
all-front P [] ys h = tt
all-front P (x ∷ xs) ys h = (h.0, all-front P xs ys h.1)

all-back : {X : Type 0} (P : X → Type 0) (xs ys : List X) → AllByRecursion P (xs ++ ys) → AllByRecursion P ys
all-back P [] ys h = h
all-back P (x ∷ xs) ys h = all-back P xs ys h.1

pub all-at : {X : Type 0} (P : X → Type 0) (xs : List X) → AllByRecursion P xs → (i : ℕ) (x : X) → slice_get xs i ≡ Some x → P x
all-at P [] h i x e = absurd (let f : ⊥ = cc in f)
all-at P (y ∷ xs) h zero x e = let f : y ≡ x = cc in subst P f h.0
all-at P (y ∷ xs) h (suc i) x e = all-at P xs h.1 i x e

-- each item before a place has the property
abbrev pub EachBelow : {X : Type 0} → (X → Type 0) → List X → ℕ → Type 0
EachBelow {X} P xs n = (i : ℕ) (x : X) → i < n → slice_get xs i ≡ Some x → P x

pub each-next : {X : Type 0} (P : X → Type 0) (xs : List X) (n : ℕ) (x : X) → EachBelow P xs n → slice_get xs n ≡ Some x → P x → EachBelow P xs (n + 1)
each-next P xs n x h e f i y l g =
    elim (cases_eq i n) [
      | inl k ↦ (let j : slice_get xs n ≡ Some y = rw k at g in let z : x ≡ y = same-item (slice_get xs n) x y e j in subst P z f)
      | inr k ↦ h i y (omega arith) g
    ]

pub each-all : {X : Type 0} (P : X → Type 0) (xs : List X) (n : ℕ) → EachBelow P xs n → length xs ≤ n → AllByRecursion P xs
each-all P xs n h l = go xs (λ i x e. h i x (let k = get-within xs i x e in omega arith) e)
  where
    go : {X : Type 0} {Q : X → Type 0} (ys : List X) → ((i : ℕ) (x : X) → slice_get ys i ≡ Some x → Q x) → AllByRecursion Q ys
    go [] k = tt
    go (y ∷ ys) k = (k zero y refl, go ys (λ i x e. k (suc i) x e))

-- by nodes and by terms
module _ (vars wars : List ℕ) where
  mutual
    by-nodes : (t : Term) → AllByRecursion (HasNodeSameSorts vars wars) (prefix t) → HasSameSorts vars wars t
    by-nodes (variable v) h = h.0
    by-nodes (symbol f ts) h = all-by-nodes ts h.1

    all-by-nodes : (ts : Terms) → AllByRecursion (HasNodeSameSorts vars wars) (prefix_of_all ts) → HaveSameSorts vars wars ts
    all-by-nodes none h = tt
    all-by-nodes (more t ts) h = (by-nodes t (all-front (HasNodeSameSorts vars wars) (prefix t) (prefix_of_all ts) h), all-by-nodes ts (all-back (HasNodeSameSorts vars wars) (prefix t) (prefix_of_all ts) h))

  mutual
    to-nodes : (t : Term) → HasSameSorts vars wars t → AllByRecursion (HasNodeSameSorts vars wars) (prefix t)
    to-nodes (variable v) h = (h, tt)
    to-nodes (symbol f ts) h = (tt, all-to-nodes ts h)

    all-to-nodes : (ts : Terms) → HaveSameSorts vars wars ts → AllByRecursion (HasNodeSameSorts vars wars) (prefix_of_all ts)
    all-to-nodes none h = tt
    all-to-nodes (more t ts) h = all-both (HasNodeSameSorts vars wars) (prefix t) (prefix_of_all ts) (to-nodes t h.0) (all-to-nodes ts h.1)

  pub nodes-decide-sorts : (t : Term) (r : Bool) → Decides r (AllByRecursion (HasNodeSameSorts vars wars) (prefix t)) → Decides r (HasSameSorts vars wars t)
  nodes-decide-sorts t r d = (λ e. by-nodes t (d.0 e), λ h. d.1 (to-nodes t h))

-- literals at one place
abbrev pub AlikeBelow : List ℕ → List ℕ → List FoLit → List FoLit → ℕ → Type 0
AlikeBelow vars wars ls ks n = (i : ℕ) (l k : FoLit) → i < n → slice_get ls i ≡ Some l → slice_get ks i ≡ Some k → (l ≡ k) × HasLiteralSameSorts vars wars l

pub alike-next : (vars wars : List ℕ) (ls ks : List FoLit) (n : ℕ) (l k : FoLit) → AlikeBelow vars wars ls ks n → slice_get ls n ≡ Some l → slice_get ks n ≡ Some k → (l ≡ k) × HasLiteralSameSorts vars wars l → AlikeBelow vars wars ls ks (n + 1)
alike-next vars wars ls ks n l k h e f g i x y b p q =
    elim (cases_eq i n) [
      | inl z ↦ at z
      | inr z ↦ h i x y (omega arith) p q
    ]
  where
    at : i ≡ n → (x ≡ y) × HasLiteralSameSorts vars wars x
    at z =
        let j : slice_get ls n ≡ Some x = rw z at p in
        let m : slice_get ks n ≡ Some y = rw z at q in
        let u : l ≡ x = same-item (slice_get ls n) l x e j in
        let v : k ≡ y = same-item (slice_get ks n) k y f m in
        (sym u ∙ g.0 ∙ v, subst (λ (w : FoLit). HasLiteralSameSorts vars wars w) u g.1)

pub identical-all : (c d : FoClause) (n : ℕ) → length c.lits ≡ length d.lits → AlikeBelow c.vars d.vars c.lits d.lits n → length c.lits ≤ n → IsIdentical c d
identical-all c d n e h l =
    let r = go c.lits d.lits e (λ i x y p q. h i x y (let k = get-within c.lits i x p in omega arith) p q) in
    record { literals = r.0; sorts = r.1 }
  where
    go : (ls ks : List FoLit) → length ls ≡ length ks → ((i : ℕ) (x y : FoLit) → slice_get ls i ≡ Some x → slice_get ks i ≡ Some y → (x ≡ y) × HasLiteralSameSorts c.vars d.vars x) → (ls ≡ ks) × AllByRecursion (HasLiteralSameSorts c.vars d.vars) ls
    go [] [] e f = (refl, tt)
    go [] (k ∷ ks) e f = absurd (let g : ⊥ = omega arith in g)
    go (l ∷ ls) [] e f = absurd (let g : ⊥ = omega arith in g)
    go (l ∷ ls) (k ∷ ks) e f =
        let g = f zero l k refl refl in
        let r = go ls ks (omega arith) (λ i x y p q. f (suc i) x y p q) in
        (ap (λ (z : FoLit). z ∷ ls) g.0 ∙ ap (λ (zs : List FoLit). k ∷ zs) r.0, (g.1, r.1))

pub not-identical : (c d : FoClause) (i : ℕ) (l k : FoLit) → slice_get c.lits i ≡ Some l → slice_get d.lits i ≡ Some k → ((l ≡ k) × HasLiteralSameSorts c.vars d.vars l → ⊥) → IsIdentical c d → ⊥
not-identical c d i l k e f g h =
    let j : slice_get c.lits i ≡ Some k = ap (λ (zs : List FoLit). slice_get zs i) h.literals ∙ f in
    g (same-item (slice_get c.lits i) l k e j, all-at (HasLiteralSameSorts c.vars d.vars) c.lits h.sorts i l e)
