-- Literals whose heads differ are sent nowhere.
use Rattle.std.proofs.Common.{ℕ, zero, suc, ◌≡◌, ◌∙◌, ◌+◌, ◌<◌, ◌≤◌, nat_eq, Bool, true, false, not, List, [], ◌∷◌, ◌++◌, length, map, take, slice_index_or, refl, sym, ap, arith, ◌⊎◌, inl, inr}
use Rattle.std.specs.Bool.{OnFalse, OnTrue}
use Rattle.std.specs.List.{list_any}
use Rattle.std.proofs.lemmas.Bool.{or_cases}
use Rattle.std.proofs.lemmas.List.{map-append, take_more, take_all}
use Rattle.leo_terms.specs.Tree.{Tree, variable, bound, symbol, app, lam, logic, absent, substituted}
use Rattle.leo_terms.specs.Contents.{Contents, IsBank, tree_at}
use Rattle.leo_terms.specs.declared.node.View.{View}
use Rattle.leo_terms.specs.declared.node.View.TheVariants.{Var, Bound, Sym, App, Lam, Logic}
use Rattle.leo_terms.proofs.CallerLemmas.{HasView, reads-var, reads-bound, reads-sym, reads-lam, reads-logic, term-shared}
use Rattle.leo_clause.specs.declared.clause.Lit.{Lit}
use Rattle.leo_clause.specs.Trees.{Literal, literal_at}
use Rattle.leo_clause.specs.Renaming.{substituted_literal}
use Rattle.leo_clause.specs.Sameness.{same_literal}
use Rattle.leo_clause.specs.Typed.{AreLiteralsOf}
use Rattle.leo_keep.specs.Heads.{HasHeads, HaveHeads, IsRigid, NeverAmong, NeverBecomes, NeverSame, NeverSend, a_constant, a_symbol, applied_head}
use Rattle.leo_keep.proofs.Among.{same-parts}
use Rattle.leo_keep.proofs.Numbers.{same-number}

-- a term that is no application is its own head
module _ {c : Contents} (b : IsBank c) (t : ℕ) where
  pub head-ends : (v : View) → HasView c t v → ((x y : ℕ) → v ≡ App x y → ⊥) → tree_at c t ≡ applied_head (tree_at c t)
  head-ends (Var n) h other = rw (reads-var b t n h) refl
  head-ends (Bound i) h other = rw (reads-bound b t i h) refl
  head-ends (Sym s) h other = rw (reads-sym b t s h) refl
  head-ends (App f x) h other = absurd (other f x refl)
  head-ends (Lam a x) h other = rw (reads-lam b t a x h) refl
  head-ends (Logic o x y) h other = rw (reads-logic b t o x y h) refl

rigid-stays : (t : Tree) → IsRigid t → (terms : List Tree) (k : ℕ) → applied_head (substituted terms k t) ≡ t
rigid-stays _ (a_symbol n a) terms k = refl
rigid-stays _ (a_constant c) terms k = refl

-- a rigid head stays, whatever is put in
kept-head : (t : Tree) (terms : List Tree) (k : ℕ) → IsRigid (applied_head t) → applied_head (substituted terms k t) ≡ applied_head t
kept-head (app f x) terms k r = kept-head f terms k r
kept-head (variable n a) terms k r = rigid-stays (variable n a) r terms k
kept-head (bound i a) terms k r = rigid-stays (bound i a) r terms k
kept-head (symbol s a) terms k r = rigid-stays (symbol s a) r terms k
kept-head (lam a t) terms k r = rigid-stays (lam a t) r terms k
kept-head (logic c x y) terms k r = rigid-stays (logic c x y) r terms k
kept-head absent terms k r = rigid-stays absent r terms k

never-fits : (p t : Tree) (terms : List Tree) → NeverBecomes (applied_head p) (applied_head t) → substituted terms 0 p ≡ t → ⊥
never-fits p t terms n e = n.1 (sym (kept-head p terms 0 n.0) ∙ ap applied_head e)

never-at : (c : Contents) (h k : ℕ) (p t : Tree) (terms : List Tree) → tree_at c h ≡ applied_head p → tree_at c k ≡ applied_head t → NeverBecomes (tree_at c h) (tree_at c k) → substituted terms 0 p ≡ t → ⊥
never-at c h k p t terms e f n = never-fits p t terms (rw (e, f) at n)

-- heads that differ, of which the first is rigid
pub rigid-differs : {c : Contents} → IsBank c → (m n : ℕ) → m < length c.terms → n < length c.terms → (r q : Bool) → OnTrue r (IsRigid (tree_at c m)) → q ≡ nat_eq m n → q ≡ false → OnFalse (not r) (NeverBecomes (tree_at c m) (tree_at c n))
rigid-differs b m n k l false q rigid e f = tt
rigid-differs b m n k l true q rigid e f =
    (rigid, λ same. (let g : m ≡ n = term-shared b m n k l same in let h : nat_eq m n ≡ true = rw g (same-number n) in let z : ⊥ = cc in z))

pub on-false : {P Q : Type 0} (b : Bool) → (P → Q) → OnFalse b P → OnFalse b Q
on-false true f p = tt
on-false false f p = f p

module _ (c : Contents) where
  pub other-sign : (h k : Lit) → (h.pos ≡ k.pos → ⊥) → NeverSame c h k
  other-sign h k f l m terms p q s = f (p.sign ∙ (same-parts (substituted_literal terms l) m s).polarities ∙ sym q.sign)

  pub neither-way : (h k : Lit) → NeverBecomes (tree_at c h.left) (tree_at c k.left) ⊎ NeverBecomes (tree_at c h.right) (tree_at c k.right) →
      NeverBecomes (tree_at c h.left) (tree_at c k.right) ⊎ NeverBecomes (tree_at c h.right) (tree_at c k.left) → NeverSame c h k
  neither-way h k x y l m terms p q s =
      elim ((same-parts (substituted_literal terms l) m s).sides) [
        | inl e ↦ elim x [
          | inl n ↦ never-at c h.left k.left l.left m.left terms p.left q.left n e.0
          | inr n ↦ never-at c h.right k.right l.right m.right terms p.right q.right n e.1
        ]
        | inr e ↦ elim y [
          | inl n ↦ never-at c h.left k.right l.left m.right terms p.left q.right n e.0
          | inr n ↦ never-at c h.right k.left l.right m.left terms p.right q.left n e.1
        ]
      ]

  pub among-none : (h : Lit) (ks : List Lit) → length ks ≡ 0 → NeverAmong c h ks
  among-none h [] e l [] terms p q s = (let f : ⊥ = cc in f)
  among-none h [] e l (m ∷ ms) terms p q s = q
  among-none h (k ∷ ks) e l ms terms p q s = absurd (let f : ⊥ = omega arith in f)

  pub among-more : (h k : Lit) (ks : List Lit) → NeverSame c h k → NeverAmong c h ks → NeverAmong c h (k ∷ ks)
  among-more h k ks x y l [] terms p q s = q
  among-more h k ks x y l (m ∷ ms) terms p q s =
      elim (or_cases (same_literal (substituted_literal terms l) m) (list_any (same_literal (substituted_literal terms l)) ms) s) [
        | inl e ↦ x l m terms p q.0 e
        | inr e ↦ y l ms terms p q.1 e
      ]

  pub first-never : (l : Literal) (ls : List Literal) (h : Lit) (ks : List Lit) → HasHeads c l h → NeverAmong c h ks → NeverSend c (l ∷ ls) ks
  first-never l ls h ks p x ms terms q s = x l ms terms p q s.0

  pub rest-never : (l : Literal) (ls : List Literal) (ks : List Lit) → NeverSend c ls ks → NeverSend c (l ∷ ls) ks
  rest-never l ls ks x ms terms q s = x ms terms q s.1

  have-more : (ls : List Literal) (hs : List Lit) (l : Literal) (h : Lit) → HaveHeads c ls hs → HasHeads c l h → HaveHeads c (ls ++ l ∷ []) (hs ++ h ∷ [])
  have-more [] [] l h x y = (y, tt)
  have-more [] (k ∷ hs) l h x y = absurd x
  have-more (m ∷ ls) [] l h x y = absurd x
  have-more (m ∷ ls) (k ∷ hs) l h x y = (x.0, have-more ls hs l h x.1 y)

  -- one more of a list that is gone through
  pub have-next : (xs : List Lit) (i : ℕ) (x : Lit) (hs : List Lit) (h : Lit) → HaveHeads c (map (literal_at c) (take i xs)) hs → i < length xs → x ≡ slice_index_or xs i x → HasHeads c (literal_at c x) h → HaveHeads c (map (literal_at c) (take (i + 1) xs)) (hs ++ h ∷ [])
  have-next xs i x hs h p l e q =
      let t : take (i + 1) xs ≡ take i xs ++ x ∷ [] = take_more xs i x l ∙ ap (λ z. take i xs ++ z ∷ []) (sym e) in
      let u : map (literal_at c) (take (i + 1) xs) ≡ map (literal_at c) (take i xs) ++ literal_at c x ∷ [] = ap (map (literal_at c)) t ∙ map-append (literal_at c) (take i xs) (x ∷ []) in
      rw u (have-more (map (literal_at c) (take i xs)) hs (literal_at c x) h p q)

  pub have-all : (xs : List Lit) (i : ℕ) (hs : List Lit) → HaveHeads c (map (literal_at c) (take i xs)) hs → length xs ≤ i → HaveHeads c (map (literal_at c) xs) hs
  have-all xs i hs p l = rw (take_all i xs l) at p

  pub heads-within : (ls : List Literal) (hs : List Lit) → HaveHeads c ls hs → AreLiteralsOf c hs
  heads-within [] [] x = tt
  heads-within [] (h ∷ hs) x = absurd x
  heads-within (l ∷ ls) [] x = absurd x
  heads-within (l ∷ ls) (h ∷ hs) x = (x.0.left_within, x.0.right_within, heads-within ls hs x.1)

  pub lit-at : (ls : List Lit) → AreLiteralsOf c ls → (i : ℕ) (l : Lit) → i < length ls → l ≡ slice_index_or ls i l → (l.left < length c.terms) × (l.right < length c.terms)
  lit-at [] h i l lt e = absurd (omega arith)
  lit-at (k ∷ ls) h zero l lt e = rw e (h.0, h.1)
  lit-at (k ∷ ls) h (suc i) l lt e = lit-at ls h.2 i l (omega arith) e
