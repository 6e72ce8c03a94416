-- Literals that are among others, as they are or turned.
use Rattle.std.proofs.Common.{ℕ, zero, suc, ◌≡◌, ◌∙◌, ◌≤◌, Bool, true, false, not, ◌&&◌, List, [], ◌∷◌, ◌++◌, length, map, take, slice_get, Some, refl, ap, arith, ◌⊎◌, inl, inr}
use Rattle.std.specs.Bool.{beq, Decides}
use Rattle.std.specs.List.{list_any}
use Rattle.std.proofs.lemmas.Bool.{and_parts, and_from, or_cases, or_left, or_right}
use Rattle.leo_q0.specs.Terms.{SimpleType}
use Rattle.leo_terms.specs.Tree.{Tree}
use Rattle.leo_terms.specs.Contents.{Contents}
use Rattle.leo_clause.specs.declared.clause.Lit.{Lit}
use Rattle.leo_clause.specs.Trees.{Literal, literal_at}
use Rattle.leo_clause.specs.Renaming.{substituted_literal}
use Rattle.leo_clause.specs.Sameness.{same_literal, same_tree}
use Rattle.leo_clause.proofs.Same.{same_tree-refl, equal-trees}
use Rattle.leo_keep.specs.declared.matching.Binding.{Binding}
use Rattle.leo_keep.specs.Matching.{AreBindings, BothFit, IsAmong, IsSame, Narrows, SendsAmong, SendsFirst}
use Rattle.leo_keep.proofs.Numbers.{none-all, NoneBelow, refuted}
use Rattle.leo_keep.proofs.Bindings.{completed, completed-obey, completed-replacements, obey-front}

-- polarities
same-polarity : (p q : Bool) → p ≡ q → beq p q ≡ true
same-polarity true q e = rw (← e) refl
same-polarity false q e = rw (← e) refl

equal-polarities : (p q : Bool) → beq p q ≡ true → p ≡ q
equal-polarities true true h = refl
equal-polarities true false h = cc
equal-polarities false true h = cc
equal-polarities false false h = refl

pub polarities-same : (p q : Bool) → not (beq p q) ≡ false → p ≡ q
polarities-same true true h = refl
polarities-same true false h = cc
polarities-same false true h = cc
polarities-same false false h = refl

same-tree : (s t : Tree) → s ≡ t → same_tree s t ≡ true
same-tree s t e = rw e (same_tree-refl t)

-- when two literals are the same
pub same-straight : (l k : Literal) → l.positive ≡ k.positive → l.left ≡ k.left → l.right ≡ k.right → same_literal l k ≡ true
same-straight l k e f g =
    and_from (beq l.positive k.positive) _ (same-polarity l.positive k.positive e)
    (or_left (same_tree l.left k.left && same_tree l.right k.right) _ (and_from (same_tree l.left k.left) _ (same-tree l.left k.left f) (same-tree l.right k.right g)))

pub same-turned : (l k : Literal) → l.positive ≡ k.positive → l.left ≡ k.right → l.right ≡ k.left → same_literal l k ≡ true
same-turned l k e f g =
    and_from (beq l.positive k.positive) _ (same-polarity l.positive k.positive e)
    (or_right (same_tree l.left k.left && same_tree l.right k.right) _ (and_from (same_tree l.left k.right) _ (same-tree l.left k.right f) (same-tree l.right k.left g)))

pub record AreSame (l k : Literal) : Type 0 where
  pub polarities : l.positive ≡ k.positive
  pub sides : ((l.left ≡ k.left) × (l.right ≡ k.right)) ⊎ ((l.left ≡ k.right) × (l.right ≡ k.left))

pub same-parts : (l k : Literal) → same_literal l k ≡ true → AreSame l k
same-parts l k h =
    let p = and_parts (beq l.positive k.positive) _ h in
    record {
      polarities = equal-polarities l.positive k.positive p.0;
      sides = elim (or_cases (same_tree l.left k.left && same_tree l.right k.right) _ p.1) [
        | inl q ↦ (let r = and_parts (same_tree l.left k.left) _ q in inl (equal-trees l.left k.left r.0, equal-trees l.right k.right r.1))
        | inr q ↦ (let r = and_parts (same_tree l.left k.right) _ q in inr (equal-trees l.left k.right r.0, equal-trees l.right k.left r.1))
      ];
    }

-- one of a list passes a test
record Passes {X Y : Type 0} (f : X → Y) (test : Y → Bool) (xs : List X) : Type 0 where
  pub place : ℕ
  pub item : X
  pub stands : slice_get xs place ≡ Some item
  pub passes : test (f item) ≡ true

passes-later : {X Y : Type 0} (f : X → Y) (test : Y → Bool) (x : X) (xs : List X) → Passes f test xs → Passes f test (x ∷ xs)
passes-later f test x xs p = record { place = suc p.place; item = p.item; stands = p.stands; passes = p.passes }

any-passes : {X Y : Type 0} (f : X → Y) (test : Y → Bool) (xs : List X) → list_any test (map f xs) ≡ true → Passes f test xs
any-passes f test [] h = absurd (let g : ⊥ = cc in g)
any-passes f test (x ∷ xs) h =
    elim (or_cases (test (f x)) (list_any test (map f xs)) h) [
      | inl e ↦ record { place = zero; item = x; stands = refl; passes = e }
      | inr e ↦ passes-later f test x xs (any-passes f test xs e)
    ]

passes-any : {X Y : Type 0} (f : X → Y) (test : Y → Bool) (xs : List X) (i : ℕ) (x : X) → slice_get xs i ≡ Some x → test (f x) ≡ true → list_any test (map f xs) ≡ true
passes-any f test [] i x e h = absurd (let g : ⊥ = cc in g)
passes-any f test (y ∷ xs) zero x e h = let g : y ≡ x = cc in or_left (test (f y)) _ (rw g h)
passes-any f test (y ∷ xs) (suc i) x e h = or_right (test (f y)) _ (passes-any f test xs i x e h)

module _ (c : Contents) (variables : List SimpleType) where
  -- no literals
  pub sends-none : (bindings : List Binding) (ls : List Lit) (others : List Literal) → AreBindings c variables bindings → length ls ≡ 0 → SendsAmong c variables bindings (map (literal_at c) ls) others
  sends-none bindings [] others h e = record {
    terms = completed c bindings 0 variables;
    replacements = completed-replacements c variables bindings h;
    obeyed = completed-obey c variables bindings h;
    among = tt;
  }
  sends-none bindings (l ∷ ls) others h e = absurd (let f : ⊥ = omega arith in f)

  -- a first literal
  pub sends-more : (bindings : List Binding) (l : Literal) (ls others : List Literal) (r : Bool) → Decides r (SendsFirst c variables bindings (IsAmong l others) ls others) → Decides r (SendsAmong c variables bindings (l ∷ ls) others)
  sends-more bindings l ls others r d = (
    λ e. (let h = d.0 e in record { terms = h.terms; replacements = h.replacements; obeyed = h.obeyed; among = (h.first, h.among) }),
    λ h. d.1 (record { terms = h.terms; replacements = h.replacements; obeyed = h.obeyed; first = h.among.0; among = h.among.1 }),
  )

  asked-like : (bindings : List Binding) (P Q : List Tree → Type 0) (ls others : List Literal) → ((terms : List Tree) → P terms → Q terms) → SendsFirst c variables bindings P ls others → SendsFirst c variables bindings Q ls others
  asked-like bindings P Q ls others f h = record { terms = h.terms; replacements = h.replacements; obeyed = h.obeyed; first = f h.terms h.first; among = h.among }

  -- the literals that the first one may become
  pub sends-at : (bindings : List Binding) (l : Literal) (ls : List Literal) (ks : List Lit) (others : List Literal) (i : ℕ) (k : Lit) → slice_get ks i ≡ Some k → SendsFirst c variables bindings (IsSame l (literal_at c k)) ls others → SendsFirst c variables bindings (IsAmong l (map (literal_at c) ks)) ls others
  sends-at bindings l ls ks others i k e h =
      asked-like bindings (IsSame l (literal_at c k)) (IsAmong l (map (literal_at c) ks)) ls others
      (λ terms s. passes-any (literal_at c) (same_literal (substituted_literal terms l)) ks i k e s) h

  pub sends-nowhere : (bindings : List Binding) (l : Literal) (ls : List Literal) (ks : List Lit) (others : List Literal) (n : ℕ) → NoneBelow (λ (k : Lit). SendsFirst c variables bindings (IsSame l (literal_at c k)) ls others) ks n → length ks ≤ n → SendsFirst c variables bindings (IsAmong l (map (literal_at c) ks)) ls others → ⊥
  sends-nowhere bindings l ls ks others n h m s =
      let p = any-passes (literal_at c) (same_literal (substituted_literal s.terms l)) ks s.first in
      none-all (λ (k : Lit). SendsFirst c variables bindings (IsSame l (literal_at c k)) ls others) ks n h m p.place p.item p.stands
      (record { terms = s.terms; replacements = s.replacements; obeyed = s.obeyed; first = p.passes; among = s.among })

  -- the first literal becomes another
  pub other-polarity : (bindings : List Binding) (l k : Literal) (ls others : List Literal) → (l.positive ≡ k.positive → ⊥) → SendsFirst c variables bindings (IsSame l k) ls others → ⊥
  other-polarity bindings l k ls others f s = f (same-parts (substituted_literal s.terms l) k s.first).polarities

  pub sends-straight : (bindings : List Binding) (l k : Literal) (ls others : List Literal) → l.positive ≡ k.positive → SendsFirst c variables bindings (BothFit l.left k.left l.right k.right) ls others → SendsFirst c variables bindings (IsSame l k) ls others
  sends-straight bindings l k ls others e h =
      asked-like bindings (BothFit l.left k.left l.right k.right) (IsSame l k) ls others
      (λ terms s. same-straight (substituted_literal terms l) k e s.0 s.1) h

  pub sends-turned : (bindings : List Binding) (l k : Literal) (ls others : List Literal) (r x : Bool) → l.positive ≡ k.positive → Decides x (SendsFirst c variables bindings (BothFit l.left k.left l.right k.right) ls others) → x ≡ false → Decides r (SendsFirst c variables bindings (BothFit l.left k.right l.right k.left) ls others) → Decides r (SendsFirst c variables bindings (IsSame l k) ls others)
  sends-turned bindings l k ls others r x e first failed d = (
    λ t. asked-like bindings (BothFit l.left k.right l.right k.left) (IsSame l k) ls others
        (λ terms s. same-turned (substituted_literal terms l) k e s.0 s.1) (d.0 t),
    λ s. elim ((same-parts (substituted_literal s.terms l) k s.first).sides) [
      | inl p ↦ absurd (refuted x first failed (record { terms = s.terms; replacements = s.replacements; obeyed = s.obeyed; first = p; among = s.among }))
      | inr p ↦ d.1 (record { terms = s.terms; replacements = s.replacements; obeyed = s.obeyed; first = p; among = s.among })
    ],
  )

  -- what is asked of the first literal becomes bindings
  pub sends-narrowed : (old new : List Binding) (x : Bool) (Asked : List Tree → Type 0) (ls others : List Literal) → Narrows c variables old new x Asked → x ≡ true → (r : Bool) → Decides r (SendsAmong c variables new ls others) → Decides r (SendsFirst c variables old Asked ls others)
  sends-narrowed old new x Asked ls others n e r d = (
    λ t. (let h = d.0 t in record { terms = h.terms; replacements = h.replacements; obeyed = obey-front c old n.more h.terms (rw n.extends at h.obeyed); first = n.gained e h.terms h.replacements h.obeyed; among = h.among }),
    λ h. d.1 (record { terms = h.terms; replacements = h.replacements; obeyed = n.kept e h.terms h.replacements h.obeyed h.first; among = h.among }),
  )

  pub sends-refused : (old new : List Binding) (x : Bool) (Asked : List Tree → Type 0) (ls others : List Literal) → Narrows c variables old new x Asked → x ≡ false → SendsFirst c variables old Asked ls others → ⊥
  sends-refused old new x Asked ls others n e h = n.refused e h.terms h.replacements h.obeyed h.first

  pub restored : (old new : List Binding) (x : Bool) (Asked : List Tree → Type 0) → Narrows c variables old new x Asked → take (length old) new ≡ old
  restored old new x Asked n = ap (take (length old)) n.extends ∙ front old n.more
    where
      front : (xs ys : List Binding) → take (length xs) (xs ++ ys) ≡ xs
      front [] ys = refl
      front (x ∷ xs) ys = ap (λ (zs : List Binding). x ∷ zs) (front xs ys)
