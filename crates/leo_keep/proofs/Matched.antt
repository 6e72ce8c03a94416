-- Terms that become others, by what stands at their tops.
use Rattle.std.proofs.Common.{ℕ, nat_eq, ◌≡◌, ◌∙◌, ◌+◌, ◌<◌, ◌≤◌, Bool, true, false, not, List, length, map, slice_get, Option, Some, None, refl, sym, ap, arith}
use Rattle.std.specs.Prelude.{is_none}
use Rattle.std.proofs.lemmas.Bool.Decides.{nat_tests}
use Rattle.leo_q0.specs.Terms.{SimpleType}
use Rattle.leo_terms.specs.Tree.{Tree, variable, app, lam, logic, absent, substituted, Connective}
use Rattle.leo_terms.specs.Facts.{tree_weight, variable_range}
use Rattle.leo_terms.specs.Typing.{IsPresent}
use Rattle.leo_terms.specs.Contents.{Contents, IsBank, argument, type_at, tree_at, IsArgumentBelow}
use Rattle.leo_terms.proofs.CallerLemmas.{term-shared, term-present, type-shared, substituted-closed}
use Rattle.leo_clause.specs.Sameness.{same_connective}
use Rattle.leo_clause.proofs.Same.{same_tree-refl}
use Rattle.leo_keep.specs.declared.matching.Binding.{Binding}
use Rattle.leo_keep.specs.Matching.{AreBindings, BothFit, Fits, IsGivenAt, IsNoApplication, IsNoConstant, IsNoLambda, IsOverSome, Narrows}
use Rattle.leo_keep.proofs.Numbers.{get-within, number-decides}
use Rattle.leo_keep.proofs.Comparing.{equal-connectives}
use Rattle.leo_keep.proofs.Replacements.{depth-same, given-variable, replacement-at, still-present, weight-grows}
use Rattle.leo_keep.proofs.Narrowing.{always, both, decided, first_fails, like, never}

-- the variables of parts
pub over-function : (variables : List SimpleType) (t f x : Tree) → t ≡ app f x → IsOverSome variables t → IsOverSome variables f
over-function variables t f x e h = let k = rw e at h.1 in (h.0, k.0)

pub over-argument : (variables : List SimpleType) (t f x : Tree) → t ≡ app f x → IsOverSome variables t → IsOverSome variables x
over-argument variables t f x e h = let k = rw e at h.1 in (h.0, k.1)

pub over-body : (variables : List SimpleType) (t x : Tree) (a : SimpleType) → t ≡ lam a x → IsOverSome variables t → IsOverSome variables x
over-body variables t x a e h = let k = rw e at h.1 in (h.0 + 1, k)

pub over-first : (variables : List SimpleType) (t x y : Tree) (o : Connective) → t ≡ logic o x y → IsOverSome variables t → IsOverSome variables x
over-first variables t x y o e h = let k = rw e at h.1 in (h.0, k.0)

pub over-second : (variables : List SimpleType) (t x y : Tree) (o : Connective) → t ≡ logic o x y → IsOverSome variables t → IsOverSome variables y
over-second variables t x y o e h = let k = rw e at h.1 in (h.0, k.1)

pub over-variable : (variables : List SimpleType) (t : Tree) (n : ℕ) (a : SimpleType) → t ≡ variable n a → IsOverSome variables t → slice_get variables n ≡ Some a
over-variable variables t n a e h = rw e at h.1

pub variable-within : (c : Contents) (vars : List ℕ) (n : ℕ) (a : SimpleType) → slice_get (map (type_at c) vars) n ≡ Some a → n < length vars
variable-within c vars n a e = within vars n e
  where
    within : (vs : List ℕ) (m : ℕ) → slice_get (map (type_at c) vs) m ≡ Some a → m < length vs
    within vs m e = let h = get-within (map (type_at c) vs) m a e in rw (← length-mapped vs) h
      where
        length-mapped : (vs : List ℕ) → length (map (type_at c) vs) ≡ length vs
        length-mapped vs = Rattle.std.proofs.lemmas.List.length-map vs (type_at c)

module _ (c : Contents) (variables : List SimpleType) where
  -- a variable
  pub variable-fits : {old new : List Binding} (r : Bool) (p s : Tree) (n : ℕ) (a : SimpleType) → p ≡ variable n a → slice_get variables n ≡ Some a → Narrows c variables old new r (IsGivenAt n s) → Narrows c variables old new r (Fits p s)
  variable-fits r p s n a e at h =
      like c variables (IsGivenAt n s) (Fits p s)
      (λ terms k q. ap (substituted terms 0) e ∙ given-variable variables terms k n a 0 s at q)
      (λ terms k q.
      let x = replacement-at variables terms k n a at in
      let f : x.term ≡ s = sym (given-variable variables terms k n a 0 x.term at x.stands) ∙ sym (ap (substituted terms 0) e) ∙ q in
      x.stands ∙ ap Some f)
      h

  -- an application
  pub app-fits : {old middle new : List Binding} (r s : Bool) (p q g b whole t : Tree) → whole ≡ app p q → t ≡ app g b → r ≡ true → Narrows c variables old middle r (Fits p g) → Narrows c variables middle new s (Fits q b) → Narrows c variables old new s (Fits whole t)
  app-fits r s p q g b whole t e f z m n =
      rw (e, f) (both c variables r s (Fits p g) (Fits q b) (Fits (app p q) (app g b)) z m n
      (λ terms h x y. rw (x, y) refl)
      (λ terms h y. (let k : app (substituted terms 0 p) (substituted terms 0 q) ≡ app g b = y in (cc, cc))))

  pub app-first : {old new : List Binding} (r : Bool) (p q g b whole t : Tree) → whole ≡ app p q → t ≡ app g b → r ≡ false → Narrows c variables old new r (Fits p g) → Narrows c variables old new false (Fits whole t)
  app-first r p q g b whole t e f z m =
      rw (e, f) (first_fails c variables r (Fits p g) (Fits (app p q) (app g b)) z
      (λ terms h y. (let k : app (substituted terms 0 p) (substituted terms 0 q) ≡ app g b = y in cc)) m)

  pub app-other : (old : List Binding) (p q whole t : Tree) → AreBindings c variables old → whole ≡ app p q → IsNoApplication t → Narrows c variables old old false (Fits whole t)
  app-other old p q whole t sound e f =
      never c variables old (Fits whole t) sound
      (λ terms h o y. f (substituted terms 0 p) (substituted terms 0 q) (sym y ∙ ap (substituted terms 0) e))

  -- a lambda
  pub lam-fits : {old new : List Binding} (r : Bool) (a d : SimpleType) (p u whole t : Tree) → whole ≡ lam a p → t ≡ lam d u → a ≡ d → IsOverSome variables p → Narrows c variables old new r (Fits p u) → Narrows c variables old new r (Fits whole t)
  lam-fits r a d p u whole t e f g over n =
      rw (e, f, g) (like c variables (Fits p u) (Fits (lam d p) (lam d u))
      (λ terms h y. ap (lam d) (depth-same variables terms h p over.0 1 over.1 ∙ y))
      (λ terms h y. (let k : lam d (substituted terms 1 p) ≡ lam d u = y in let l : substituted terms 1 p ≡ u = cc in sym (depth-same variables terms h p over.0 1 over.1) ∙ l))
      n)

  pub lam-apart : (old : List Binding) (a d : SimpleType) (p u whole t : Tree) → AreBindings c variables old → whole ≡ lam a p → t ≡ lam d u → (a ≡ d → ⊥) → Narrows c variables old old false (Fits whole t)
  lam-apart old a d p u whole t sound e f g =
      never c variables old (Fits whole t) sound
      (λ terms h o y. (let k : lam a (substituted terms 1 p) ≡ lam d u = sym (ap (substituted terms 0) e) ∙ y ∙ f in g cc))

  pub lam-other : (old : List Binding) (a : SimpleType) (p whole t : Tree) → AreBindings c variables old → whole ≡ lam a p → IsNoLambda t → Narrows c variables old old false (Fits whole t)
  lam-other old a p whole t sound e f =
      never c variables old (Fits whole t) sound (λ terms h o y. f a (substituted terms 1 p) (sym y ∙ ap (substituted terms 0) e))

  -- a logical constant
  pub logic-fits : {old middle new : List Binding} (r s x : Bool) (i j : Connective) (p q g b whole t : Tree) → whole ≡ logic i p q → t ≡ logic j g b → x ≡ same_connective i j → x ≡ true → r ≡ true → Narrows c variables old middle r (Fits p g) → Narrows c variables middle new s (Fits q b) → Narrows c variables old new s (Fits whole t)
  logic-fits r s x i j p q g b whole t e f k l z m n =
      let same : i ≡ j = equal-connectives i j (sym k ∙ l) in
      rw (e, f, same) (both c variables r s (Fits p g) (Fits q b) (Fits (logic j p q) (logic j g b)) z m n
      (λ terms h v y. rw (v, y) refl)
      (λ terms h y. (let v : logic j (substituted terms 0 p) (substituted terms 0 q) ≡ logic j g b = y in (cc, cc))))

  pub logic-first : {old new : List Binding} (r x : Bool) (i j : Connective) (p q g b whole t : Tree) → whole ≡ logic i p q → t ≡ logic j g b → r ≡ false → Narrows c variables old new r (Fits p g) → Narrows c variables old new false (Fits whole t)
  logic-first r x i j p q g b whole t e f z m =
      rw (e, f) (first_fails c variables r (Fits p g) (Fits (logic i p q) (logic j g b)) z
      (λ terms h y. (let k : logic i (substituted terms 0 p) (substituted terms 0 q) ≡ logic j g b = y in cc)) m)

  pub logic-apart : (old : List Binding) (x : Bool) (i j : Connective) (p q g b whole t : Tree) → AreBindings c variables old → whole ≡ logic i p q → t ≡ logic j g b → x ≡ same_connective i j → x ≡ false → Narrows c variables old old false (Fits whole t)
  logic-apart old x i j p q g b whole t sound e f k l =
      never c variables old (Fits whole t) sound
      (λ terms h o y.
      let v : logic i (substituted terms 0 p) (substituted terms 0 q) ≡ logic j g b = sym (ap (substituted terms 0) e) ∙ y ∙ f in
      let w : i ≡ j = cc in
      itself j (rw w at (sym k ∙ l)))
    where
      itself : (j : Connective) → same_connective j j ≡ false → ⊥
      itself j e = (let f = same_tree-refl (logic j absent absent) in let g : Rattle.leo_clause.specs.Sameness.same_tree (logic j absent absent) (logic j absent absent) ≡ false = rw e refl in cc)

  pub logic-other : (old : List Binding) (i : Connective) (p q whole t : Tree) → AreBindings c variables old → whole ≡ logic i p q → IsNoConstant t → Narrows c variables old old false (Fits whole t)
  logic-other old i p q whole t sound e f =
      never c variables old (Fits whole t) sound
      (λ terms h o y. f i (substituted terms 0 p) (substituted terms 0 q) (sym y ∙ ap (substituted terms 0) e))

  -- arguments that may be missing
  pub nothing-fits : (b : IsBank c) (old : List Binding) (y : Option ℕ) → AreBindings c variables old → IsArgumentBelow (length c.terms) y → Narrows c variables old old (is_none y) (Fits absent (argument (tree_at c) y))
  nothing-fits b old None sound l = always c variables old (Fits absent absent) sound (λ terms h o. refl)
  nothing-fits b old (Some t) sound l =
      never c variables old (Fits absent (tree_at c t)) sound (λ terms h o q. missing (tree_at c t) q (term-present b t l))
    where
      missing : (s : Tree) → absent ≡ s → IsPresent s → ⊥
      missing s e h = rw (← e) at h

  pub never-nothing : (old : List Binding) (p : Tree) → AreBindings c variables old → IsOverSome variables p → IsPresent p → Narrows c variables old old false (Fits p absent)
  never-nothing old p sound over present =
      never c variables old (Fits p absent) sound (λ terms h o q. rw q at (still-present variables terms h p over.0 over.1 present))

  -- two sides
  pub too-heavy : (old : List Binding) (p s : Tree) (Asked : List Tree → Type 0) → AreBindings c variables old → IsOverSome variables p → tree_weight s < tree_weight p → ((terms : List Tree) → Asked terms → Fits p s terms) → Narrows c variables old old false Asked
  too-heavy old p s Asked sound over l f =
      never c variables old Asked sound (λ terms h o q.
      heavy (tree_weight p) (tree_weight (substituted terms 0 p)) (tree_weight s) (weight-grows variables terms h p over.0 0 over.1) (ap tree_weight (f terms q)) l)
    where
      heavy : (m n k : ℕ) → m ≤ n → n ≡ k → k < m → ⊥
      heavy m n k l e h = omega arith

  pub both-fit : {old middle new : List Binding} (r x : Bool) (p s q t : Tree) → r ≡ true → Narrows c variables old middle r (Fits p s) → Narrows c variables middle new x (Fits q t) → Narrows c variables old new x (BothFit p s q t)
  both-fit r x p s q t z m n = both c variables r x (Fits p s) (Fits q t) (BothFit p s q t) z m n (λ terms h y v. (y, v)) (λ terms h y. y)

  pub first-fits_not : {old new : List Binding} (r : Bool) (p s q t : Tree) → r ≡ false → Narrows c variables old new r (Fits p s) → Narrows c variables old new false (BothFit p s q t)
  first-fits_not r p s q t z m = first_fails c variables r (Fits p s) (BothFit p s q t) z (λ terms h y. y.0) m

-- terms without variables
pub ground-fits : (c : Contents) (b : IsBank c) (variables : List SimpleType) (old : List Binding) (m n : ℕ) → AreBindings c variables old → m < length c.terms → n < length c.terms → variable_range (tree_at c m) ≡ 0 → (r : Bool) → r ≡ nat_eq m n → Narrows c variables old old r (Fits (tree_at c m) (tree_at c n))
ground-fits c b variables old m n sound k l g r e =
    decided c variables old r (m ≡ n) (Fits (tree_at c m) (tree_at c n)) sound (rw e (number-decides m n))
    (λ terms h o f. substituted-closed (tree_at c m) terms 0 g ∙ ap (tree_at c) f)
    (λ terms h o q. term-shared b m n k l (sym (substituted-closed (tree_at c m) terms 0 g) ∙ q))

-- types of a bank that differ
pub types-apart : (c : Contents) (b : IsBank c) (i j : ℕ) → i < length c.types → j < length c.types → (r : Bool) → r ≡ not (nat_eq i j) → r ≡ true → type_at c i ≡ type_at c j → ⊥
types-apart c b i j k l r e f g = unlike i j (sym e ∙ f) (type-shared b i j k l g)
  where
    unlike : (m n : ℕ) → not (nat_eq m n) ≡ true → m ≡ n → ⊥
    unlike m n e g = grind (arith, nat_tests)

pub types-same : (c : Contents) (i j : ℕ) (r : Bool) → r ≡ not (nat_eq i j) → r ≡ false → type_at c i ≡ type_at c j
types-same c i j r e f = ap (type_at c) (alike i j (sym e ∙ f))
  where
    alike : (m n : ℕ) → not (nat_eq m n) ≡ false → m ≡ n
    alike m n e = grind (arith, nat_tests)
