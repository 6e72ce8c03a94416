-- The steps of the calls that make the bodies of functions.
use Rattle.std.proofs.Common.{ℕ, zero, suc, ◌≡◌, ◌∙◌, ◌+◌, ◌-◌, ◌<◌, ◌≤◌, List, [], ◌∷◌, ◌++◌, length, map, take, drop, slice_get, slice_index_or, Some, Result, Ok, Err, refl, sym, ap, append_assoc, arith}
use Rattle.std.specs.Prelude.{IfOk}
use Rattle.std.proofs.lemmas.List.{map-append, length-append}
use Rattle.leo_q0.specs.Terms.{SimpleType, arrow}
use Rattle.leo_terms.specs.declared.node.TyView.{TyView}
use Rattle.leo_terms.specs.declared.node.TyView.TheVariants.{Base, Arrow}
use Rattle.leo_terms.specs.declared.node.Op.{Op}
use Rattle.leo_terms.specs.declared.node.Op.TheVariants as op
use Rattle.leo_terms.specs.Tree.{codomain, truth_type, Tree, variable, bound, app, lam, logic, Connective, truth, falsity, negation, disjunction, conjunction, implication, equality, universal, existential, choice, connective_type, type_of, IsBoundAt}
use Rattle.leo_terms.specs.Contents.{Contents, IsBank, Extends, IsTerm, IsApplicable, IsArrow, Takes, HasTypeBelow, AreTerms, IsOfType, IsProperty, argument, argument_type, connective, operator_type, tree_at, type_at, type_number}
use Rattle.leo_terms.proofs.CallerLemmas.{new_bank, extends-trans, type-kept, trees-kept, are_terms-kept, type_number-within, type_of-term, type-shared, reads-base, reads-arrow, arrow-parts, sound}
use Rattle.leo_terms.proofs.Growth.{slice_get-some}
use Rattle.leo_terms.proofs.Making.{codomain_number-node}
use Rattle.leo_clause.specs.Typed.{AreTypesOf}
use Rattle.leo_unify.specs.Acts.{domains, result_type, function_type, function_of, constant_domains, applied_to, constant_with, binders, fresh_values}
use Rattle.leo_unify.specs.Heads.{own_arguments, AreIndexed, IsFrameOf}
use Rattle.leo_unify.specs.declared.binding.Frame.{Frame}
use Rattle.leo_unify.proofs.Places.{get-at, get-mapped, drop-at, take-at, length-map, length-behind, take-rest}
use Rattle.leo_unify.proofs.Growing.{types-kept, types-grow}
use Rattle.leo_unify.proofs.GuessLemmas.{function-of_type, types-binders, bound-inside}

-- ---- types of a bank

pub type-at : (c : Contents) (types : List ℕ) → AreTypesOf c types → (i a : ℕ) → slice_get types i ≡ Some a → a < length c.types
type-at c [] h i a e = absurd (cc)
type-at c (b ∷ types) h zero a e = let f : b ≡ a = cc in rw (← f) h.0
type-at c (b ∷ types) h (suc i) a e = type-at c types h.1 i a e

pub is-arrow : (c : Contents) (i a b : ℕ) → slice_get c.types i ≡ Some (Arrow a b) → IsArrow c i a b
is-arrow c i a b e = record { arrow_node = e }

-- a type that reads as a type of functions is one
pub arrow-read : (c : Contents) → IsBank c → (i a b : ℕ) → i < length c.types → a < length c.types → b < length c.types → type_at c i ≡ arrow (type_at c a) (type_at c b) → IsArrow c i a b
arrow-read c s i a b li la lb e = (let w = slice_get-some c.types i li in by w.0 w.1)
  where
    by : (v : TyView) → slice_get c.types i ≡ Some v → IsArrow c i a b
    by (Base k) h = absurd (let g = sym (reads-base s i k h) ∙ e in cc)
    by (Arrow p q) h =
        let pq : IsArrow c i p q = record { arrow_node = h } in
        let g : arrow (type_at c p) (type_at c q) ≡ arrow (type_at c a) (type_at c b) = sym (reads-arrow s pq) ∙ e in
        let parts = arrow-parts s pq in
        let x = parts.0 in
        let y = parts.1 in
        let z = parts.2 in
        let m : type_at c p ≡ type_at c a = cc in
        let n : type_at c q ≡ type_at c b = cc in
        let u : p ≡ a = type-shared s p a (omega arith) la m in
        let v : q ≡ b = type-shared s q b (omega arith) lb n in
        rw (← u, ← v) pq

-- a function may be applied to a term of the type that it takes
pub applies : (c : Contents) → IsBank c → (f x : ℕ) → f < length c.terms → x < length c.terms → (b : SimpleType) → type_of (tree_at c f) ≡ arrow (type_of (tree_at c x)) b → IsApplicable c f x
applies c s f x l m b e =
    let w = slice_get-some c.types (type_number c f) (type_number-within s f l) in
    by w.0 w.1
  where
    by : (v : TyView) → slice_get c.types (type_number c f) ≡ Some v → IsApplicable c f x
    by (Base k) h = absurd (let g = sym (reads-base s (type_number c f) k h) ∙ sym (type_of-term s f l) ∙ e in cc)
    by (Arrow p q) h =
        let p-arrow : IsArrow c (type_number c f) p q = record { arrow_node = h } in
        let g : arrow (type_at c p) (type_at c q) ≡ arrow (type_of (tree_at c x)) b = sym (reads-arrow s p-arrow) ∙ sym (type_of-term s f l) ∙ e in
        let t : type_at c p ≡ type_at c (type_number c x) = (let r : type_at c p ≡ type_of (tree_at c x) = cc in r ∙ type_of-term s x m) in
        let parts = arrow-parts s p-arrow in
        let i = parts.0 in
        let j = parts.1 in
        let same : p ≡ type_number c x = type-shared s p (type_number c x) (omega arith) (type_number-within s x m) t in
        record { arrow_node = rw (codomain_number-node c (type_number c f) p q h, ← same) h }

pub type-within : {b c : Contents} → Extends b c → (types : List ℕ) → AreTypesOf b types → (p a : ℕ) → p < length types → a ≡ slice_index_or types p a → a < length c.types
type-within {b} {c} e types h p a l at = (let k = type-at b types h p a (get-at types p a l at) in let m = e.types_more in omega arith)

-- ---- lists of terms

pub no-terms : (c : Contents) → AreTerms c []
no-terms c i t e = absurd (cc)

pub terms-end : (c : Contents) (ts : List ℕ) (t : ℕ) → AreTerms c ts → t < length c.terms → AreTerms c (ts ++ t ∷ [])
terms-end c ts t h l i u e = go ts (λ j v f. h j v f) i e
  where
    go : (xs : List ℕ) → ((j v : ℕ) → slice_get xs j ≡ Some v → v < length c.terms) → (i : ℕ) → slice_get (xs ++ t ∷ []) i ≡ Some u → u < length c.terms
    go [] k zero e = let f : t ≡ u = cc in rw (← f) l
    go [] k (suc i) e = absurd (cc)
    go (x ∷ xs) k zero e = k zero u e
    go (x ∷ xs) k (suc i) e = go xs (λ j v f. k (suc j) v f) i e

pub front-term : (c : Contents) (x : ℕ) (xs : List ℕ) → AreTerms c (x ∷ xs) → x < length c.terms
front-term c x xs h = h 0 x refl

pub rest-terms : (c : Contents) (x : ℕ) (xs : List ℕ) → AreTerms c (x ∷ xs) → AreTerms c xs
rest-terms c x xs h i t e = h (suc i) t e

pub terms-take : (c : Contents) (n : ℕ) (xs : List ℕ) → AreTerms c xs → AreTerms c (take n xs)
terms-take c zero xs h i t e = absurd (let f : slice_get (take 0 xs) i ≡ Some t = e in none-get f)
  where
    none-get : slice_get (take 0 xs) i ≡ Some t → ⊥
    none-get f = nothing xs f
      where
        nothing : (ys : List ℕ) → slice_get (take 0 ys) i ≡ Some t → ⊥
        nothing [] g = cc
        nothing (y ∷ ys) g = cc
terms-take c (suc n) [] h i t e = h i t e
terms-take c (suc n) (x ∷ xs) h zero t e = h zero t e
terms-take c (suc n) (x ∷ xs) h (suc i) t e = terms-take c n xs (rest-terms c x xs h) i t e

pub terms-drop : (c : Contents) (n : ℕ) (xs : List ℕ) → AreTerms c xs → AreTerms c (drop n xs)
terms-drop c zero xs h i t e = (let f : slice_get xs i ≡ Some t = e in h i t f)
terms-drop c (suc n) [] h i t e = h i t e
terms-drop c (suc n) (x ∷ xs) h i t e = terms-drop c n xs (rest-terms c x xs h) i t e

-- ---- a logical constant's own arguments

module _ (c : Contents) (s : IsBank c) where
  pub truth-number : type_at c 0 ≡ truth_type
  truth-number = reads-base s 0 0 (sound c s).truth_first

  is-of-type : (x a : ℕ) → x < length c.terms → a < length c.types → type_of (tree_at c x) ≡ type_at c a → IsOfType (Some (type_number c x)) a
  is-of-type x a l m e = record { argument_is = ap Some (type-shared s (type_number c x) a (type_number-within s x l) m (sym (type_of-term s x l) ∙ e)) }

  is-truth : (x : ℕ) → x < length c.terms → type_of (tree_at c x) ≡ truth_type → IsOfType (Some (type_number c x)) 0
  is-truth x l e = let two = s.base_types in is-of-type x 0 l (omega arith) (e ∙ sym truth-number)

  is-property : (x a : ℕ) → x < length c.terms → a < length c.types → type_of (tree_at c x) ≡ arrow (type_at c a) truth_type → IsProperty c (Some (type_number c x)) a
  is-property x a l m e =
      let two = s.base_types in
      let p : type_at c (type_number c x) ≡ arrow (type_at c a) (type_at c 0) = sym (type_of-term s x l) ∙ e ∙ ap (arrow (type_at c a)) (sym truth-number) in
      record { number = type_number c x; argument_is = refl; property = arrow-read c s (type_number c x) a 0 (type_number-within s x l) m (omega arith) p }

  first-same : (x a : SimpleType) (xs ys : List SimpleType) → x ∷ xs ≡ a ∷ ys → x ≡ a
  first-same x a xs ys e = cc

  second-same : (x y a b : SimpleType) (xs ys : List SimpleType) → x ∷ y ∷ xs ≡ a ∷ b ∷ ys → y ≡ b
  second-same x y a b xs ys e = cc

  pub constant-takes : (o : Op) (xs : List ℕ) (rest : List SimpleType) → HasTypeBelow (length c.types) o → AreTerms c xs → map type_of (map (tree_at c) xs) ≡ constant_domains (connective c o) ++ rest →
      Takes c o (argument_type c (slice_get (take (own_arguments (connective c o)) xs) 0)) (argument_type c (slice_get (take (own_arguments (connective c o)) xs) 1)) (operator_type o)
  constant-takes op.True [] rest t h e = (record { argument_is = refl }, record { argument_is = refl }, refl)
  constant-takes op.True (x ∷ xs) rest t h e = (record { argument_is = refl }, record { argument_is = refl }, refl)
  constant-takes op.False [] rest t h e = (record { argument_is = refl }, record { argument_is = refl }, refl)
  constant-takes op.False (x ∷ xs) rest t h e = (record { argument_is = refl }, record { argument_is = refl }, refl)
  constant-takes op.Not [] rest t h e = absurd (cc)
  constant-takes op.Not (x ∷ []) rest t h e = (is-truth x (h 0 x refl) (first-same _ _ _ _ e), record { argument_is = refl }, refl)
  constant-takes op.Not (x ∷ y ∷ xs) rest t h e = (is-truth x (h 0 x refl) (first-same _ _ _ _ e), record { argument_is = refl }, refl)
  constant-takes op.Or [] rest t h e = absurd (cc)
  constant-takes op.Or (x ∷ []) rest t h e = absurd (cc)
  constant-takes op.Or (x ∷ y ∷ xs) rest t h e = (is-truth x (h 0 x refl) (first-same _ _ _ _ e), is-truth y (h 1 y refl) (second-same _ _ _ _ _ _ e), refl)
  constant-takes op.And [] rest t h e = absurd (cc)
  constant-takes op.And (x ∷ []) rest t h e = absurd (cc)
  constant-takes op.And (x ∷ y ∷ xs) rest t h e = (is-truth x (h 0 x refl) (first-same _ _ _ _ e), is-truth y (h 1 y refl) (second-same _ _ _ _ _ _ e), refl)
  constant-takes op.Imp [] rest t h e = absurd (cc)
  constant-takes op.Imp (x ∷ []) rest t h e = absurd (cc)
  constant-takes op.Imp (x ∷ y ∷ xs) rest t h e = (is-truth x (h 0 x refl) (first-same _ _ _ _ e), is-truth y (h 1 y refl) (second-same _ _ _ _ _ _ e), refl)
  constant-takes (op.Eq a) [] rest t h e = absurd (cc)
  constant-takes (op.Eq a) (x ∷ []) rest t h e = absurd (cc)
  constant-takes (op.Eq a) (x ∷ y ∷ xs) rest t h e = (is-of-type x a (h 0 x refl) t (first-same _ _ _ _ e), is-of-type y a (h 1 y refl) t (second-same _ _ _ _ _ _ e), refl)
  constant-takes (op.All a) [] rest t h e = absurd (cc)
  constant-takes (op.All a) (x ∷ []) rest t h e = (is-property x a (h 0 x refl) t (first-same _ _ _ _ e), record { argument_is = refl }, refl)
  constant-takes (op.All a) (x ∷ y ∷ xs) rest t h e = (is-property x a (h 0 x refl) t (first-same _ _ _ _ e), record { argument_is = refl }, refl)
  constant-takes (op.Some a) [] rest t h e = absurd (cc)
  constant-takes (op.Some a) (x ∷ []) rest t h e = (is-property x a (h 0 x refl) t (first-same _ _ _ _ e), record { argument_is = refl }, refl)
  constant-takes (op.Some a) (x ∷ y ∷ xs) rest t h e = (is-property x a (h 0 x refl) t (first-same _ _ _ _ e), record { argument_is = refl }, refl)
  constant-takes (op.Eps a) [] rest t h e = absurd (cc)
  constant-takes (op.Eps a) (x ∷ []) rest t h e = (is-property x a (h 0 x refl) t (first-same _ _ _ _ e), record { argument_is = refl }, refl)
  constant-takes (op.Eps a) (x ∷ y ∷ xs) rest t h e = (is-property x a (h 0 x refl) t (first-same _ _ _ _ e), record { argument_is = refl }, refl)

  -- what is behind these arguments
  pub constant-rest : (k : Connective) (xs : List ℕ) (rest : List SimpleType) → map type_of (map (tree_at c) xs) ≡ constant_domains k ++ rest → map type_of (map (tree_at c) (drop (own_arguments k) xs)) ≡ rest
  constant-rest truth xs rest e = e
  constant-rest falsity xs rest e = e
  constant-rest negation [] rest e = absurd (cc)
  constant-rest negation (x ∷ xs) rest e = cc
  constant-rest disjunction [] rest e = absurd (cc)
  constant-rest disjunction (x ∷ []) rest e = absurd (cc)
  constant-rest disjunction (x ∷ y ∷ xs) rest e = cc
  constant-rest conjunction [] rest e = absurd (cc)
  constant-rest conjunction (x ∷ []) rest e = absurd (cc)
  constant-rest conjunction (x ∷ y ∷ xs) rest e = cc
  constant-rest implication [] rest e = absurd (cc)
  constant-rest implication (x ∷ []) rest e = absurd (cc)
  constant-rest implication (x ∷ y ∷ xs) rest e = cc
  constant-rest (equality a) [] rest e = absurd (cc)
  constant-rest (equality a) (x ∷ []) rest e = absurd (cc)
  constant-rest (equality a) (x ∷ y ∷ xs) rest e = cc
  constant-rest (universal a) [] rest e = absurd (cc)
  constant-rest (universal a) (x ∷ xs) rest e = cc
  constant-rest (existential a) [] rest e = absurd (cc)
  constant-rest (existential a) (x ∷ xs) rest e = cc
  constant-rest (choice a) [] rest e = absurd (cc)
  constant-rest (choice a) (x ∷ xs) rest e = cc

  pub constant-whole : (k : Connective) (xs : List ℕ) (rest : List SimpleType) → map type_of (map (tree_at c) xs) ≡ constant_domains k ++ rest →
      applied_to (logic k (argument (tree_at c) (slice_get (take (own_arguments k) xs) 0)) (argument (tree_at c) (slice_get (take (own_arguments k) xs) 1))) (map (tree_at c) (drop (own_arguments k) xs)) ≡ constant_with k (map (tree_at c) xs)
  constant-whole truth [] rest e = refl
  constant-whole truth (x ∷ xs) rest e = refl
  constant-whole falsity [] rest e = refl
  constant-whole falsity (x ∷ xs) rest e = refl
  constant-whole negation [] rest e = absurd (cc)
  constant-whole negation (x ∷ []) rest e = refl
  constant-whole negation (x ∷ y ∷ xs) rest e = refl
  constant-whole disjunction [] rest e = absurd (cc)
  constant-whole disjunction (x ∷ []) rest e = absurd (cc)
  constant-whole disjunction (x ∷ y ∷ xs) rest e = refl
  constant-whole conjunction [] rest e = absurd (cc)
  constant-whole conjunction (x ∷ []) rest e = absurd (cc)
  constant-whole conjunction (x ∷ y ∷ xs) rest e = refl
  constant-whole implication [] rest e = absurd (cc)
  constant-whole implication (x ∷ []) rest e = absurd (cc)
  constant-whole implication (x ∷ y ∷ xs) rest e = refl
  constant-whole (equality a) [] rest e = absurd (cc)
  constant-whole (equality a) (x ∷ []) rest e = absurd (cc)
  constant-whole (equality a) (x ∷ y ∷ xs) rest e = refl
  constant-whole (universal a) [] rest e = absurd (cc)
  constant-whole (universal a) (x ∷ []) rest e = refl
  constant-whole (universal a) (x ∷ y ∷ xs) rest e = refl
  constant-whole (existential a) [] rest e = absurd (cc)
  constant-whole (existential a) (x ∷ []) rest e = refl
  constant-whole (existential a) (x ∷ y ∷ xs) rest e = refl
  constant-whole (choice a) [] rest e = absurd (cc)
  constant-whole (choice a) (x ∷ []) rest e = refl
  constant-whole (choice a) (x ∷ y ∷ xs) rest e = refl

own-few : (k : Connective) → own_arguments k ≤ 2
own-few truth = omega arith
own-few falsity = omega arith
own-few negation = omega arith
own-few disjunction = omega arith
own-few conjunction = omega arith
own-few implication = omega arith
own-few (equality a) = omega arith
own-few (universal a) = omega arith
own-few (existential a) = omega arith
own-few (choice a) = omega arith

own-domains : (k : Connective) → length (constant_domains k) ≡ own_arguments k
own-domains truth = refl
own-domains falsity = refl
own-domains negation = refl
own-domains disjunction = refl
own-domains conjunction = refl
own-domains implication = refl
own-domains (equality a) = refl
own-domains (universal a) = refl
own-domains (existential a) = refl
own-domains (choice a) = refl

-- there are as many arguments
pub own-within : (c : Contents) (k : Connective) (xs : List ℕ) (rest : List SimpleType) → map type_of (map (tree_at c) xs) ≡ constant_domains k ++ rest → own_arguments k ≤ length xs
own-within c k xs rest e =
    let m : length (map type_of (map (tree_at c) xs)) ≡ length xs = length-map type_of (map (tree_at c) xs) ∙ length-map (tree_at c) xs in
    let n : length (constant_domains k ++ rest) ≡ length (constant_domains k) + length rest = length-append (constant_domains k) rest in
    let o = own-domains k in
    let p : length (map type_of (map (tree_at c) xs)) ≡ length (constant_domains k ++ rest) = ap length e in
    omega arith

pub take-few : (k : Connective) (xs : List ℕ) → length (take (own_arguments k) xs) ≤ 2
take-few k xs = (let l = own-few k in let m = short (own_arguments k) xs in omega arith)
  where
    short : (n : ℕ) (ys : List ℕ) → length (take n ys) ≤ n
    short zero [] = omega arith
    short zero (y ∷ ys) = omega arith
    short (suc n) [] = omega arith
    short (suc n) (y ∷ ys) = (let e = short n ys in omega arith)

-- ---- the loops

-- the argument of one lambda more
pub binders-next : {b c d : Contents} → Extends b c → Extends c d → (outer : List ℕ) (p a i x : ℕ) (ts : List ℕ) (whole : List Tree) → AreTypesOf b outer → AreTerms c ts → p < length outer → a ≡ slice_index_or outer p a → i ≡ length outer - p - 1 → IsTerm d x a (bound i (type_at c a)) → map (tree_at c) ts ++ binders (drop p (map (type_at b) outer)) ≡ whole → map (tree_at d) (ts ++ x ∷ []) ++ binders (drop (p + 1) (map (type_at b) outer)) ≡ whole
binders-next {b} {c} {d} e f outer p a i x ts whole types h l at n m g =
    let one : p + 1 ≡ suc p = omega arith in
    let found = get-at outer p a l at in
    let low : a < length b.types = type-at b outer types p a found in
    let dr : drop p (map (type_at b) outer) ≡ type_at b a ∷ drop (suc p) (map (type_at b) outer) = drop-at (map (type_at b) outer) p (type_at b a) (get-mapped (type_at b) outer p a found) in
    let s : length (map (type_at b) outer) ≡ length outer = length-map (type_at b) outer in
    let t = length-behind (map (type_at b) outer) p (omega arith) in
    let v : i ≡ length (drop (suc p) (map (type_at b) outer)) = omega arith in
    let w : tree_at d x ≡ bound (length (drop (suc p) (map (type_at b) outer))) (type_at b a) = m.reads ∙ rw (v, type-kept e a low) refl in
    let u : map (tree_at d) (ts ++ x ∷ []) ≡ map (tree_at c) ts ++ tree_at d x ∷ [] = map-append (tree_at d) ts (x ∷ []) ∙ ap (λ (xs : List Tree). xs ++ tree_at d x ∷ []) (trees-kept f ts h) in
    let k : map (tree_at c) ts ++ (bound (length (drop (suc p) (map (type_at b) outer))) (type_at b a) ∷ binders (drop (suc p) (map (type_at b) outer))) ≡ whole = rw dr at g in
    rw (one, u, w) (append_assoc (map (tree_at c) ts) (bound (length (drop (suc p) (map (type_at b) outer))) (type_at b a) ∷ []) (binders (drop (suc p) (map (type_at b) outer))) ∙ k)

-- one fresh variable more
module _ {b c d : Contents} (e : Extends b c) (f : Extends c d) (outer : List SimpleType) (taken : List ℕ) (p a next : ℕ) (types : AreTypesOf b taken) (l : p < length taken) (at : a ≡ slice_index_or taken p a) where
  found : slice_get taken p ≡ Some a
  found = get-at taken p a l at

  low : a < length b.types
  low = type-at b taken types p a found

  pub fresh-types_next : (fs : List ℕ) (v : ℕ) → AreTypesOf c fs → type_at d v ≡ function_type outer (type_at c a) → map (type_at c) fs ≡ take p (map (function_type outer) (map (type_at b) taken)) → map (type_at d) (fs ++ v ∷ []) ≡ take (p + 1) (map (function_type outer) (map (type_at b) taken))
  fresh-types_next fs v h m g =
      let one : p + 1 ≡ suc p = omega arith in
      let w : type_at d v ≡ function_type outer (type_at b a) = m ∙ ap (function_type outer) (type-kept e a low) in
      let u : map (type_at d) (fs ++ v ∷ []) ≡ map (type_at c) fs ++ type_at d v ∷ [] = map-append (type_at d) fs (v ∷ []) ∙ ap (λ (xs : List SimpleType). xs ++ type_at d v ∷ []) (types-kept f fs h) in
      let t = take-at (map (function_type outer) (map (type_at b) taken)) p (function_type outer (type_at b a)) (get-mapped (function_type outer) (map (type_at b) taken) p (type_at b a) (get-mapped (type_at b) taken p a found)) in
      rw (one, t, u, w) (ap (λ (xs : List SimpleType). xs ++ function_type outer (type_at b a) ∷ []) g)

  pub fresh-values_next : (vs : List ℕ) (v number : ℕ) (whole : List Tree) → AreTerms c vs → number ≡ next + p → tree_at d v ≡ applied_to (variable number (function_type outer (type_at c a))) (binders outer) → map (tree_at c) vs ++ fresh_values outer (next + p) (drop p (map (type_at b) taken)) ≡ whole → map (tree_at d) (vs ++ v ∷ []) ++ fresh_values outer (next + (p + 1)) (drop (p + 1) (map (type_at b) taken)) ≡ whole
  fresh-values_next vs v number whole h n m g =
      let one : p + 1 ≡ suc p = omega arith in
      let two : next + suc p ≡ suc (next + p) = omega arith in
      let w : tree_at d v ≡ applied_to (variable (next + p) (function_type outer (type_at b a))) (binders outer) = m ∙ rw (n, type-kept e a low) refl in
      let u : map (tree_at d) (vs ++ v ∷ []) ≡ map (tree_at c) vs ++ tree_at d v ∷ [] = map-append (tree_at d) vs (v ∷ []) ∙ ap (λ (xs : List Tree). xs ++ tree_at d v ∷ []) (trees-kept f vs h) in
      let dr : drop p (map (type_at b) taken) ≡ type_at b a ∷ drop (suc p) (map (type_at b) taken) = drop-at (map (type_at b) taken) p (type_at b a) (get-mapped (type_at b) taken p a found) in
      let k : map (tree_at c) vs ++ (applied_to (variable (next + p) (function_type outer (type_at b a))) (binders outer) ∷ fresh_values outer (suc (next + p)) (drop (suc p) (map (type_at b) taken))) ≡ whole = rw dr at g in
      rw (one, two, u, w) (append_assoc (map (tree_at c) vs) (applied_to (variable (next + p) (function_type outer (type_at b a))) (binders outer) ∷ []) (fresh_values outer (suc (next + p)) (drop (suc p) (map (type_at b) taken))) ∙ k)

-- ---- the calls that go down a list

module _ {b c d : Contents} (e : Extends b c) (f : Extends c d) (x : ℕ) (xs rest : List ℕ) (split : xs ≡ x ∷ rest) where
  -- a function type
  pub function-type_step : (ty inner r : ℕ) → AreTypesOf b xs → inner < length c.types → type_at c inner ≡ function_type (map (type_at b) rest) (type_at b ty) → IsArrow d r x inner → type_at d r ≡ function_type (map (type_at b) xs) (type_at b ty)
  function-type_step ty inner r h l v a =
      let k : AreTypesOf b (x ∷ rest) = rw split at h in
      rw split (reads-arrow (new_bank f) a ∙ rw (type-kept f inner l, type-kept (extends-trans e f) x k.0, v) refl)

  -- an application
  pub applied-first : (function : ℕ) (a : SimpleType) → IsBank b → AreTerms b xs → function < length b.terms → type_of (tree_at b function) ≡ function_type (map type_of (map (tree_at b) xs)) a → IsApplicable b function x
  applied-first function a s h l t =
      let k : AreTerms b (x ∷ rest) = rw split at h in
      let u : type_of (tree_at b function) ≡ function_type (map type_of (map (tree_at b) (x ∷ rest))) a = rw split at t in
      applies b s function x l (front-term b x rest k) (function_type (map type_of (map (tree_at b) rest)) a) u

  pub applied-rest : AreTerms b xs → AreTerms c rest
  applied-rest h = are_terms-kept e rest (rest-terms b x rest (rw split at h))

  pub applied-typed : (function whole i : ℕ) (a : SimpleType) → AreTerms b xs → type_of (tree_at b function) ≡ function_type (map type_of (map (tree_at b) xs)) a → IsTerm c whole i (app (tree_at b function) (tree_at b x)) → type_of (tree_at c whole) ≡ function_type (map type_of (map (tree_at c) rest)) a
  applied-typed function whole i a h t m =
      let k : AreTerms b (x ∷ rest) = rw split at h in
      let u : type_of (tree_at b function) ≡ function_type (map type_of (map (tree_at b) (x ∷ rest))) a = rw split at t in
      ap type_of m.reads ∙ ap codomain u ∙ rw (trees-kept e rest (rest-terms b x rest k)) refl

  pub applied-step : (function whole i r : ℕ) → AreTerms b xs → IsTerm c whole i (app (tree_at b function) (tree_at b x)) → tree_at d r ≡ applied_to (tree_at c whole) (map (tree_at c) rest) → tree_at d r ≡ applied_to (tree_at b function) (map (tree_at b) xs)
  applied-step function whole i r h m v =
      let k : AreTerms b (x ∷ rest) = rw split at h in
      v ∙ rw (m.reads, trees-kept e rest (rest-terms b x rest k), split) refl

  -- a function of an argument more
  pub function-rest : AreTypesOf b xs → AreTypesOf b rest
  function-rest h = (let k : AreTypesOf b (x ∷ rest) = rw split at h in k.1)

  pub function-first : AreTypesOf b xs → x < length c.types
  function-first h = (let k : AreTypesOf b (x ∷ rest) = rw split at h in let l = k.0 in let m = e.types_more in omega arith)

  pub indexed-rest : (body : ℕ) → AreIndexed (map (type_at b) xs) (tree_at b body) → AreIndexed (map (type_at b) rest) (tree_at b body)
  indexed-rest body h = (let k : AreIndexed (map (type_at b) (x ∷ rest)) (tree_at b body) = rw split at h in k.1)

  pub function-bound : (body inner : ℕ) → AreTypesOf b xs → AreIndexed (map (type_at b) xs) (tree_at b body) → tree_at c inner ≡ function_of (map (type_at b) rest) (tree_at b body) → IsBoundAt 0 (type_at c x) (tree_at c inner)
  function-bound body inner h i v =
      let k : AreTypesOf b (x ∷ rest) = rw split at h in
      let j : AreIndexed (map (type_at b) (x ∷ rest)) (tree_at b body) = rw split at i in
      rw (v, type-kept e x k.0) (bound-inside (type_at b x) (map (type_at b) rest) (tree_at b body) j)

  pub function-step : (body inner r j : ℕ) → AreTypesOf b xs → tree_at c inner ≡ function_of (map (type_at b) rest) (tree_at b body) → IsTerm d r j (lam (type_at c x) (tree_at c inner)) → tree_at d r ≡ function_of (map (type_at b) xs) (tree_at b body)
  function-step body inner r j h v m =
      let k : AreTypesOf b (x ∷ rest) = rw split at h in
      m.reads ∙ rw (v, type-kept e x k.0, split) refl

-- ---- domains

pub if-listed : {E : Type 0} (c : Contents) (r : Result (List ℕ) E) (xs : List ℕ) (ys : List SimpleType) → IfOk r (λ ts. ts ≡ xs) → map (type_at c) xs ≡ ys → IfOk r (λ ts. map (type_at c) ts ≡ ys)
if-listed c (Ok ts) xs ys h e = rw h e
if-listed c (Err x) xs ys h e = tt

pub domain-next : (c : Contents) (part from to : ℕ) (taken : List ℕ) (whole : List SimpleType) → type_at c part ≡ arrow (type_at c from) (type_at c to) → map (type_at c) taken ++ domains (type_at c part) ≡ whole → map (type_at c) (taken ++ from ∷ []) ++ domains (type_at c to) ≡ whole
domain-next c part from to taken whole r g =
    let s : map (type_at c) (taken ++ from ∷ []) ≡ map (type_at c) taken ++ type_at c from ∷ [] = map-append (type_at c) taken (from ∷ []) in
    rw s (append_assoc (map (type_at c) taken) (type_at c from ∷ []) (domains (type_at c to)) ∙ (rw r at g))

-- ---- a head with its arguments

-- a term whose arguments are all given
pub all-given : (t : Tree) (xs : List Tree) → map type_of xs ≡ domains (type_of t) → (b : SimpleType) × (type_of t ≡ function_type (map type_of xs) b)
all-given t xs e = (result_type (type_of t), sym (function-of_type (type_of t)) ∙ ap (λ (ts : List SimpleType). function_type ts (result_type (type_of t))) (sym e))

module _ {b c d : Contents} (e : Extends b c) (f : Extends c d) (o : Op) (xs : List ℕ) (n : ℕ) (count : n ≡ own_arguments (connective b o)) (h : AreTerms b xs) (t : map type_of (map (tree_at b) xs) ≡ constant_domains (connective b o) ++ domains (connective_type (connective b o))) where
  behind : List ℕ
  behind = drop (own_arguments (connective b o)) xs

  pub others-within : AreTerms c (take (length xs - n) (drop n xs))
  others-within = rw (take-rest xs n) (are_terms-kept e (drop n xs) (terms-drop b n xs h))

  module _ (constant i : ℕ) (m : IsTerm c constant i (logic (connective b o) (argument (tree_at b) (slice_get (take n xs) 0)) (argument (tree_at b) (slice_get (take n xs) 1)))) where
    others-same : map (tree_at c) (take (length xs - n) (drop n xs)) ≡ map (tree_at b) (drop (own_arguments (connective b o)) xs)
    others-same = rw (take-rest xs n, ← count) (trees-kept e (drop n xs) (terms-drop b n xs h))

    pub others-typed : IsBank b → (x : SimpleType) × (type_of (tree_at c constant) ≡ function_type (map type_of (map (tree_at c) (take (length xs - n) (drop n xs)))) x)
    others-typed s =
        let u : map type_of (map (tree_at b) (drop (own_arguments (connective b o)) xs)) ≡ domains (connective_type (connective b o)) = constant-rest b s (connective b o) xs (domains (connective_type (connective b o))) t in
        all-given (tree_at c constant) (map (tree_at c) (take (length xs - n) (drop n xs))) (rw (others-same, m.reads) u)

    pub constant-step : IsBank b → (r : ℕ) → tree_at d r ≡ applied_to (tree_at c constant) (map (tree_at c) (take (length xs - n) (drop n xs))) → tree_at d r ≡ constant_with (connective b o) (map (tree_at b) xs)
    constant-step s r v = v ∙ rw (others-same, m.reads, count) (constant-whole b s (connective b o) xs (domains (connective_type (connective b o))) t)

-- ---- fresh variables

module _ {b c d : Contents} (e : Extends b c) (f : Extends c d) (outer : List SimpleType) (bs : List ℕ) (bt : AreTerms b bs) (are : map (tree_at b) bs ≡ binders outer) (a : SimpleType) (function v n i : ℕ) (l : function < length c.types) (t : type_at c function ≡ function_type outer a) (m : IsTerm d v i (variable n (type_at c function))) where
  binders-same : map (tree_at d) bs ≡ binders outer
  binders-same = trees-kept (extends-trans e f) bs bt ∙ are

  pub fresh-typed : type_of (tree_at d v) ≡ function_type (map type_of (map (tree_at d) bs)) a
  fresh-typed = rw (m.reads, binders-same, types-binders outer) t

  module _ {g : Contents} (h : Extends d g) where
    pub fresh-type : type_at g function ≡ function_type outer a
    fresh-type = type-kept (extends-trans f h) function l ∙ t

    pub fresh-value : (r : ℕ) → tree_at g r ≡ applied_to (tree_at d v) (map (tree_at d) bs) → tree_at g r ≡ applied_to (variable n (function_type outer a)) (binders outer)
    fresh-value r w = w ∙ rw (m.reads, binders-same, t) refl

-- a frame in a bank that grew
pub frame-grows : {b c : Contents} → Extends b c → (f : Frame) → IsFrameOf b f → IsFrameOf c f
frame-grows e f h = record {
  types_of = types-grow e f.outer h.types_of;
  binders_of = are_terms-kept e f.binders h.binders_of;
  binders_are = rw (trees-kept e f.binders h.binders_of, types-kept e f.outer h.types_of) h.binders_are;
}
