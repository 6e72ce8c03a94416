-- The base types and the symbols of types, of normal forms and of terms with others put in, and of literals.
use Rattle.std.proofs.Common.{ℕ, zero, suc, nat_eq, nat_lt, ◌≡◌, ◌+◌, ◌-◌, Bool, true, false, List, [], ◌∷◌, ◌++◌, map, take, drop, slice_get, Option, Some, None, refl}
use Rattle.std.specs.Bool.{if◌then◌else◌}
use Rattle.leo_q0.specs.Terms.{SimpleType, base, arrow}
use Rattle.leo_terms.specs.Tree.{codomain, Tree, variable, bound, symbol, app, lam, logic, absent, Connective, truth, falsity, negation, disjunction, conjunction, implication, equality, universal, existential, choice, connective_type, type_of, lifted, bound_opened, opened, variable_given, substituted}
use Rattle.leo_terms.specs.NormalForm.{type_size, applied, put_by, put_within, contracted, expanded, eta_long, normal_form}
use Rattle.leo_clause.specs.Renaming.{substituted_literal}
use Rattle.leo_clause.specs.Trees.{Literal, ClauseTree}
use Rattle.leo_kernel.specs.Conclusions.{Decomposes, applications, constants, unequal_if_present, with_literals, with_new}
use Rattle.leo_clausify.specs.Splitting.{normal_literal}
use Rattle.leo_kernel.specs.Steps.{Line}
use Rattle.leo_unify.specs.Origins.{Origin, IsTypeFrom, AreTypesFrom, IsConstantFrom, IsTermFrom, AreTermsFrom}
use Rattle.leo_conclude.specs.Origins.{AreLinesFrom, AreLiteralsFrom, IsClauseFrom, IsLiteralFrom}

module _ (o : Origin) where
  -- ---- literals

  pub literals-append : (ls ks : List Literal) → AreLiteralsFrom o ls → AreLiteralsFrom o ks → AreLiteralsFrom o (ls ++ ks)
  literals-append [] ks h k = k
  literals-append (l ∷ ls) ks h k = (h.0, literals-append ls ks h.1 k)

  literals-take : (n : ℕ) (ls : List Literal) → AreLiteralsFrom o ls → AreLiteralsFrom o (take n ls)
  literals-take zero ls h = tt
  literals-take (suc n) [] h = tt
  literals-take (suc n) (l ∷ ls) h = (h.0, literals-take n ls h.1)

  literals-drop : (n : ℕ) (ls : List Literal) → AreLiteralsFrom o ls → AreLiteralsFrom o (drop n ls)
  literals-drop zero ls h = h
  literals-drop (suc n) [] h = tt
  literals-drop (suc n) (l ∷ ls) h = literals-drop n ls h.1

  pub literals-with : (ls : List Literal) (i : ℕ) (new : List Literal) → AreLiteralsFrom o ls → AreLiteralsFrom o new → AreLiteralsFrom o (with_literals ls i new)
  literals-with ls i new h k = literals-append (take i ls) (new ++ drop (suc i) ls) (literals-take i ls h) (literals-append new (drop (suc i) ls) k (literals-drop (suc i) ls h))

  pub literal-at : (ls : List Literal) (i : ℕ) (l : Literal) → AreLiteralsFrom o ls → slice_get ls i ≡ Some l → IsLiteralFrom o l
  literal-at [] i l h e = absurd (cc)
  literal-at (k ∷ ls) zero l h e = (let f : k ≡ l = cc in rw (← f) h.0)
  literal-at (k ∷ ls) (suc i) l h e = literal-at ls i l h.1 e

  pub lines-append : (ls ks : List Line) → AreLinesFrom o ls → AreLinesFrom o ks → AreLinesFrom o (ls ++ ks)
  lines-append [] ks h k = k
  lines-append (l ∷ ls) ks h k = (h.0, lines-append ls ks h.1 k)

module _ (o : Origin) (zero_base : o.has_base 0 ≡ true) where
  -- ---- types

  pub from-codomain : (a : SimpleType) → IsTypeFrom o a → IsTypeFrom o (codomain a)
  from-codomain (base n) h = h
  from-codomain (arrow a b) h = h.1

  from-connective : (c : Connective) → IsConstantFrom o c → IsTypeFrom o (connective_type c)
  from-connective (choice a) h = h
  from-connective truth h = zero_base
  from-connective falsity h = zero_base
  from-connective negation h = zero_base
  from-connective disjunction h = zero_base
  from-connective conjunction h = zero_base
  from-connective implication h = zero_base
  from-connective (equality a) h = zero_base
  from-connective (universal a) h = zero_base
  from-connective (existential a) h = zero_base

  pub from-type_of : (t : Tree) → IsTermFrom o t → IsTypeFrom o (type_of t)
  from-type_of (variable n a) h = h
  from-type_of (bound i a) h = h
  from-type_of (symbol s a) h = h.1
  from-type_of (app f x) h = from-codomain (type_of f) (from-type_of f h.0)
  from-type_of (lam a t) h = (h.0, from-type_of t h.1)
  from-type_of (logic c x y) h = from-connective c h.0
  from-type_of absent h = zero_base

  pub types-append : (xs ys : List SimpleType) → AreTypesFrom o xs → AreTypesFrom o ys → AreTypesFrom o (xs ++ ys)
  types-append [] ys h k = k
  types-append (x ∷ xs) ys h k = (h.0, types-append xs ys h.1 k)

  -- ---- normal forms

  from-if_index : (b : Bool) (i j : ℕ) (a : SimpleType) → IsTypeFrom o a → IsTermFrom o (if b then bound i a else bound j a)
  from-if_index true i j a h = h
  from-if_index false i j a h = h

  pub from-lifted : (t : Tree) (from by : ℕ) → IsTermFrom o t → IsTermFrom o (lifted from by t)
  from-lifted (variable n a) from by h = h
  from-lifted (bound i a) from by h = from-if_index (nat_lt i from) i (i + by) a h
  from-lifted (symbol s a) from by h = h
  from-lifted (app f x) from by h = (from-lifted f from by h.0, from-lifted x from by h.1)
  from-lifted (lam a t) from by h = (h.0, from-lifted t (from + 1) by h.1)
  from-lifted (logic c x y) from by h = (h.0, from-lifted x from by h.1, from-lifted y from by h.2)
  from-lifted absent from by h = tt

  from-bound_opened : (k : ℕ) (s : Tree) (i : ℕ) (a : SimpleType) → IsTermFrom o s → IsTypeFrom o a → IsTermFrom o (bound_opened k s i a)
  from-bound_opened k s i a h m = by (nat_lt i k) (nat_eq i k)
    where
      by : (x y : Bool) → IsTermFrom o (if x then bound i a else (if y then lifted 0 k s else bound (i - 1) a))
      by true y = m
      by false true = from-lifted s 0 k h
      by false false = m

  from-opened : (t : Tree) (k : ℕ) (s : Tree) → IsTermFrom o s → IsTermFrom o t → IsTermFrom o (opened k s t)
  from-opened (variable n a) k s m h = h
  from-opened (bound i a) k s m h = from-bound_opened k s i a m h
  from-opened (symbol n a) k s m h = h
  from-opened (app f x) k s m h = (from-opened f k s m h.0, from-opened x k s m h.1)
  from-opened (lam a t) k s m h = (h.0, from-opened t (k + 1) s m h.1)
  from-opened (logic c x y) k s m h = (h.0, from-opened x k s m h.1, from-opened y k s m h.2)
  from-opened absent k s m h = tt

  from-applied : (contract : Tree → Tree → Tree) → ((x t : Tree) → IsTermFrom o x → IsTermFrom o t → IsTermFrom o (contract x t)) → (f x : Tree) → IsTermFrom o f → IsTermFrom o x → IsTermFrom o (applied contract f x)
  from-applied contract keeps (lam a t) x h k = keeps x t k h.1
  from-applied contract keeps (variable n a) x h k = (h, k)
  from-applied contract keeps (bound i a) x h k = (h, k)
  from-applied contract keeps (symbol s a) x h k = (h, k)
  from-applied contract keeps (app f y) x h k = (h, k)
  from-applied contract keeps (logic c y z) x h k = (h, k)
  from-applied contract keeps absent x h k = (h, k)

  from-put_by : (contract : Tree → Tree → Tree) → ((x t : Tree) → IsTermFrom o x → IsTermFrom o t → IsTermFrom o (contract x t)) → (t : Tree) (k : ℕ) (s : Tree) → IsTermFrom o s → IsTermFrom o t → IsTermFrom o (put_by contract k s t)
  from-put_by contract keeps (variable n a) k s m h = h
  from-put_by contract keeps (bound i a) k s m h = from-bound_opened k s i a m h
  from-put_by contract keeps (symbol n a) k s m h = h
  from-put_by contract keeps (app f x) k s m h = from-applied contract keeps (put_by contract k s f) (put_by contract k s x) (from-put_by contract keeps f k s m h.0) (from-put_by contract keeps x k s m h.1)
  from-put_by contract keeps (lam a t) k s m h = (h.0, from-put_by contract keeps t (k + 1) s m h.1)
  from-put_by contract keeps (logic c x y) k s m h = (h.0, from-put_by contract keeps x k s m h.1, from-put_by contract keeps y k s m h.2)
  from-put_by contract keeps absent k s m h = tt

  from-put_within : (depth k : ℕ) (s t : Tree) → IsTermFrom o s → IsTermFrom o t → IsTermFrom o (put_within depth k s t)
  from-put_within zero k s t m h = from-opened t k s m h
  from-put_within (suc depth) k s t m h = from-put_by (put_within depth 0) (λ x u p q. from-put_within depth 0 x u p q) t k s m h

  from-expanded : (a : SimpleType) (t : Tree) → IsTypeFrom o a → IsTermFrom o t → IsTermFrom o (expanded a t)
  from-expanded (base n) t k h = h
  from-expanded (arrow a b) t k h = (k.0, from-expanded b (app (lifted 0 1 t) (expanded a (bound 0 a))) k.1 (from-lifted t 0 1 h, from-expanded a (bound 0 a) k.0 k.0))

  from-eta_long : (t : Tree) → IsTermFrom o t → IsTermFrom o (eta_long t)
  from-eta_long t h = from-expanded (type_of t) t (from-type_of t h) h

  pub from-normal_form : (t : Tree) → IsTermFrom o t → IsTermFrom o (normal_form t)
  from-normal_form (variable n a) h = from-eta_long (variable n a) h
  from-normal_form (bound i a) h = from-eta_long (bound i a) h
  from-normal_form (symbol s a) h = from-eta_long (symbol s a) h
  from-normal_form (app f x) h = from-applied contracted (λ y t p q. from-put_within (type_size (type_of y)) 0 y t p q) (normal_form f) (normal_form x) (from-normal_form f h.0) (from-normal_form x h.1)
  from-normal_form (lam a t) h = (h.0, from-normal_form t h.1)
  from-normal_form (logic c x y) h = from-eta_long (logic c (normal_form x) (normal_form y)) (h.0, from-normal_form x h.1, from-normal_form y h.2)
  from-normal_form absent h = tt

  -- ---- terms put in

  from-given : (given : List Tree) → AreTermsFrom o given → (n k : ℕ) (a : SimpleType) → IsTypeFrom o a → IsTermFrom o (variable_given k (slice_get given n) n a)
  from-given given g n k a h = by (slice_get given n) (listed given g n)
    where
      listed : (xs : List Tree) → AreTermsFrom o xs → (m : ℕ) (s : Tree) → slice_get xs m ≡ Some s → IsTermFrom o s
      listed [] p m s e = absurd (cc)
      listed (x ∷ xs) p zero s e = let f : x ≡ s = cc in rw (← f) p.0
      listed (x ∷ xs) p (suc m) s e = listed xs p.1 m s e

      by : (x : Option Tree) → ((s : Tree) → x ≡ Some s → IsTermFrom o s) → IsTermFrom o (variable_given k x n a)
      by None f = h
      by (Some s) f = from-lifted s 0 k (f s refl)

  pub from-substituted : (given : List Tree) → AreTermsFrom o given → (t : Tree) (k : ℕ) → IsTermFrom o t → IsTermFrom o (substituted given k t)
  from-substituted given g (variable n a) k h = from-given given g n k a h
  from-substituted given g (bound i a) k h = h
  from-substituted given g (symbol s a) k h = h
  from-substituted given g (app f x) k h = (from-substituted given g f k h.0, from-substituted given g x k h.1)
  from-substituted given g (lam a t) k h = (h.0, from-substituted given g t (k + 1) h.1)
  from-substituted given g (logic c x y) k h = (h.0, from-substituted given g x k h.1, from-substituted given g y k h.2)
  from-substituted given g absent k h = tt

  pub literals-substituted : (given : List Tree) → AreTermsFrom o given → (ls : List Literal) → AreLiteralsFrom o ls → AreLiteralsFrom o (map (substituted_literal given) ls)
  literals-substituted given g [] h = tt
  literals-substituted given g (l ∷ ls) h = ((from-substituted given g l.left 0 h.0.0, from-substituted given g l.right 0 h.0.1), literals-substituted given g ls h.1)

  pub clause-with : (c : ClauseTree) (i : ℕ) (fresh : List SimpleType) (new : List Literal) → IsClauseFrom o c → AreTypesFrom o fresh → AreLiteralsFrom o new → IsClauseFrom o (with_new c i fresh new)
  clause-with c i fresh new h f k = (types-append c.variables fresh h.0 f, literals-with o c.literals i new h.1 k)

  pub normals-from : (ls : List Literal) → AreLiteralsFrom o ls → AreLiteralsFrom o (map normal_literal ls)
  normals-from [] h = tt
  normals-from (l ∷ ls) h = ((from-normal_form l.left h.0.0, from-normal_form l.right h.0.1), normals-from ls h.1)

  present-from : (x y : Tree) → IsTermFrom o x → IsTermFrom o y → AreLiteralsFrom o (unequal_if_present x y)
  present-from absent y h g = tt
  present-from (variable n a) y h g = ((h, g), tt)
  present-from (bound i a) y h g = ((h, g), tt)
  present-from (symbol n a) y h g = ((h, g), tt)
  present-from (app f x) y h g = ((h, g), tt)
  present-from (lam a t) y h g = ((h, g), tt)
  present-from (logic c x z) y h g = ((h, g), tt)

  -- the parts of an inequation
  pub parts-from : (l : Literal) (new : List Literal) → Decomposes l new → IsLiteralFrom o l → AreLiteralsFrom o new
  parts-from _ _ (applications f g x y) h = ((h.0.0, h.1.0), ((h.0.1, h.1.1), tt))
  parts-from _ _ (constants c x y z w) h = literals-append o (unequal_if_present x z) (unequal_if_present y w) (present-from x z h.0.1 h.1.1) (present-from y w h.0.2 h.1.2)
