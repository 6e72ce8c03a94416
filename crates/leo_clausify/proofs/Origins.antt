-- Base types and symbols of terms, types and literals that are made from others.
use Rattle.std.proofs.Common.{ℕ, zero, suc, nat_eq, nat_lt, ◌≡◌, ◌+◌, ◌-◌, Bool, true, false, not, List, [], ◌∷◌, ◌++◌, length, map, take, drop, slice_get, Some, refl, subst, sym}
use Rattle.std.specs.Bool.{if◌then◌else◌}
use Rattle.std.specs.List.{list_any}
use Rattle.leo_q0.specs.Terms.{SimpleType, base, arrow}
use Rattle.leo_terms.specs.Tree.{codomain, Tree, variable, bound, symbol, app, lam, logic, absent, Connective, truth, falsity, negation, disjunction, conjunction, implication, equality, universal, existential, choice, connective_type, type_of, lifted, bound_opened, opened}
use Rattle.leo_terms.specs.NormalForm.{type_size, applied, put_by, put_within, contracted, expanded, eta_long, normal_form}
use Rattle.leo_clause.specs.Arranging.{firsts, occurring_in, distinct, place_in, renumbered, renumbered_literal, variable_type, type_in, numbered, arranged}
use Rattle.leo_clause.specs.Choices.{Choice, symbol_of}
use Rattle.leo_clause.specs.Sameness.{same_literal}
use Rattle.leo_clause.specs.Trees.{Literal, ClauseTree}
use Rattle.leo_clause.specs.declared.record.LogicKind.{LogicKind}
use Rattle.leo_kernel.specs.Choosing.{value, Claims, all_f, some_t, claimed, chosen, applied_to}
use Rattle.leo_kernel.specs.Conclusions.{with_new}
use Rattle.leo_kernel.specs.Rows.{TakesApart, not_v, or_t, or_f1, or_f2, and_t1, and_t2, and_f, imp_t, imp_f1, imp_f2, eq_t, eq_f, flip, all_t, some_f}
use Rattle.leo_kernel.specs.Shapes.{truth_tree}
use Rattle.leo_clausify.specs.Choosing.{indexed, function_of, variables_of, variable_terms, chosen_form, closed_form, chosen_arguments}
use Rattle.leo_clausify.specs.Giving.{placed_tree, some_tree}
use Rattle.leo_clausify.specs.Origins.{Origin, IsTypeFrom, AreTypesFrom, IsConstantFrom, IsTermFrom, AreTermsFrom, AreLiteralsFrom, IsClauseFrom, IsChoiceFrom}
use Rattle.leo_clausify.specs.Splitting.{normal_literal, turned}

some-value : {X : Type 0} {x y : X} → Some x ≡ Some y → x ≡ y
some-value e = cc

module _ (o : Origin) (zero_base : o.has_base 0 ≡ true) where
  -- ---- types

  from-codomain : (a : SimpleType) → IsTypeFrom o a → IsTypeFrom o (codomain a)
  from-codomain (base n) h = h
  from-codomain (arrow a b) h = h.1

  from-connective : (c : Connective) → IsConstantFrom o c → IsTypeFrom o (connective_type c)
  from-connective (choice a) h = h
  from-connective truth h = zero_base
  from-connective falsity h = zero_base
  from-connective negation h = zero_base
  from-connective disjunction h = zero_base
  from-connective conjunction h = zero_base
  from-connective implication h = zero_base
  from-connective (equality a) h = zero_base
  from-connective (universal a) h = zero_base
  from-connective (existential a) h = zero_base

  pub from-type_of : (t : Tree) → IsTermFrom o t → IsTypeFrom o (type_of t)
  from-type_of (variable n a) h = h
  from-type_of (bound i a) h = h
  from-type_of (symbol s a) h = h.1
  from-type_of (app f x) h = from-codomain (type_of f) (from-type_of f h.0)
  from-type_of (lam a t) h = (h.0, from-type_of t h.1)
  from-type_of (logic c x y) h = from-connective c h.0
  from-type_of absent h = zero_base

  types-append : (xs ys : List SimpleType) → AreTypesFrom o xs → AreTypesFrom o ys → AreTypesFrom o (xs ++ ys)
  types-append [] ys h k = k
  types-append (x ∷ xs) ys h k = (h.0, types-append xs ys h.1 k)

  from-type_at : (types : List SimpleType) (n : ℕ) → AreTypesFrom o types → IsTypeFrom o (type_in (slice_get types n))
  from-type_at [] n h = zero_base
  from-type_at (a ∷ types) zero h = h.0
  from-type_at (a ∷ types) (suc n) h = from-type_at types n h.1

  from-variable_types : (types : List SimpleType) (ns : List ℕ) → AreTypesFrom o types → AreTypesFrom o (map (variable_type types) ns)
  from-variable_types types [] h = tt
  from-variable_types types (n ∷ ns) h = (from-type_at types n h, from-variable_types types ns h)

  -- ---- normal forms

  from-if_index : (b : Bool) (i j : ℕ) (a : SimpleType) → IsTypeFrom o a → IsTermFrom o (if b then bound i a else bound j a)
  from-if_index true i j a h = h
  from-if_index false i j a h = h

  from-lifted : (t : Tree) (from by : ℕ) → IsTermFrom o t → IsTermFrom o (lifted from by t)
  from-lifted (variable n a) from by h = h
  from-lifted (bound i a) from by h = from-if_index (nat_lt i from) i (i + by) a h
  from-lifted (symbol s a) from by h = h
  from-lifted (app f x) from by h = (from-lifted f from by h.0, from-lifted x from by h.1)
  from-lifted (lam a t) from by h = (h.0, from-lifted t (from + 1) by h.1)
  from-lifted (logic c x y) from by h = (h.0, from-lifted x from by h.1, from-lifted y from by h.2)
  from-lifted absent from by h = tt

  from-bound_opened : (k : ℕ) (s : Tree) (i : ℕ) (a : SimpleType) → IsTermFrom o s → IsTypeFrom o a → IsTermFrom o (bound_opened k s i a)
  from-bound_opened k s i a h m = by (nat_lt i k) (nat_eq i k)
    where
      by : (x y : Bool) → IsTermFrom o (if x then bound i a else (if y then lifted 0 k s else bound (i - 1) a))
      by true y = m
      by false true = from-lifted s 0 k h
      by false false = m

  from-opened : (t : Tree) (k : ℕ) (s : Tree) → IsTermFrom o s → IsTermFrom o t → IsTermFrom o (opened k s t)
  from-opened (variable n a) k s m h = h
  from-opened (bound i a) k s m h = from-bound_opened k s i a m h
  from-opened (symbol n a) k s m h = h
  from-opened (app f x) k s m h = (from-opened f k s m h.0, from-opened x k s m h.1)
  from-opened (lam a t) k s m h = (h.0, from-opened t (k + 1) s m h.1)
  from-opened (logic c x y) k s m h = (h.0, from-opened x k s m h.1, from-opened y k s m h.2)
  from-opened absent k s m h = tt

  from-applied : (contract : Tree → Tree → Tree) → ((x t : Tree) → IsTermFrom o x → IsTermFrom o t → IsTermFrom o (contract x t)) → (f x : Tree) → IsTermFrom o f → IsTermFrom o x → IsTermFrom o (applied contract f x)
  from-applied contract keeps (lam a t) x h k = keeps x t k h.1
  from-applied contract keeps (variable n a) x h k = (h, k)
  from-applied contract keeps (bound i a) x h k = (h, k)
  from-applied contract keeps (symbol s a) x h k = (h, k)
  from-applied contract keeps (app f y) x h k = (h, k)
  from-applied contract keeps (logic c y z) x h k = (h, k)
  from-applied contract keeps absent x h k = (h, k)

  from-put_by : (contract : Tree → Tree → Tree) → ((x t : Tree) → IsTermFrom o x → IsTermFrom o t → IsTermFrom o (contract x t)) → (t : Tree) (k : ℕ) (s : Tree) → IsTermFrom o s → IsTermFrom o t → IsTermFrom o (put_by contract k s t)
  from-put_by contract keeps (variable n a) k s m h = h
  from-put_by contract keeps (bound i a) k s m h = from-bound_opened k s i a m h
  from-put_by contract keeps (symbol n a) k s m h = h
  from-put_by contract keeps (app f x) k s m h = from-applied contract keeps (put_by contract k s f) (put_by contract k s x) (from-put_by contract keeps f k s m h.0) (from-put_by contract keeps x k s m h.1)
  from-put_by contract keeps (lam a t) k s m h = (h.0, from-put_by contract keeps t (k + 1) s m h.1)
  from-put_by contract keeps (logic c x y) k s m h = (h.0, from-put_by contract keeps x k s m h.1, from-put_by contract keeps y k s m h.2)
  from-put_by contract keeps absent k s m h = tt

  from-put_within : (depth k : ℕ) (s t : Tree) → IsTermFrom o s → IsTermFrom o t → IsTermFrom o (put_within depth k s t)
  from-put_within zero k s t m h = from-opened t k s m h
  from-put_within (suc depth) k s t m h = from-put_by (put_within depth 0) (λ x u p q. from-put_within depth 0 x u p q) t k s m h

  from-expanded : (a : SimpleType) (t : Tree) → IsTypeFrom o a → IsTermFrom o t → IsTermFrom o (expanded a t)
  from-expanded (base n) t k h = h
  from-expanded (arrow a b) t k h = (k.0, from-expanded b (app (lifted 0 1 t) (expanded a (bound 0 a))) k.1 (from-lifted t 0 1 h, from-expanded a (bound 0 a) k.0 k.0))

  from-eta_long : (t : Tree) → IsTermFrom o t → IsTermFrom o (eta_long t)
  from-eta_long t h = from-expanded (type_of t) t (from-type_of t h) h

  pub from-normal_form : (t : Tree) → IsTermFrom o t → IsTermFrom o (normal_form t)
  from-normal_form (variable n a) h = from-eta_long (variable n a) h
  from-normal_form (bound i a) h = from-eta_long (bound i a) h
  from-normal_form (symbol s a) h = from-eta_long (symbol s a) h
  from-normal_form (app f x) h = from-applied contracted (λ y t p q. from-put_within (type_size (type_of y)) 0 y t p q) (normal_form f) (normal_form x) (from-normal_form f h.0) (from-normal_form x h.1)
  from-normal_form (lam a t) h = (h.0, from-normal_form t h.1)
  from-normal_form (logic c x y) h = from-eta_long (logic c (normal_form x) (normal_form y)) (h.0, from-normal_form x h.1, from-normal_form y h.2)
  from-normal_form absent h = tt

  -- ---- literals

  literals-append : (ls ks : List Literal) → AreLiteralsFrom o ls → AreLiteralsFrom o ks → AreLiteralsFrom o (ls ++ ks)
  literals-append [] ks h g = g
  literals-append (l ∷ ls) ks h g = (h.0, h.1, literals-append ls ks h.2 g)

  literals-first : (ls ks : List Literal) → AreLiteralsFrom o (ls ++ ks) → AreLiteralsFrom o ls
  literals-first [] ks h = tt
  literals-first (l ∷ ls) ks h = (h.0, h.1, literals-first ls ks h.2)

  literals-last : (ls ks : List Literal) → AreLiteralsFrom o (ls ++ ks) → AreLiteralsFrom o ks
  literals-last [] ks h = h
  literals-last (l ∷ ls) ks h = literals-last ls ks h.2

  literals-take : (n : ℕ) (ls : List Literal) → AreLiteralsFrom o ls → AreLiteralsFrom o (take n ls)
  literals-take zero ls h = tt
  literals-take (suc n) [] h = tt
  literals-take (suc n) (l ∷ ls) h = (h.0, h.1, literals-take n ls h.2)

  literals-drop : (n : ℕ) (ls : List Literal) → AreLiteralsFrom o ls → AreLiteralsFrom o (drop n ls)
  literals-drop zero ls h = h
  literals-drop (suc n) [] h = tt
  literals-drop (suc n) (l ∷ ls) h = literals-drop n ls h.2

  pub literal-at : (ls : List Literal) (i : ℕ) (l : Literal) → AreLiteralsFrom o ls → slice_get ls i ≡ Some l → IsTermFrom o l.left × IsTermFrom o l.right
  literal-at [] i l h e = absurd (cc)
  literal-at (k ∷ ls) zero l h e = subst (λ (x : Literal). IsTermFrom o x.left × IsTermFrom o x.right) (some-value e) (h.0, h.1)
  literal-at (k ∷ ls) (suc i) l h e = literal-at ls i l h.2 e

  pub placed-from : (c : ClauseTree) (i : ℕ) (fresh : List SimpleType) (new : List Literal) → IsClauseFrom o c → AreTypesFrom o fresh → AreLiteralsFrom o new → IsClauseFrom o (with_new c i fresh new)
  placed-from c i fresh new h t g = (
    types-append c.variables fresh h.0 t,
    literals-append (take i c.literals) (new ++ drop (suc i) c.literals) (literals-take i c.literals h.1) (literals-append new (drop (suc i) c.literals) g (literals-drop (suc i) c.literals h.1)),
  )

  pub turned-from : (l : Literal) → IsTermFrom o l.left × IsTermFrom o l.right → AreLiteralsFrom o (turned l ∷ [])
  turned-from l h = (h.1, h.0, tt)

  from-truth : (v : Bool) → IsTermFrom o (truth_tree v)
  from-truth true = (tt, tt, tt)
  from-truth false = (tt, tt, tt)

  pub row-from : (next : ℕ) (kind : LogicKind) (l : Literal) (fresh : List SimpleType) (new : List Literal) → TakesApart next kind l fresh new → IsTermFrom o l.left × IsTermFrom o l.right → AreTypesFrom o fresh × AreLiteralsFrom o new
  row-from next kind l fresh new (not_v a v) h = (tt, (h.0.1, from-truth (not v), tt))
  row-from next kind l fresh new (or_t a b) h = (tt, (h.0.1, from-truth true, (h.0.2, from-truth true, tt)))
  row-from next kind l fresh new (or_f1 a b) h = (tt, (h.0.1, from-truth false, tt))
  row-from next kind l fresh new (or_f2 a b) h = (tt, (h.0.2, from-truth false, tt))
  row-from next kind l fresh new (and_t1 a b) h = (tt, (h.0.1, from-truth true, tt))
  row-from next kind l fresh new (and_t2 a b) h = (tt, (h.0.2, from-truth true, tt))
  row-from next kind l fresh new (and_f a b) h = (tt, (h.0.1, from-truth false, (h.0.2, from-truth false, tt)))
  row-from next kind l fresh new (imp_t a b) h = (tt, (h.0.1, from-truth false, (h.0.2, from-truth true, tt)))
  row-from next kind l fresh new (imp_f1 a b) h = (tt, (h.0.1, from-truth true, tt))
  row-from next kind l fresh new (imp_f2 a b) h = (tt, (h.0.2, from-truth false, tt))
  row-from next kind l fresh new (eq_t c s t) h = (tt, (h.0.1, h.0.2, tt))
  row-from next kind l fresh new (eq_f c s t) h = (tt, (h.0.1, h.0.2, tt))
  row-from next kind l fresh new (flip a v) h = (tt, (h.0, from-truth (not v), tt))
  row-from next kind l fresh new (all_t c p) h = ((h.0.0, tt), ((h.0.1, h.0.0), from-truth true, tt))
  row-from next kind l fresh new (some_f c p) h = ((h.0.0, tt), ((h.0.1, h.0.0), from-truth false, tt))

  pub normals-from : (ls : List Literal) → AreLiteralsFrom o ls → AreLiteralsFrom o (map normal_literal ls)
  normals-from [] h = tt
  normals-from (l ∷ ls) h = (from-normal_form l.left h.0, from-normal_form l.right h.1, normals-from ls h.2)

  -- where the new literals of a clause become their normal forms
  pub converted-from : (c : ClauseTree) (i : ℕ) (fresh : List SimpleType) (new : List Literal) → IsClauseFrom o (with_new c i fresh new) → IsClauseFrom o (with_new c i fresh (map normal_literal new))
  converted-from c i fresh new h =
      let front = literals-first (take i c.literals) (new ++ drop (suc i) c.literals) h.1 in
      let rest = literals-last (take i c.literals) (new ++ drop (suc i) c.literals) h.1 in (
        h.0,
        literals-append (take i c.literals) (map normal_literal new ++ drop (suc i) c.literals) front
            (literals-append (map normal_literal new) (drop (suc i) c.literals) (normals-from new (literals-first new (drop (suc i) c.literals) rest)) (literals-last new (drop (suc i) c.literals) rest)),
      )

  -- ---- chosen terms

  -- the property in a claim
  pub claim-from : (kind : LogicKind) (l : Literal) (c : SimpleType) (p : Tree) (v : Bool) → Claims kind l (value c p v) → IsTermFrom o l.left → IsTypeFrom o c × IsTermFrom o p
  claim-from kind l c p v (all_f d q) h = (h.0, h.1)
  claim-from kind l c p v (some_t d q) h = (h.0, h.1)

  chosen-from : (c : SimpleType) (p : Tree) (v : Bool) → IsTypeFrom o c → IsTermFrom o p → IsTermFrom o (chosen (value c p v))
  chosen-from c p true h g = (h, g, tt)
  chosen-from c p false h g = (h, (h, (tt, (from-lifted p 0 1 g, h), tt)), tt)

  from-if : (b : Bool) (x y : Tree) → IsTermFrom o x → IsTermFrom o y → IsTermFrom o (if b then x else y)
  from-if true x y h g = h
  from-if false x y h g = g

  from-indexed : (n : ℕ) (t : Tree) (k : ℕ) → IsTermFrom o t → IsTermFrom o (indexed n k t)
  from-indexed n (variable m a) k h = from-if (nat_eq m n) (bound k a) (variable m a) h h
  from-indexed n (bound i a) k h = h
  from-indexed n (symbol s a) k h = h
  from-indexed n (app f x) k h = (from-indexed n f k h.0, from-indexed n x k h.1)
  from-indexed n (lam a t) k h = (h.0, from-indexed n t (k + 1) h.1)
  from-indexed n (logic c x y) k h = (h.0, from-indexed n x k h.1, from-indexed n y k h.2)
  from-indexed n absent k h = tt

  from-function_of : (variables : List SimpleType) (ns : List ℕ) (t : Tree) → AreTypesFrom o variables → IsTermFrom o t → IsTermFrom o (function_of variables ns t)
  from-function_of variables [] t h g = g
  from-function_of variables (n ∷ ns) t h g = (from-type_at variables n h, from-indexed n (function_of variables ns t) 0 (from-function_of variables ns t h g))

  pub closed-from : (variables : List SimpleType) (c : SimpleType) (p : Tree) (v : Bool) → AreTypesFrom o variables → IsTypeFrom o c → IsTermFrom o p → IsTermFrom o (closed_form variables (value c p v))
  closed-from variables c p v h d g = from-function_of variables (variables_of (chosen_form (value c p v))) (chosen_form (value c p v)) h (from-normal_form (chosen (value c p v)) (chosen-from c p v d g))

  from-applied_to : (variables : List SimpleType) (ns : List ℕ) (t : Tree) → AreTypesFrom o variables → IsTermFrom o t → IsTermFrom o (applied_to t (variable_terms variables ns))
  from-applied_to variables [] t h g = g
  from-applied_to variables (n ∷ ns) t h g = from-applied_to variables ns (app t (variable n (variable_type variables n))) h (g, from-type_at variables n h)

  pub said-from : (variables : List SimpleType) (c : SimpleType) (p : Tree) (v : Bool) (k : Choice) → AreTypesFrom o variables → IsTermFrom o p → IsChoiceFrom o k → AreLiteralsFrom o (claimed (value c p v) (applied_to (symbol_of k) (chosen_arguments variables (value c p v))) ∷ [])
  said-from variables c p v k h g j = ((g, from-applied_to variables (variables_of (chosen_form (value c p v))) (symbol_of k) h (j.0, from-type_of k.term j.1)), from-truth v, tt)

  -- ---- arranged form

  from-if_literals : (b : Bool) (xs ys : List Literal) → AreLiteralsFrom o xs → AreLiteralsFrom o ys → AreLiteralsFrom o (if b then xs else ys)
  from-if_literals true xs ys h g = h
  from-if_literals false xs ys h g = g

  firsts-from : (ls seen : List Literal) → AreLiteralsFrom o seen → AreLiteralsFrom o ls → AreLiteralsFrom o (firsts same_literal seen ls)
  firsts-from [] seen s h = s
  firsts-from (l ∷ ls) seen s h = from-if_literals (list_any (same_literal l) seen) (firsts same_literal seen ls) (firsts same_literal (seen ++ l ∷ []) ls) (firsts-from ls seen s h.2) (firsts-from ls (seen ++ l ∷ []) (literals-append seen (l ∷ []) s (h.0, h.1, tt)) h.2)

  pub distinct-from : (ls : List Literal) → AreLiteralsFrom o ls → AreLiteralsFrom o (distinct ls)
  distinct-from ls h = firsts-from ls [] tt h

  from-renumbered : (order : List ℕ) (t : Tree) → IsTermFrom o t → IsTermFrom o (renumbered order t)
  from-renumbered order (variable n a) h = h
  from-renumbered order (bound i a) h = h
  from-renumbered order (symbol s a) h = h
  from-renumbered order (app f x) h = (from-renumbered order f h.0, from-renumbered order x h.1)
  from-renumbered order (lam a t) h = (h.0, from-renumbered order t h.1)
  from-renumbered order (logic c x y) h = (h.0, from-renumbered order x h.1, from-renumbered order y h.2)
  from-renumbered order absent h = tt

  renumbered-from : (order : List ℕ) (ls : List Literal) → AreLiteralsFrom o ls → AreLiteralsFrom o (map (renumbered_literal order) ls)
  renumbered-from order [] h = tt
  renumbered-from order (l ∷ ls) h = (from-renumbered order l.left h.0, from-renumbered order l.right h.1, renumbered-from order ls h.2)

  pub numbered-from : (variables : List SimpleType) (ls : List Literal) → AreTypesFrom o variables → AreLiteralsFrom o ls → IsClauseFrom o (numbered variables ls)
  numbered-from variables ls h g = (from-variable_types variables (firsts nat_eq [] (occurring_in ls)) h, renumbered-from (firsts nat_eq [] (occurring_in ls)) ls g)

  pub arranged-from : (c : ClauseTree) → IsClauseFrom o c → IsClauseFrom o (arranged c)
  arranged-from c h = numbered-from c.variables (distinct c.literals) h.0 (distinct-from c.literals h.1)

  -- the terms that are given for variables
  pub from-placed_tree : (order : List ℕ) (n : ℕ) (a : SimpleType) → IsTypeFrom o a → IsTermFrom o (placed_tree order n a)
  from-placed_tree order n a h = from-if (list_any (nat_eq n) order) (variable (place_in order n) a) (some_tree a) h (h, (h, from-truth true), tt)

  pub given-from : (f : ℕ → SimpleType → Tree) → ((n : ℕ) (a : SimpleType) → IsTypeFrom o a → IsTermFrom o (f n a)) → (types : List SimpleType) (given : List Tree) → length given ≡ length types → ((n : ℕ) (a : SimpleType) → slice_get types n ≡ Some a → slice_get given n ≡ Some (f n a)) → AreTypesFrom o types → AreTermsFrom o given
  given-from f keeps [] [] e g h = tt
  given-from f keeps [] (t ∷ given) e g h = absurd (let z : suc (length given) ≡ 0 = e in cc)
  given-from f keeps (a ∷ types) [] e g h = tt
  given-from f keeps (a ∷ types) (t ∷ given) e g h =
      let same : t ≡ f 0 a = some-value (g 0 a refl) in
      (subst (IsTermFrom o) (sym same) (keeps 0 a h.0), given-from (λ n. f (suc n)) (λ n b k. keeps (suc n) b k) types given (cc) (λ n b k. g (suc n) b k) h.1)
