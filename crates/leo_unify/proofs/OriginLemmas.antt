-- The base types and the symbols of solutions are those of the pairs.
use Rattle.std.proofs.Common.{ℕ, zero, suc, nat_eq, nat_lt, ◌≡◌, ◌+◌, ◌-◌, Bool, true, false, not, ◌&&◌, ◌||◌, List, [], ◌∷◌, ◌++◌, length, map, slice_get, Option, Some, None, refl}
use Rattle.std.specs.Prelude.{unwrap_or}
use Rattle.std.specs.Bool.{if◌then◌else◌}
use Rattle.std.specs.Option.{option_map, option_and_then}
use Rattle.leo_q0.specs.Terms.{SimpleType, base, arrow, same_type}
use Rattle.leo_terms.specs.Tree.{codomain, truth_type, Tree, variable, bound, symbol, app, lam, logic, absent, Connective, truth, falsity, negation, disjunction, conjunction, implication, equality, universal, existential, choice, connective_type, type_of, lifted, bound_opened, opened, variable_given, substituted}
use Rattle.leo_terms.specs.NormalForm.{type_size, applied, put_by, put_within, contracted, expanded, eta_long, normal_form}
use Rattle.leo_clause.specs.Sameness.{same_tree}
use Rattle.leo_clause.specs.Arranging.{place_in}
use Rattle.leo_unify.specs.Spines.{applied_head, head, is_variable, is_flex, is_rigid}
use Rattle.leo_unify.specs.Pairs.{Pair, and_pair, if_same, paired_constant, paired_arguments}
use Rattle.leo_unify.specs.Patterns.{Pattern, new_index, pattern_before, pattern_of, is_covered, rebound, abstracted}
use Rattle.leo_unify.specs.Acts.{Binding, Act, stay, replace, bind, refuse, branch, stripped, removed, bound_by, solved, stuck, taken_apart, clashing, domains, result_type, function_type, constant_domains, taken_by, applied_to, constant_with, headed, function_of, binders, fresh_values, with_head, takes_few, is_constant, imitations, projections, bindings, tried, branching, act}
use Rattle.leo_unify.specs.Search.{State, Solution, given_from, given_by, put, put_pair, with_binding, Step, rests, fails, becomes, branches, done, step_from, step_of, Finds, FindsAmong, enough, found, none, later, branched, at_end, in_turn, long_variables, start}
use Rattle.leo_unify.specs.Origins.{Origin, IsTypeFrom, AreTypesFrom, IsConstantFrom, IsTermFrom, AreTermsFrom, ArePairsFrom, AreSolutionsFrom}

module _ (o : Origin) (zero_base : o.has_base 0 ≡ true) where
  -- ---- types

  from-codomain : (a : SimpleType) → IsTypeFrom o a → IsTypeFrom o (codomain a)
  from-codomain (base n) h = h
  from-codomain (arrow a b) h = h.1

  from-connective : (c : Connective) → IsConstantFrom o c → IsTypeFrom o (connective_type c)
  from-connective (choice a) h = h
  from-connective truth h = zero_base
  from-connective falsity h = zero_base
  from-connective negation h = zero_base
  from-connective disjunction h = zero_base
  from-connective conjunction h = zero_base
  from-connective implication h = zero_base
  from-connective (equality a) h = zero_base
  from-connective (universal a) h = zero_base
  from-connective (existential a) h = zero_base

  from-type_of : (t : Tree) → IsTermFrom o t → IsTypeFrom o (type_of t)
  from-type_of (variable n a) h = h
  from-type_of (bound i a) h = h
  from-type_of (symbol s a) h = h.1
  from-type_of (app f x) h = from-codomain (type_of f) (from-type_of f h.0)
  from-type_of (lam a t) h = (h.0, from-type_of t h.1)
  from-type_of (logic c x y) h = from-connective c h.0
  from-type_of absent h = zero_base

  from-domains : (a : SimpleType) → IsTypeFrom o a → AreTypesFrom o (domains a)
  from-domains (base n) h = tt
  from-domains (arrow a b) h = (h.0, from-domains b h.1)

  from-function_type : (types : List SimpleType) (b : SimpleType) → AreTypesFrom o types → IsTypeFrom o b → IsTypeFrom o (function_type types b)
  from-function_type [] b h k = k
  from-function_type (a ∷ types) b h k = (h.0, from-function_type types b h.1 k)

  types-append : (xs ys : List SimpleType) → AreTypesFrom o xs → AreTypesFrom o ys → AreTypesFrom o (xs ++ ys)
  types-append [] ys h k = k
  types-append (x ∷ xs) ys h k = (h.0, types-append xs ys h.1 k)

  -- ---- normal forms

  from-if_index : (b : Bool) (i j : ℕ) (a : SimpleType) → IsTypeFrom o a → IsTermFrom o (if b then bound i a else bound j a)
  from-if_index true i j a h = h
  from-if_index false i j a h = h

  from-lifted : (t : Tree) (from by : ℕ) → IsTermFrom o t → IsTermFrom o (lifted from by t)
  from-lifted (variable n a) from by h = h
  from-lifted (bound i a) from by h = from-if_index (nat_lt i from) i (i + by) a h
  from-lifted (symbol s a) from by h = h
  from-lifted (app f x) from by h = (from-lifted f from by h.0, from-lifted x from by h.1)
  from-lifted (lam a t) from by h = (h.0, from-lifted t (from + 1) by h.1)
  from-lifted (logic c x y) from by h = (h.0, from-lifted x from by h.1, from-lifted y from by h.2)
  from-lifted absent from by h = tt

  from-bound_opened : (k : ℕ) (s : Tree) (i : ℕ) (a : SimpleType) → IsTermFrom o s → IsTypeFrom o a → IsTermFrom o (bound_opened k s i a)
  from-bound_opened k s i a h m = by (nat_lt i k) (nat_eq i k)
    where
      by : (x y : Bool) → IsTermFrom o (if x then bound i a else (if y then lifted 0 k s else bound (i - 1) a))
      by true y = m
      by false true = from-lifted s 0 k h
      by false false = m

  from-opened : (t : Tree) (k : ℕ) (s : Tree) → IsTermFrom o s → IsTermFrom o t → IsTermFrom o (opened k s t)
  from-opened (variable n a) k s m h = h
  from-opened (bound i a) k s m h = from-bound_opened k s i a m h
  from-opened (symbol n a) k s m h = h
  from-opened (app f x) k s m h = (from-opened f k s m h.0, from-opened x k s m h.1)
  from-opened (lam a t) k s m h = (h.0, from-opened t (k + 1) s m h.1)
  from-opened (logic c x y) k s m h = (h.0, from-opened x k s m h.1, from-opened y k s m h.2)
  from-opened absent k s m h = tt

  from-applied : (contract : Tree → Tree → Tree) → ((x t : Tree) → IsTermFrom o x → IsTermFrom o t → IsTermFrom o (contract x t)) → (f x : Tree) → IsTermFrom o f → IsTermFrom o x → IsTermFrom o (applied contract f x)
  from-applied contract keeps (lam a t) x h k = keeps x t k h.1
  from-applied contract keeps (variable n a) x h k = (h, k)
  from-applied contract keeps (bound i a) x h k = (h, k)
  from-applied contract keeps (symbol s a) x h k = (h, k)
  from-applied contract keeps (app f y) x h k = (h, k)
  from-applied contract keeps (logic c y z) x h k = (h, k)
  from-applied contract keeps absent x h k = (h, k)

  from-put_by : (contract : Tree → Tree → Tree) → ((x t : Tree) → IsTermFrom o x → IsTermFrom o t → IsTermFrom o (contract x t)) → (t : Tree) (k : ℕ) (s : Tree) → IsTermFrom o s → IsTermFrom o t → IsTermFrom o (put_by contract k s t)
  from-put_by contract keeps (variable n a) k s m h = h
  from-put_by contract keeps (bound i a) k s m h = from-bound_opened k s i a m h
  from-put_by contract keeps (symbol n a) k s m h = h
  from-put_by contract keeps (app f x) k s m h = from-applied contract keeps (put_by contract k s f) (put_by contract k s x) (from-put_by contract keeps f k s m h.0) (from-put_by contract keeps x k s m h.1)
  from-put_by contract keeps (lam a t) k s m h = (h.0, from-put_by contract keeps t (k + 1) s m h.1)
  from-put_by contract keeps (logic c x y) k s m h = (h.0, from-put_by contract keeps x k s m h.1, from-put_by contract keeps y k s m h.2)
  from-put_by contract keeps absent k s m h = tt

  from-put_within : (depth k : ℕ) (s t : Tree) → IsTermFrom o s → IsTermFrom o t → IsTermFrom o (put_within depth k s t)
  from-put_within zero k s t m h = from-opened t k s m h
  from-put_within (suc depth) k s t m h = from-put_by (put_within depth 0) (λ x u p q. from-put_within depth 0 x u p q) t k s m h

  from-expanded : (a : SimpleType) (t : Tree) → IsTypeFrom o a → IsTermFrom o t → IsTermFrom o (expanded a t)
  from-expanded (base n) t k h = h
  from-expanded (arrow a b) t k h = (k.0, from-expanded b (app (lifted 0 1 t) (expanded a (bound 0 a))) k.1 (from-lifted t 0 1 h, from-expanded a (bound 0 a) k.0 k.0))

  from-eta_long : (t : Tree) → IsTermFrom o t → IsTermFrom o (eta_long t)
  from-eta_long t h = from-expanded (type_of t) t (from-type_of t h) h

  from-normal_form : (t : Tree) → IsTermFrom o t → IsTermFrom o (normal_form t)
  from-normal_form (variable n a) h = from-eta_long (variable n a) h
  from-normal_form (bound i a) h = from-eta_long (bound i a) h
  from-normal_form (symbol s a) h = from-eta_long (symbol s a) h
  from-normal_form (app f x) h = from-applied contracted (λ y t p q. from-put_within (type_size (type_of y)) 0 y t p q) (normal_form f) (normal_form x) (from-normal_form f h.0) (from-normal_form x h.1)
  from-normal_form (lam a t) h = (h.0, from-normal_form t h.1)
  from-normal_form (logic c x y) h = from-eta_long (logic c (normal_form x) (normal_form y)) (h.0, from-normal_form x h.1, from-normal_form y h.2)
  from-normal_form absent h = tt

  -- ---- terms put in

  from-given : (given : List Tree) → AreTermsFrom o given → (n k : ℕ) (a : SimpleType) → IsTypeFrom o a → IsTermFrom o (variable_given k (slice_get given n) n a)
  from-given given g n k a h = by (slice_get given n) (listed given g n)
    where
      listed : (xs : List Tree) → AreTermsFrom o xs → (m : ℕ) (s : Tree) → slice_get xs m ≡ Some s → IsTermFrom o s
      listed [] p m s e = absurd (cc)
      listed (x ∷ xs) p zero s e = let f : x ≡ s = cc in rw (← f) p.0
      listed (x ∷ xs) p (suc m) s e = listed xs p.1 m s e

      by : (x : Option Tree) → ((s : Tree) → x ≡ Some s → IsTermFrom o s) → IsTermFrom o (variable_given k x n a)
      by None f = h
      by (Some s) f = from-lifted s 0 k (f s refl)

  from-substituted : (given : List Tree) → AreTermsFrom o given → (t : Tree) (k : ℕ) → IsTermFrom o t → IsTermFrom o (substituted given k t)
  from-substituted given g (variable n a) k h = from-given given g n k a h
  from-substituted given g (bound i a) k h = h
  from-substituted given g (symbol s a) k h = h
  from-substituted given g (app f x) k h = (from-substituted given g f k h.0, from-substituted given g x k h.1)
  from-substituted given g (lam a t) k h = (h.0, from-substituted given g t (k + 1) h.1)
  from-substituted given g (logic c x y) k h = (h.0, from-substituted given g x k h.1, from-substituted given g y k h.2)
  from-substituted given g absent k h = tt

  from-put : (given : List Tree) → AreTermsFrom o given → (t : Tree) → IsTermFrom o t → IsTermFrom o (put given t)
  from-put given g t h = from-normal_form (substituted given 0 t) (from-substituted given g t 0 h)

  from-put_terms : (given : List Tree) → AreTermsFrom o given → (ts : List Tree) → AreTermsFrom o ts → AreTermsFrom o (map (put given) ts)
  from-put_terms given g [] h = tt
  from-put_terms given g (t ∷ ts) h = (from-put given g t h.0, from-put_terms given g ts h.1)

  from-put_pairs : (given : List Tree) → AreTermsFrom o given → (ps : List Pair) → ArePairsFrom o ps → ArePairsFrom o (map (put_pair given) ps)
  from-put_pairs given g [] h = tt
  from-put_pairs given g (p ∷ ps) h = (from-put given g p.left h.0, from-put given g p.right h.1, from-put_pairs given g ps h.2)

  from-given_from : (number : ℕ) (t : Tree) (first : ℕ) (types : List SimpleType) → IsTermFrom o t → AreTypesFrom o types → AreTermsFrom o (given_from number t first types)
  from-given_from number t first [] h k = tt
  from-given_from number t first (a ∷ types) h k = (by (nat_eq first number), from-given_from number t (suc first) types h k.1)
    where
      by : (b : Bool) → IsTermFrom o (if b then t else variable first a)
      by true = h
      by false = k.0

  from-long_variables : (first : ℕ) (types : List SimpleType) → AreTypesFrom o types → AreTermsFrom o (long_variables first types)
  from-long_variables first [] h = tt
  from-long_variables first (a ∷ types) h = (from-normal_form (variable first a) h.0, from-long_variables (suc first) types h.1)

  -- ---- acts

  record IsBindingFrom (b : Binding) : Type 0 where
    fresh_from : AreTypesFrom o b.fresh
    term_from : IsTermFrom o b.term

  abbrev AreBindingsFrom : List Binding → Type 0
  AreBindingsFrom [] = Unit {0}
  AreBindingsFrom (b ∷ bs) = IsBindingFrom b × AreBindingsFrom bs

  abbrev IsActFrom : Act → Type 0
  IsActFrom stay = Unit {0}
  IsActFrom (replace ps) = ArePairsFrom o ps
  IsActFrom (bind b) = IsBindingFrom b
  IsActFrom refuse = Unit {0}
  IsActFrom (branch bs) = AreBindingsFrom bs

  abbrev IsOptionalActFrom : Option Act → Type 0
  IsOptionalActFrom None = Unit {0}
  IsOptionalActFrom (Some a) = IsActFrom a

  else-from : (x : Option Act) (a : Act) → IsOptionalActFrom x → IsActFrom a → IsActFrom (unwrap_or x a)
  else-from None a h k = k
  else-from (Some b) a h k = h

  if-from : (b : Bool) (a : Act) → IsActFrom a → IsOptionalActFrom (if b then Some a else None)
  if-from true a h = h
  if-from false a h = tt

  -- two lambdas
  stripped-from : (l r : Tree) → IsTermFrom o l → IsTermFrom o r → IsOptionalActFrom (stripped l r)
  stripped-from (lam a s) (lam b t) h k = (h.1, k.1, tt)
  stripped-from (lam a s) (variable n b) h k = tt
  stripped-from (lam a s) (bound n b) h k = tt
  stripped-from (lam a s) (symbol n b) h k = tt
  stripped-from (lam a s) (app f x) h k = tt
  stripped-from (lam a s) (logic c x y) h k = tt
  stripped-from (lam a s) absent h k = tt
  stripped-from (variable n b) r h k = tt
  stripped-from (bound n b) r h k = tt
  stripped-from (symbol n b) r h k = tt
  stripped-from (app f x) r h k = tt
  stripped-from (logic c x y) r h k = tt
  stripped-from absent r h k = tt

  -- a variable with different indices
  from-rebound : (order : List ℕ) (t : Tree) (depth : ℕ) → IsTermFrom o t → IsTermFrom o (rebound order depth t)
  from-rebound order (variable n a) depth h = h
  from-rebound order (bound i a) depth h = from-if_index (nat_lt i depth) i (depth + place_in order (i - depth)) a h
  from-rebound order (symbol s a) depth h = h
  from-rebound order (app f x) depth h = (from-rebound order f depth h.0, from-rebound order x depth h.1)
  from-rebound order (lam a t) depth h = (h.0, from-rebound order t (depth + 1) h.1)
  from-rebound order (logic c x y) depth h = (h.0, from-rebound order x depth h.1, from-rebound order y depth h.2)
  from-rebound order absent depth h = tt

  from-abstracted : (types : List SimpleType) (t : Tree) → AreTypesFrom o types → IsTermFrom o t → IsTermFrom o (abstracted types t)
  from-abstracted [] t h k = k
  from-abstracted (a ∷ types) t h k = from-abstracted types (lam a t) h.1 (h.0, k)

  pattern-from : (t : Tree) (order : List ℕ) (types : List SimpleType) (p : Pattern) → IsTermFrom o t → AreTypesFrom o types → pattern_before order types t ≡ Some p → AreTypesFrom o p.types
  pattern-from (variable n a) order types p h k e = let f : record { number = n; order = order; types = types } ≡ p = cc in rw (← f) k
  pattern-from (app f x) order types p h k e = by (λ i r. pattern-from f (order ++ i ∷ []) (types ++ type_of x ∷ []) p h.0 (types-append types (type_of x ∷ []) k (from-type_of x h.1, tt)) r) (new_index order x) e
    where
      by : ((i : ℕ) → pattern_before (order ++ i ∷ []) (types ++ type_of x ∷ []) f ≡ Some p → AreTypesFrom o p.types) → (q : Option ℕ) → option_and_then (λ (i : ℕ). pattern_before (order ++ i ∷ []) (types ++ type_of x ∷ []) f) q ≡ Some p → AreTypesFrom o p.types
      by next None e = absurd (cc)
      by next (Some i) e = next i e
  pattern-from (bound i a) order types p h k e = absurd (cc)
  pattern-from (symbol n a) order types p h k e = absurd (cc)
  pattern-from (lam a t) order types p h k e = absurd (cc)
  pattern-from (logic c x y) order types p h k e = absurd (cc)
  pattern-from absent order types p h k e = absurd (cc)

  solved-from : (t u : Tree) → IsTermFrom o t → IsTermFrom o u → IsOptionalActFrom (solved t u)
  solved-from t u h k = by (pattern_of t) refl
    where
      by : (q : Option Pattern) → pattern_of t ≡ q → IsOptionalActFrom (option_and_then (bound_by u) q)
      by None e = tt
      by (Some p) e = if-from (is_covered p.number p.order 0 u) (bind (record { number = p.number; fresh = []; term = abstracted p.types (rebound p.order 0 u) })) (record { fresh_from = tt; term_from = from-abstracted p.types (rebound p.order 0 u) (pattern-from t [] [] p h tt e) (from-rebound p.order u 0 k) })

  -- the pairs of arguments
  pairs-append : (ps qs : List Pair) → ArePairsFrom o ps → ArePairsFrom o qs → ArePairsFrom o (ps ++ qs)
  pairs-append [] qs h k = k
  pairs-append (p ∷ ps) qs h k = (h.0, h.1, pairs-append ps qs h.2 k)

  abbrev AreOptionalPairsFrom : Option (List Pair) → Type 0
  AreOptionalPairsFrom None = Unit {0}
  AreOptionalPairsFrom (Some ps) = ArePairsFrom o ps

  if-pairs : (b : Bool) (ps : List Pair) → ArePairsFrom o ps → AreOptionalPairsFrom (if_same b ps)
  if-pairs true ps h = h
  if-pairs false ps h = tt

  and-pairs : (x y : Tree) (q : Option (List Pair)) → IsTermFrom o x → IsTermFrom o y → AreOptionalPairsFrom q → AreOptionalPairsFrom (option_map (and_pair x y) q)
  and-pairs x y None h k m = tt
  and-pairs x y (Some ps) h k m = pairs-append ps ((record { left = x; right = y }) ∷ []) m (h, k, tt)

  constant-from : (c d : Connective) (p q : Tree) → IsTermFrom o p → IsTermFrom o q → AreOptionalPairsFrom (paired_constant c p d q)
  constant-from (choice a) (choice b) p q h k = if-pairs (same_type a b) ((record { left = p; right = q }) ∷ []) (h, k, tt)
  constant-from (choice a) truth p q h k = tt
  constant-from (choice a) falsity p q h k = tt
  constant-from (choice a) negation p q h k = tt
  constant-from (choice a) disjunction p q h k = tt
  constant-from (choice a) conjunction p q h k = tt
  constant-from (choice a) implication p q h k = tt
  constant-from (choice a) (equality b) p q h k = tt
  constant-from (choice a) (universal b) p q h k = tt
  constant-from (choice a) (existential b) p q h k = tt
  constant-from truth d p q h k = tt
  constant-from falsity d p q h k = tt
  constant-from negation d p q h k = tt
  constant-from disjunction d p q h k = tt
  constant-from conjunction d p q h k = tt
  constant-from implication d p q h k = tt
  constant-from (equality a) d p q h k = tt
  constant-from (universal a) d p q h k = tt
  constant-from (existential a) d p q h k = tt

  arguments-from : (l r : Tree) → IsTermFrom o l → IsTermFrom o r → AreOptionalPairsFrom (paired_arguments l r)
  arguments-from (app f x) (app g y) h k = and-pairs x y (paired_arguments f g) h.1 k.1 (arguments-from f g h.0 k.0)
  arguments-from (symbol m a) (symbol n b) h k = if-pairs (nat_eq m n && same_type a b) [] tt
  arguments-from (bound m a) (bound n b) h k = if-pairs (nat_eq m n && same_type a b) [] tt
  arguments-from (logic c p x) (logic d q y) h k = constant-from c d p q h.1 k.1
  arguments-from (variable n a) r h k = tt
  arguments-from (lam a t) r h k = tt
  arguments-from absent r h k = tt
  arguments-from (app f x) (variable n a) h k = tt
  arguments-from (app f x) (bound n a) h k = tt
  arguments-from (app f x) (symbol n a) h k = tt
  arguments-from (app f x) (lam a t) h k = tt
  arguments-from (app f x) (logic c y z) h k = tt
  arguments-from (app f x) absent h k = tt
  arguments-from (symbol m a) (variable n b) h k = tt
  arguments-from (symbol m a) (bound n b) h k = tt
  arguments-from (symbol m a) (app g y) h k = tt
  arguments-from (symbol m a) (lam b t) h k = tt
  arguments-from (symbol m a) (logic c y z) h k = tt
  arguments-from (symbol m a) absent h k = tt
  arguments-from (bound m a) (variable n b) h k = tt
  arguments-from (bound m a) (symbol n b) h k = tt
  arguments-from (bound m a) (app g y) h k = tt
  arguments-from (bound m a) (lam b t) h k = tt
  arguments-from (bound m a) (logic c y z) h k = tt
  arguments-from (bound m a) absent h k = tt
  arguments-from (logic c p x) (variable n b) h k = tt
  arguments-from (logic c p x) (bound n b) h k = tt
  arguments-from (logic c p x) (symbol n b) h k = tt
  arguments-from (logic c p x) (app g y) h k = tt
  arguments-from (logic c p x) (lam b t) h k = tt
  arguments-from (logic c p x) absent h k = tt

  apart-from : (l r : Tree) → IsTermFrom o l → IsTermFrom o r → IsOptionalActFrom (taken_apart l r)
  apart-from l r h k = by (paired_arguments l r) (arguments-from l r h k)
    where
      by : (q : Option (List Pair)) → AreOptionalPairsFrom q → IsOptionalActFrom (option_map replace q)
      by None m = tt
      by (Some ps) m = m

  -- ---- guesses

  from-applied_to : (xs : List Tree) (t : Tree) → IsTermFrom o t → AreTermsFrom o xs → IsTermFrom o (applied_to t xs)
  from-applied_to [] t h k = h
  from-applied_to (x ∷ xs) t h k = from-applied_to xs (app t x) (h, k.0) k.1

  from-constant_with : (c : Connective) (xs : List Tree) → IsConstantFrom o c → AreTermsFrom o xs → IsTermFrom o (constant_with c xs)
  from-constant_with truth xs h k = from-applied_to xs (logic truth absent absent) (tt, tt, tt) k
  from-constant_with falsity xs h k = from-applied_to xs (logic falsity absent absent) (tt, tt, tt) k
  from-constant_with negation [] h k = tt
  from-constant_with negation (x ∷ xs) h k = from-applied_to xs (logic negation x absent) (tt, k.0, tt) k.1
  from-constant_with disjunction [] h k = tt
  from-constant_with disjunction (x ∷ []) h k = tt
  from-constant_with disjunction (x ∷ y ∷ xs) h k = from-applied_to xs (logic disjunction x y) (tt, k.0, k.1.0) k.1.1
  from-constant_with conjunction [] h k = tt
  from-constant_with conjunction (x ∷ []) h k = tt
  from-constant_with conjunction (x ∷ y ∷ xs) h k = from-applied_to xs (logic conjunction x y) (tt, k.0, k.1.0) k.1.1
  from-constant_with implication [] h k = tt
  from-constant_with implication (x ∷ []) h k = tt
  from-constant_with implication (x ∷ y ∷ xs) h k = from-applied_to xs (logic implication x y) (tt, k.0, k.1.0) k.1.1
  from-constant_with (equality a) [] h k = tt
  from-constant_with (equality a) (x ∷ []) h k = tt
  from-constant_with (equality a) (x ∷ y ∷ xs) h k = from-applied_to xs (logic (equality a) x y) (h, k.0, k.1.0) k.1.1
  from-constant_with (universal a) [] h k = tt
  from-constant_with (universal a) (x ∷ xs) h k = from-applied_to xs (logic (universal a) x absent) (h, k.0, tt) k.1
  from-constant_with (existential a) [] h k = tt
  from-constant_with (existential a) (x ∷ xs) h k = from-applied_to xs (logic (existential a) x absent) (h, k.0, tt) k.1
  from-constant_with (choice a) [] h k = tt
  from-constant_with (choice a) (x ∷ xs) h k = from-applied_to xs (logic (choice a) x absent) (h, k.0, tt) k.1

  from-headed : (h : Tree) (xs : List Tree) → IsTermFrom o h → AreTermsFrom o xs → IsTermFrom o (headed h xs)
  from-headed (logic c x y) xs h k = from-constant_with c xs h.0 k
  from-headed (variable n a) xs h k = from-applied_to xs (variable n a) h k
  from-headed (bound i a) xs h k = from-applied_to xs (bound i a) h k
  from-headed (symbol s a) xs h k = from-applied_to xs (symbol s a) h k
  from-headed (app f x) xs h k = tt
  from-headed (lam a t) xs h k = tt
  from-headed absent xs h k = tt

  from-constant_domains : (c : Connective) → IsConstantFrom o c → AreTypesFrom o (constant_domains c)
  from-constant_domains truth h = tt
  from-constant_domains falsity h = tt
  from-constant_domains negation h = (zero_base, tt)
  from-constant_domains disjunction h = (zero_base, (zero_base, tt))
  from-constant_domains conjunction h = (zero_base, (zero_base, tt))
  from-constant_domains implication h = (zero_base, (zero_base, tt))
  from-constant_domains (equality a) h = (h, (h, tt))
  from-constant_domains (universal a) h = ((h, zero_base), tt)
  from-constant_domains (existential a) h = ((h, zero_base), tt)
  from-constant_domains (choice a) h = ((h, zero_base), tt)

  from-taken_by : (h : Tree) → IsTermFrom o h → AreTypesFrom o (taken_by h)
  from-taken_by (variable n a) h = from-domains a h
  from-taken_by (bound i a) h = from-domains a h
  from-taken_by (symbol s a) h = from-domains a h.1
  from-taken_by (logic c x y) h = types-append (constant_domains c) (domains (connective_type c)) (from-constant_domains c h.0) (from-domains (connective_type c) (from-connective c h.0))
  from-taken_by (app f x) h = tt
  from-taken_by (lam a t) h = tt
  from-taken_by absent h = tt

  from-function_of : (types : List SimpleType) (t : Tree) → AreTypesFrom o types → IsTermFrom o t → IsTermFrom o (function_of types t)
  from-function_of [] t h k = k
  from-function_of (a ∷ types) t h k = (h.0, from-function_of types t h.1 k)

  from-binders : (types : List SimpleType) → AreTypesFrom o types → AreTermsFrom o (binders types)
  from-binders [] h = tt
  from-binders (a ∷ types) h = (h.0, from-binders types h.1)

  from-fresh_values : (outer : List SimpleType) (next : ℕ) (types : List SimpleType) → AreTypesFrom o outer → AreTypesFrom o types → AreTermsFrom o (fresh_values outer next types)
  from-fresh_values outer next [] h k = tt
  from-fresh_values outer next (b ∷ types) h k = (from-applied_to (binders outer) (variable next (function_type outer b)) (from-function_type outer b h k.0) (from-binders outer h), from-fresh_values outer (suc next) types h k.1)

  from-fresh_types : (outer types : List SimpleType) → AreTypesFrom o outer → AreTypesFrom o types → AreTypesFrom o (map (function_type outer) types)
  from-fresh_types outer [] h k = tt
  from-fresh_types outer (b ∷ types) h k = (from-function_type outer b h k.0, from-fresh_types outer types h k.1)

  with_head-from : (number : ℕ) (outer : List SimpleType) (next : ℕ) (h : Tree) → AreTypesFrom o outer → IsTermFrom o h → IsBindingFrom (with_head number outer next h)
  with_head-from number outer next h k m = record {
    fresh_from = from-fresh_types outer (taken_by h) k (from-taken_by h m);
    term_from = from-function_of outer (headed h (fresh_values outer next (taken_by h))) k (from-headed h (fresh_values outer next (taken_by h)) m (from-fresh_values outer next (taken_by h) k (from-taken_by h m)));
  }

  if-listed : (b : Bool) (x : Binding) → IsBindingFrom x → AreBindingsFrom (if b then x ∷ [] else [])
  if-listed true x h = (h, tt)
  if-listed false x h = tt

  bindings-append : (xs ys : List Binding) → AreBindingsFrom xs → AreBindingsFrom ys → AreBindingsFrom (xs ++ ys)
  bindings-append [] ys h k = k
  bindings-append (x ∷ xs) ys h k = (h.0, bindings-append xs ys h.1 k)

  projections-from : (number : ℕ) (outer : List SimpleType) (next : ℕ) (result : SimpleType) (xs : List Tree) → AreTypesFrom o outer → AreTermsFrom o xs → AreBindingsFrom (projections number outer next result xs)
  projections-from number outer next result [] h k = tt
  projections-from number outer next result (x ∷ xs) h k =
      bindings-append (if same_type (result_type (type_of x)) result && takes_few x then with_head number outer next x ∷ [] else []) (projections number outer next result xs)
      (if-listed (same_type (result_type (type_of x)) result && takes_few x) (with_head number outer next x) (with_head-from number outer next x h k.0)) (projections-from number outer next result xs h k.1)

  bindings-from : (number : ℕ) (a : SimpleType) (next : ℕ) (h : Tree) → IsTypeFrom o a → IsTermFrom o h → AreBindingsFrom (bindings number a next h)
  bindings-from number a next h k m =
      bindings-append (imitations number (domains a) next h) (projections number (domains a) next (result_type a) (binders (domains a)))
      (if-listed (is_constant h && takes_few h) (with_head number (domains a) next h) (with_head-from number (domains a) next h (from-domains a k) m)) (projections-from number (domains a) next (result_type a) (binders (domains a)) (from-domains a k) (from-binders (domains a) (from-domains a k)))

  tried-from : (next depth : ℕ) (t h : Tree) → IsTermFrom o t → IsTermFrom o h → IsActFrom (tried next depth t h)
  tried-from next depth (variable n a) h k m = by (nat_eq depth 0 || nat_lt_eight)
    where
      nat_lt_eight : Bool
      nat_lt_eight = nat_lt 8 (length (domains a))

      by : (b : Bool) → IsActFrom (if b then refuse else branch (bindings n a next h))
      by true = tt
      by false = bindings-from n a next h k m
  tried-from next depth (bound i a) h k m = tt
  tried-from next depth (symbol s a) h k m = tt
  tried-from next depth (app f x) h k m = tt
  tried-from next depth (lam a t) h k m = tt
  tried-from next depth (logic c x y) h k m = tt
  tried-from next depth absent h k m = tt

  from-applied_head : (t : Tree) → IsTermFrom o t → IsTermFrom o (applied_head t)
  from-applied_head (app f x) h = from-applied_head f h.0
  from-applied_head (variable n a) h = h
  from-applied_head (bound i a) h = h
  from-applied_head (symbol s a) h = h
  from-applied_head (lam a t) h = h
  from-applied_head (logic c x y) h = h
  from-applied_head absent h = tt

  from-head : (t : Tree) → IsTermFrom o t → IsTermFrom o (head t)
  from-head (lam a t) h = from-head t h.1
  from-head (variable n a) h = h
  from-head (bound i a) h = h
  from-head (symbol s a) h = h
  from-head (app f x) h = from-applied_head (app f x) h
  from-head (logic c x y) h = h
  from-head absent h = tt

  branching-from : (next depth : ℕ) (l r : Tree) → IsTermFrom o l → IsTermFrom o r → IsOptionalActFrom (branching next depth l r)
  branching-from next depth l r h k = by (is_flex l) (is_flex r)
    where
      by : (x y : Bool) → IsOptionalActFrom (if x && not y then Some (tried next depth (head l) (head r)) else (if not x && y then Some (tried next depth (head r) (head l)) else None))
      by true false = tried-from next depth (head l) (head r) (from-head l h) (from-head r k)
      by false true = tried-from next depth (head r) (head l) (from-head r k) (from-head l h)
      by true true = tt
      by false false = tt

  act-from : (next depth : ℕ) (l r : Tree) → IsTermFrom o l → IsTermFrom o r → IsActFrom (act next depth l r)
  act-from next depth l r h k =
      else-from (stripped l r) _ (stripped-from l r h k)
      (else-from (removed l r) _ (if-from (same_tree l r) (replace []) tt)
      (else-from (solved l r) _ (solved-from l r h k)
      (else-from (solved r l) _ (solved-from r l k h)
      (else-from (stuck l r) _ (if-from (is_variable l || is_variable r) refuse tt)
      (else-from (taken_apart l r) _ (apart-from l r h k)
      (else-from (clashing l r) _ (if-from (is_rigid l && (is_rigid r && not (same_type (type_of l) truth_type))) refuse tt)
      (else-from (branching next depth l r) stay (branching-from next depth l r h k) tt)))))))

  -- ---- steps

  record IsStateFrom (s : State) : Type 0 where
    types_from : AreTypesFrom o s.variables
    terms_from : AreTermsFrom o s.terms
    pairs_from : ArePairsFrom o s.pairs

  abbrev AreStatesFrom : List State → Type 0
  AreStatesFrom [] = Unit {0}
  AreStatesFrom (s ∷ ss) = IsStateFrom s × AreStatesFrom ss

  abbrev IsStepFrom : Step → Type 0
  IsStepFrom rests = Unit {0}
  IsStepFrom fails = Unit {0}
  IsStepFrom (becomes s) = IsStateFrom s
  IsStepFrom (branches ss) = AreStatesFrom ss

  bound-from : (s : State) (depth : ℕ) (b : Binding) → IsStateFrom s → IsBindingFrom b → IsStateFrom (with_binding s depth b)
  bound-from s depth b h k =
      let types = types-append s.variables b.fresh h.types_from k.fresh_from in
      let given = from-given_from b.number b.term 0 (s.variables ++ b.fresh) k.term_from types in
      record {
        types_from = types;
        terms_from = from-put_terms (given_by b (s.variables ++ b.fresh)) given s.terms h.terms_from;
        pairs_from = from-put_pairs (given_by b (s.variables ++ b.fresh)) given s.pairs h.pairs_from;
      }

  all-bound : (s : State) (depth : ℕ) (bs : List Binding) → IsStateFrom s → AreBindingsFrom bs → AreStatesFrom (map (with_binding s depth) bs)
  all-bound s depth [] h k = tt
  all-bound s depth (b ∷ bs) h k = (bound-from s depth b h k.0, all-bound s depth bs h k.1)

  done-from : (s : State) (a : Act) (before behind : List Pair) (other : Step) → IsStateFrom s → IsActFrom a → ArePairsFrom o before → ArePairsFrom o behind → IsStepFrom other → IsStepFrom (done s a before behind other)
  done-from s stay before behind other h k p q m = m
  done-from s (replace new) before behind other h k p q m = record { types_from = h.types_from; terms_from = h.terms_from; pairs_from = pairs-append before (new ++ behind) p (pairs-append new behind k q) }
  done-from s (bind b) before behind other h k p q m = bound-from s s.depth b h k
  done-from s refuse before behind other h k p q m = tt
  done-from s (branch bs) before behind other h k p q m = all-bound s (s.depth - 1) bs h k

  step_from-from : (s : State) (before pairs : List Pair) → IsStateFrom s → ArePairsFrom o before → ArePairsFrom o pairs → IsStepFrom (step_from s before pairs)
  step_from-from s before [] h p q = tt
  step_from-from s before (x ∷ behind) h p q =
      done-from s (act (length s.variables) s.depth x.left x.right) before behind (step_from s (before ++ x ∷ []) behind) h (act-from (length s.variables) s.depth x.left x.right q.0 q.1) p q.2
      (step_from-from s (before ++ x ∷ []) behind h (pairs-append before (x ∷ []) p (q.0, q.1, tt)) q.2)

  step-from : (s : State) → IsStateFrom s → IsStepFrom (step_of s)
  step-from s h = step_from-from s [] s.pairs h tt h.pairs_from

  -- ---- solutions

  solutions-append : (xs ys : List Solution) → AreSolutionsFrom o xs → AreSolutionsFrom o ys → AreSolutionsFrom o (xs ++ ys)
  solutions-append [] ys h k = k
  solutions-append (x ∷ xs) ys h k = (h.0, h.1, solutions-append xs ys h.2 k)

  mutual
    finds-from : (n : ℕ) (s : State) (xs : List Solution) → Finds n s xs → IsStateFrom s → AreSolutionsFrom o xs
    finds-from _ _ _ (enough s) h = tt
    finds-from _ _ _ (found n s e) h = (h.types_from, h.terms_from, tt)
    finds-from _ _ _ (none n s e) h = tt
    finds-from _ _ _ (later n s t xs e f) h = finds-from n t xs f (rw e at (step-from s h))
    finds-from _ _ _ (branched n s ss xs e f) h = among-from n ss xs f (rw e at (step-from s h))

    among-from : (n : ℕ) (ss : List State) (xs : List Solution) → FindsAmong n ss xs → AreStatesFrom ss → AreSolutionsFrom o xs
    among-from _ _ _ (at_end n) h = tt
    among-from _ _ _ (in_turn n s ss xs ys f g) h = solutions-append xs ys (finds-from n s xs f h.0) (among-from (n - length xs) ss ys g h.1)

pub solutions-from : (n : ℕ) (variables : List SimpleType) (pairs : List Pair) (depth : ℕ) (solutions : List Solution) → Finds n (start variables pairs depth) solutions → (o : Origin) → o.has_base 0 ≡ true → AreTypesFrom o variables → ArePairsFrom o pairs → AreSolutionsFrom o solutions
solutions-from n variables pairs depth solutions f o z v p = finds-from o z n (start variables pairs depth) solutions f (record { types_from = v; terms_from = from-long_variables o z 0 variables v; pairs_from = p })
