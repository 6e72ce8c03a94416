-- What a variable becomes by a guess has its type, and stands over the variables so far and the fresh ones.
use Rattle.std.proofs.Common.{ℕ, suc, nat_eq, nat_lt, ◌≡◌, ◌∙◌, ◌+◌, ◌<◌, ◌≤◌, Bool, true, false, not, ◌&&◌, ◌||◌, List, [], ◌∷◌, ◌++◌, length, map, slice_get, Some, None, refl, sym, ap, arith}
use Rattle.std.specs.Prelude.{unwrap_or}
use Rattle.std.specs.Bool.{if◌then◌else◌}
use Rattle.std.proofs.lemmas.Bool.{and_parts}
use Rattle.leo_q0.specs.Terms.{SimpleType, base, arrow, same_type}
use Rattle.leo_q0.proofs.Variables.{equal_types}
use Rattle.leo_terms.specs.Tree.{codomain, truth_type, Tree, variable, bound, symbol, app, lam, logic, absent, Connective, truth, falsity, negation, disjunction, conjunction, implication, equality, universal, existential, choice, connective_type, type_of, IsBoundAt}
use Rattle.leo_terms.specs.Typing.{IsWellTyped}
use Rattle.leo_clause.specs.Typed.{IsOver}
use Rattle.leo_unify.specs.Spines.{applied_head, head, is_flex}
use Rattle.leo_unify.specs.Acts.{Binding, stay, refuse, branch, domains, result_type, function_type, constant_domains, taken_by, applied_to, constant_with, headed, function_of, binders, fresh_values, with_head, takes_few, is_constant, imitations, projections, bindings, tried, branching}
use Rattle.leo_unify.specs.Heads.{is_head, AreIndexed, IsIndexedHead}
use Rattle.leo_unify.specs.Contexts.{IsBindingIn, AreBindingsIn, IsActIn}
use Rattle.leo_unify.proofs.Places.{get-mapped}

-- ---- types

pub function-of_type : (a : SimpleType) → function_type (domains a) (result_type a) ≡ a
function-of_type (base n) = refl
function-of_type (arrow a b) = ap (arrow a) (function-of_type b)

pub type_of-applied : (xs : List Tree) (t : Tree) (b : SimpleType) → type_of t ≡ function_type (map type_of xs) b → type_of (applied_to t xs) ≡ b
type_of-applied [] t b e = e
type_of-applied (x ∷ xs) t b e = type_of-applied xs (app t x) b (ap codomain e)

pub types-binders : (types : List SimpleType) → map type_of (binders types) ≡ types
types-binders [] = refl
types-binders (a ∷ types) = ap (λ (ts : List SimpleType). a ∷ ts) (types-binders types)

pub types-fresh : (outer : List SimpleType) (next : ℕ) (types : List SimpleType) → map type_of (fresh_values outer next types) ≡ types
types-fresh outer next [] = refl
types-fresh outer next (b ∷ types) =
    let v : type_of (applied_to (variable next (function_type outer b)) (binders outer)) ≡ b = type_of-applied (binders outer) (variable next (function_type outer b)) b (rw (types-binders outer) refl) in
    rw (v, types-fresh outer (suc next) types) refl

pub type_of-function : (outer : List SimpleType) (t : Tree) → type_of (function_of outer t) ≡ function_type outer (type_of t)
type_of-function [] t = refl
type_of-function (a ∷ outer) t = ap (arrow a) (type_of-function outer t)

-- a term of a type whose arguments are all given
whole-applied : (t : Tree) (xs : List Tree) (a : SimpleType) → type_of t ≡ a → map type_of xs ≡ domains a → type_of (applied_to t xs) ≡ result_type a
whole-applied t xs a e f = type_of-applied xs t (result_type a) (e ∙ sym (function-of_type a) ∙ ap (λ (ts : List SimpleType). function_type ts (result_type a)) (sym f))

tail-same : {X : Type 0} (x y : X) (xs ys : List X) → x ∷ xs ≡ y ∷ ys → xs ≡ ys
tail-same x y xs ys e = cc

type_of-constant : (c : Connective) (xs : List Tree) → map type_of xs ≡ constant_domains c ++ domains (connective_type c) → type_of (constant_with c xs) ≡ result_type (connective_type c)
type_of-constant truth xs e = whole-applied (logic truth absent absent) xs truth_type refl e
type_of-constant falsity xs e = whole-applied (logic falsity absent absent) xs truth_type refl e
type_of-constant negation [] e = absurd (cc)
type_of-constant negation (x ∷ xs) e = whole-applied (logic negation x absent) xs truth_type refl (tail-same _ _ _ _ e)
type_of-constant disjunction [] e = absurd (cc)
type_of-constant disjunction (x ∷ []) e = absurd (cc)
type_of-constant disjunction (x ∷ y ∷ xs) e = whole-applied (logic disjunction x y) xs truth_type refl (tail-same _ _ _ _ (tail-same _ _ _ _ e))
type_of-constant conjunction [] e = absurd (cc)
type_of-constant conjunction (x ∷ []) e = absurd (cc)
type_of-constant conjunction (x ∷ y ∷ xs) e = whole-applied (logic conjunction x y) xs truth_type refl (tail-same _ _ _ _ (tail-same _ _ _ _ e))
type_of-constant implication [] e = absurd (cc)
type_of-constant implication (x ∷ []) e = absurd (cc)
type_of-constant implication (x ∷ y ∷ xs) e = whole-applied (logic implication x y) xs truth_type refl (tail-same _ _ _ _ (tail-same _ _ _ _ e))
type_of-constant (equality a) [] e = absurd (cc)
type_of-constant (equality a) (x ∷ []) e = absurd (cc)
type_of-constant (equality a) (x ∷ y ∷ xs) e = whole-applied (logic (equality a) x y) xs truth_type refl (tail-same _ _ _ _ (tail-same _ _ _ _ e))
type_of-constant (universal a) [] e = absurd (cc)
type_of-constant (universal a) (x ∷ xs) e = whole-applied (logic (universal a) x absent) xs truth_type refl (tail-same _ _ _ _ e)
type_of-constant (existential a) [] e = absurd (cc)
type_of-constant (existential a) (x ∷ xs) e = whole-applied (logic (existential a) x absent) xs truth_type refl (tail-same _ _ _ _ e)
type_of-constant (choice a) [] e = absurd (cc)
type_of-constant (choice a) (x ∷ xs) e = whole-applied (logic (choice a) x absent) xs a refl (tail-same _ _ _ _ e)

pub type_of-headed : (h : Tree) (xs : List Tree) → is_head h ≡ true → map type_of xs ≡ taken_by h → type_of (headed h xs) ≡ result_type (type_of h)
type_of-headed (variable n a) xs k e = whole-applied (variable n a) xs a refl e
type_of-headed (bound i a) xs k e = whole-applied (bound i a) xs a refl e
type_of-headed (symbol s a) xs k e = whole-applied (symbol s a) xs a refl e
type_of-headed (logic c x y) xs k e = type_of-constant c xs e
type_of-headed (app f x) xs k e = absurd (cc)
type_of-headed (lam a t) xs k e = absurd (cc)
type_of-headed absent xs k e = absurd (cc)

-- ---- variables and indices

abbrev pub AllOver : List SimpleType → ℕ → List Tree → Type 0
AllOver vs d [] = Unit {0}
AllOver vs d (x ∷ xs) = IsOver vs d x × AllOver vs d xs

over-applied : (vs : List SimpleType) (d : ℕ) (xs : List Tree) (t : Tree) → IsOver vs d t → AllOver vs d xs → IsOver vs d (applied_to t xs)
over-applied vs d [] t h k = h
over-applied vs d (x ∷ xs) t h k = over-applied vs d xs (app t x) (h, k.0) k.1

over-binders : (vs types : List SimpleType) (d : ℕ) → length types ≤ d → AllOver vs d (binders types)
over-binders vs [] d l = tt
over-binders vs (a ∷ types) d l = (omega arith, over-binders vs types d (omega arith))

over-fresh : (vs outer types : List SimpleType) (next : ℕ) → ((i : ℕ) (b : SimpleType) → slice_get types i ≡ Some b → slice_get vs (next + i) ≡ Some (function_type outer b)) → AllOver vs (length outer) (fresh_values outer next types)
over-fresh vs outer [] next h = tt
over-fresh vs outer (b ∷ types) next h =
    let z : next + 0 ≡ next = omega arith in
    let k : slice_get vs next ≡ Some (function_type outer b) = rw z at (h 0 b refl) in
    (over-applied vs (length outer) (binders outer) (variable next (function_type outer b)) k (over-binders vs outer (length outer) (omega arith)), over-fresh vs outer types (suc next) (λ i a g. let y : next + suc i ≡ suc next + i = omega arith in rw y at (h (suc i) a g)))

over-constant : (vs : List SimpleType) (d : ℕ) (c : Connective) (xs : List Tree) → AllOver vs d xs → IsOver vs d (constant_with c xs)
over-constant vs d truth xs h = over-applied vs d xs (logic truth absent absent) (tt, tt) h
over-constant vs d falsity xs h = over-applied vs d xs (logic falsity absent absent) (tt, tt) h
over-constant vs d negation [] h = tt
over-constant vs d negation (x ∷ xs) h = over-applied vs d xs (logic negation x absent) (h.0, tt) h.1
over-constant vs d disjunction [] h = tt
over-constant vs d disjunction (x ∷ []) h = tt
over-constant vs d disjunction (x ∷ y ∷ xs) h = over-applied vs d xs (logic disjunction x y) (h.0, h.1.0) h.1.1
over-constant vs d conjunction [] h = tt
over-constant vs d conjunction (x ∷ []) h = tt
over-constant vs d conjunction (x ∷ y ∷ xs) h = over-applied vs d xs (logic conjunction x y) (h.0, h.1.0) h.1.1
over-constant vs d implication [] h = tt
over-constant vs d implication (x ∷ []) h = tt
over-constant vs d implication (x ∷ y ∷ xs) h = over-applied vs d xs (logic implication x y) (h.0, h.1.0) h.1.1
over-constant vs d (equality a) [] h = tt
over-constant vs d (equality a) (x ∷ []) h = tt
over-constant vs d (equality a) (x ∷ y ∷ xs) h = over-applied vs d xs (logic (equality a) x y) (h.0, h.1.0) h.1.1
over-constant vs d (universal a) [] h = tt
over-constant vs d (universal a) (x ∷ xs) h = over-applied vs d xs (logic (universal a) x absent) (h.0, tt) h.1
over-constant vs d (existential a) [] h = tt
over-constant vs d (existential a) (x ∷ xs) h = over-applied vs d xs (logic (existential a) x absent) (h.0, tt) h.1
over-constant vs d (choice a) [] h = tt
over-constant vs d (choice a) (x ∷ xs) h = over-applied vs d xs (logic (choice a) x absent) (h.0, tt) h.1

-- a head that may stand under this many lambdas: the arguments of a logical constant do not come with it
abbrev pub IsHeadBelow : ℕ → Tree → Type 0
IsHeadBelow d (bound i a) = i < d
IsHeadBelow d (symbol s a) = Unit {0}
IsHeadBelow d (logic c x y) = Unit {0}
IsHeadBelow d (variable n a) = ⊥
IsHeadBelow d (app f x) = ⊥
IsHeadBelow d (lam a t) = ⊥
IsHeadBelow d absent = ⊥

below-head : (d : ℕ) (h : Tree) → IsHeadBelow d h → is_head h ≡ true
below-head d (bound i a) k = refl
below-head d (symbol s a) k = refl
below-head d (logic c x y) k = refl
below-head d (variable n a) k = refl
below-head d (app f x) k = absurd k
below-head d (lam a t) k = absurd k
below-head d absent k = absurd k

over-headed : (vs : List SimpleType) (d : ℕ) (h : Tree) (xs : List Tree) → IsHeadBelow d h → AllOver vs d xs → IsOver vs d (headed h xs)
over-headed vs d (bound i a) xs k h = over-applied vs d xs (bound i a) k h
over-headed vs d (symbol s a) xs k h = over-applied vs d xs (symbol s a) tt h
over-headed vs d (logic c x y) xs k h = over-constant vs d c xs h
over-headed vs d (variable n a) xs k h = absurd k
over-headed vs d (app f x) xs k h = absurd k
over-headed vs d (lam a t) xs k h = absurd k
over-headed vs d absent xs k h = absurd k

over-function : (vs types : List SimpleType) (t : Tree) (d e : ℕ) → e ≡ d + length types → IsOver vs e t → IsOver vs d (function_of types t)
over-function vs [] t d e f h = (let g : e ≡ d = omega arith in rw g at h)
over-function vs (a ∷ types) t d e f h = over-function vs types t (d + 1) e (omega arith) h

get-behind : {X : Type 0} (xs ys : List X) (i : ℕ) (x : X) → slice_get ys i ≡ Some x → slice_get (xs ++ ys) (length xs + i) ≡ Some x
get-behind [] ys i x e = (let z : 0 + i ≡ i = omega arith in rw z e)
get-behind (y ∷ xs) ys i x e = (let z : suc (length xs) + i ≡ suc (length xs + i) = omega arith in rw z (get-behind xs ys i x e))

-- ---- bindings

module _ (vs : List SimpleType) (number : ℕ) (a : SimpleType) (found : slice_get vs number ≡ Some a) where
  head-in : (h : Tree) → IsHeadBelow (length (domains a)) h → result_type (type_of h) ≡ result_type a → IsBindingIn vs (with_head number (domains a) (length vs) h)
  head-in h k e =
      let outer = domains a in
      let values = fresh_values outer (length vs) (taken_by h) in
      let body : type_of (headed h values) ≡ result_type a = type_of-headed h values (below-head (length outer) h k) (types-fresh outer (length vs) (taken_by h)) ∙ e in
      let whole : type_of (function_of outer (headed h values)) ≡ a = type_of-function outer (headed h values) ∙ ap (function_type outer) body ∙ function-of_type a in
      record {
        found = found ∙ ap Some (sym whole);
        over =
            over-function (vs ++ map (function_type outer) (taken_by h)) outer (headed h values) 0 (length outer) (omega arith)
            (over-headed (vs ++ map (function_type outer) (taken_by h)) (length outer) h values k
            (over-fresh (vs ++ map (function_type outer) (taken_by h)) outer (taken_by h) (length vs)
            (λ i b g. get-behind vs (map (function_type outer) (taken_by h)) i (function_type outer b) (get-mapped (function_type outer) (taken_by h) i b g))));
      }

  bindings-append : (xs ys : List Binding) → AreBindingsIn vs xs → AreBindingsIn vs ys → AreBindingsIn vs (xs ++ ys)
  bindings-append [] ys h k = k
  bindings-append (x ∷ xs) ys h k = (h.0, bindings-append xs ys h.1 k)

  one-in : (b : Bool) (x : Binding) → (b ≡ true → IsBindingIn vs x) → AreBindingsIn vs (if b then x ∷ [] else [])
  one-in true x h = (h refl, tt)
  one-in false x h = tt

  constant-below : (d : ℕ) (h : Tree) → is_constant h ≡ true → IsHeadBelow d h
  constant-below d (symbol s b) k = tt
  constant-below d (logic c x y) k = tt
  constant-below d (variable n b) k = absurd (cc)
  constant-below d (bound i b) k = absurd (cc)
  constant-below d (app f x) k = absurd (cc)
  constant-below d (lam b t) k = absurd (cc)
  constant-below d absent k = absurd (cc)

  imitations-in : (h : Tree) → result_type (type_of h) ≡ result_type a → AreBindingsIn vs (imitations number (domains a) (length vs) h)
  imitations-in h e = one-in (is_constant h && takes_few h) (with_head number (domains a) (length vs) h) (λ t. head-in h (constant-below (length (domains a)) h (and_parts (is_constant h) (takes_few h) t).0) e)

  abbrev AllBelow : List Tree → Type 0
  AllBelow [] = Unit {0}
  AllBelow (x ∷ xs) = IsHeadBelow (length (domains a)) x × AllBelow xs

  binders-below : (types : List SimpleType) → length types ≤ length (domains a) → AllBelow (binders types)
  binders-below [] l = tt
  binders-below (b ∷ types) l = (omega arith, binders-below types (omega arith))

  projections-in : (xs : List Tree) → AllBelow xs → AreBindingsIn vs (projections number (domains a) (length vs) (result_type a) xs)
  projections-in [] h = tt
  projections-in (x ∷ xs) h =
      bindings-append (if same_type (result_type (type_of x)) (result_type a) && takes_few x then with_head number (domains a) (length vs) x ∷ [] else []) _
      (one-in (same_type (result_type (type_of x)) (result_type a) && takes_few x) (with_head number (domains a) (length vs) x) (λ t. head-in x h.0 (equal_types (result_type (type_of x)) (result_type a) (and_parts (same_type (result_type (type_of x)) (result_type a)) (takes_few x) t).0)))
      (projections-in xs h.1)

  bindings-in : (h : Tree) → result_type (type_of h) ≡ result_type a → AreBindingsIn vs (bindings number a (length vs) h)
  bindings-in h e = bindings-append (imitations number (domains a) (length vs) h) _ (imitations-in h e) (projections-in (binders (domains a)) (binders-below (domains a) (omega arith)))

tried_in : (vs : List SimpleType) (b : Bool) (bs : List Binding) → (AreBindingsIn vs bs) → IsActIn vs (if b then refuse else branch bs)
tried_in vs true bs h = tt
tried_in vs false bs h = h

tried-in : (vs : List SimpleType) (d e : ℕ) (t h : Tree) → IsOver vs e t → result_type (type_of h) ≡ result_type (type_of t) → IsActIn vs (tried (length vs) d t h)
tried-in vs d e (variable n a) h o r = tried_in vs (nat_eq d 0 || nat_lt 8 (length (domains a))) (bindings n a (length vs) h) (bindings-in vs n a o h r)
tried-in vs d e (bound i a) h o r = tt
tried-in vs d e (symbol s a) h o r = tt
tried-in vs d e (app f x) h o r = tt
tried-in vs d e (lam a t) h o r = tt
tried-in vs d e (logic c x y) h o r = tt
tried-in vs d e absent h o r = tt

-- ---- heads

applied-result : (t : Tree) → IsWellTyped t → result_type (type_of (applied_head t)) ≡ result_type (type_of t)
applied-result (app f x) w = applied-result f w.0 ∙ (let e : type_of f ≡ arrow (type_of x) (codomain (type_of f)) = w.4 in ap result_type e)
applied-result (variable n a) w = refl
applied-result (bound i a) w = refl
applied-result (symbol s a) w = refl
applied-result (lam a t) w = refl
applied-result (logic c x y) w = refl
applied-result absent w = refl

head-result : (t : Tree) → IsWellTyped t → result_type (type_of (head t)) ≡ result_type (type_of t)
head-result (lam a t) w = head-result t w.0
head-result (variable n a) w = refl
head-result (bound i a) w = refl
head-result (symbol s a) w = refl
head-result (app f x) w = applied-result (app f x) w
head-result (logic c x y) w = refl
head-result absent w = refl

applied-over : (vs : List SimpleType) (d : ℕ) (t : Tree) → IsOver vs d t → IsOver vs d (applied_head t)
applied-over vs d (app f x) o = applied-over vs d f o.0
applied-over vs d (variable n a) o = o
applied-over vs d (bound i a) o = o
applied-over vs d (symbol s a) o = o
applied-over vs d (lam a t) o = o
applied-over vs d (logic c x y) o = o
applied-over vs d absent o = o

head-over : (vs : List SimpleType) (t : Tree) (d : ℕ) → IsOver vs d t → (e : ℕ) × IsOver vs e (head t)
head-over vs (lam a t) d o = head-over vs t (d + 1) o
head-over vs (variable n a) d o = (d, o)
head-over vs (bound i a) d o = (d, o)
head-over vs (symbol s a) d o = (d, o)
head-over vs (app f x) d o = (d, applied-over vs d (app f x) o)
head-over vs (logic c x y) d o = (d, o)
head-over vs absent d o = (d, tt)

pub branching-in : (vs : List SimpleType) (d m : ℕ) (l r : Tree) → IsWellTyped l → IsWellTyped r → IsOver vs m l → IsOver vs m r → type_of l ≡ type_of r → IsActIn vs (unwrap_or (branching (length vs) d l r) stay)
branching-in vs d m l r v w p q e = by (is_flex l) (is_flex r)
  where
    same : result_type (type_of (head l)) ≡ result_type (type_of (head r))
    same = head-result l v ∙ ap result_type e ∙ sym (head-result r w)

    by : (x y : Bool) → IsActIn vs (unwrap_or (if x && not y then Some (tried (length vs) d (head l) (head r)) else (if not x && y then Some (tried (length vs) d (head r) (head l)) else None)) stay)
    by true false = (let o = head-over vs l m p in tried-in vs d o.0 (head l) (head r) o.1 (sym same))
    by false true = (let o = head-over vs r m q in tried-in vs d o.0 (head r) (head l) o.1 same)
    by true true = tt
    by false false = tt

-- ---- the types of indices

indexed-none : (outer : List SimpleType) (t : Tree) → ((k : ℕ) (a : SimpleType) → IsBoundAt k a t) → AreIndexed outer t
indexed-none [] t h = tt
indexed-none (a ∷ outer) t h = (h (length outer) a, indexed-none outer t h)

indexed-app : (outer : List SimpleType) (f x : Tree) → AreIndexed outer f → AreIndexed outer x → AreIndexed outer (app f x)
indexed-app [] f x h k = tt
indexed-app (a ∷ outer) f x h k = ((h.0, k.0), indexed-app outer f x h.1 k.1)

indexed-logic : (outer : List SimpleType) (c : Connective) (x y : Tree) → AreIndexed outer x → AreIndexed outer y → AreIndexed outer (logic c x y)
indexed-logic [] c x y h k = tt
indexed-logic (a ∷ outer) c x y h k = ((h.0, k.0), indexed-logic outer c x y h.1 k.1)

indexed-absent : (outer : List SimpleType) → AreIndexed outer absent
indexed-absent outer = indexed-none outer absent (λ k a. tt)

abbrev pub AllIndexed : List SimpleType → List Tree → Type 0
AllIndexed outer [] = Unit {0}
AllIndexed outer (x ∷ xs) = AreIndexed outer x × AllIndexed outer xs

indexed-applied : (outer : List SimpleType) (xs : List Tree) (t : Tree) → AreIndexed outer t → AllIndexed outer xs → AreIndexed outer (applied_to t xs)
indexed-applied outer [] t h k = h
indexed-applied outer (x ∷ xs) t h k = indexed-applied outer xs (app t x) (indexed-app outer t x h k.0) k.1

indexed-above : (types : List SimpleType) (i : ℕ) (b : SimpleType) → length types ≤ i → AreIndexed types (bound i b)
indexed-above [] i b l = tt
indexed-above (a ∷ types) i b l = ((λ e. absurd (omega arith)), indexed-above types i b (omega arith))

indexed-more : (a : SimpleType) (types inner : List SimpleType) → length inner ≤ length types → AllIndexed types (binders inner) → AllIndexed (a ∷ types) (binders inner)
indexed-more a types [] l h = tt
indexed-more a types (b ∷ inner) l h = (((λ e. absurd (omega arith)), h.0), indexed-more a types inner (omega arith) h.1)

pub indexed-binders : (outer : List SimpleType) → AllIndexed outer (binders outer)
indexed-binders [] = tt
indexed-binders (a ∷ outer) = (((λ e. refl), indexed-above outer (length outer) a (omega arith)), indexed-more a outer outer (omega arith) (indexed-binders outer))

pub indexed-fresh : (outer : List SimpleType) (next : ℕ) (types : List SimpleType) → AllIndexed outer (fresh_values outer next types)
indexed-fresh outer next [] = tt
indexed-fresh outer next (b ∷ types) = (indexed-applied outer (binders outer) (variable next (function_type outer b)) (indexed-none outer (variable next (function_type outer b)) (λ k a. tt)) (indexed-binders outer), indexed-fresh outer (suc next) types)

indexed-constant : (outer : List SimpleType) (c : Connective) (xs : List Tree) → AllIndexed outer xs → AreIndexed outer (constant_with c xs)
indexed-constant outer truth xs h = indexed-applied outer xs (logic truth absent absent) (indexed-none outer (logic truth absent absent) (λ k a. (tt, tt))) h
indexed-constant outer falsity xs h = indexed-applied outer xs (logic falsity absent absent) (indexed-none outer (logic falsity absent absent) (λ k a. (tt, tt))) h
indexed-constant outer negation [] h = indexed-absent outer
indexed-constant outer negation (x ∷ xs) h = indexed-applied outer xs (logic negation x absent) (indexed-logic outer negation x absent h.0 (indexed-absent outer)) h.1
indexed-constant outer disjunction [] h = indexed-absent outer
indexed-constant outer disjunction (x ∷ []) h = indexed-absent outer
indexed-constant outer disjunction (x ∷ y ∷ xs) h = indexed-applied outer xs (logic disjunction x y) (indexed-logic outer disjunction x y h.0 h.1.0) h.1.1
indexed-constant outer conjunction [] h = indexed-absent outer
indexed-constant outer conjunction (x ∷ []) h = indexed-absent outer
indexed-constant outer conjunction (x ∷ y ∷ xs) h = indexed-applied outer xs (logic conjunction x y) (indexed-logic outer conjunction x y h.0 h.1.0) h.1.1
indexed-constant outer implication [] h = indexed-absent outer
indexed-constant outer implication (x ∷ []) h = indexed-absent outer
indexed-constant outer implication (x ∷ y ∷ xs) h = indexed-applied outer xs (logic implication x y) (indexed-logic outer implication x y h.0 h.1.0) h.1.1
indexed-constant outer (equality a) [] h = indexed-absent outer
indexed-constant outer (equality a) (x ∷ []) h = indexed-absent outer
indexed-constant outer (equality a) (x ∷ y ∷ xs) h = indexed-applied outer xs (logic (equality a) x y) (indexed-logic outer (equality a) x y h.0 h.1.0) h.1.1
indexed-constant outer (universal a) [] h = indexed-absent outer
indexed-constant outer (universal a) (x ∷ xs) h = indexed-applied outer xs (logic (universal a) x absent) (indexed-logic outer (universal a) x absent h.0 (indexed-absent outer)) h.1
indexed-constant outer (existential a) [] h = indexed-absent outer
indexed-constant outer (existential a) (x ∷ xs) h = indexed-applied outer xs (logic (existential a) x absent) (indexed-logic outer (existential a) x absent h.0 (indexed-absent outer)) h.1
indexed-constant outer (choice a) [] h = indexed-absent outer
indexed-constant outer (choice a) (x ∷ xs) h = indexed-applied outer xs (logic (choice a) x absent) (indexed-logic outer (choice a) x absent h.0 (indexed-absent outer)) h.1

pub indexed-headed : (outer : List SimpleType) (h : Tree) (xs : List Tree) → IsIndexedHead outer h → AllIndexed outer xs → AreIndexed outer (headed h xs)
indexed-headed outer (variable n a) xs k h = indexed-applied outer xs (variable n a) (indexed-none outer (variable n a) (λ j b. tt)) h
indexed-headed outer (bound i a) xs k h = indexed-applied outer xs (bound i a) k h
indexed-headed outer (symbol s a) xs k h = indexed-applied outer xs (symbol s a) (indexed-none outer (symbol s a) (λ j b. tt)) h
indexed-headed outer (logic c x y) xs k h = indexed-constant outer c xs h
indexed-headed outer (app f x) xs k h = indexed-absent outer
indexed-headed outer (lam a t) xs k h = indexed-absent outer
indexed-headed outer absent xs k h = indexed-absent outer

-- the index of a lambda around a function of arguments of these types
pub bound-function : (types : List SimpleType) (k m : ℕ) (a : SimpleType) (t : Tree) → m ≡ k + length types → IsBoundAt m a t → IsBoundAt k a (function_of types t)
bound-function [] k m a t e h = (let g : m ≡ k = omega arith in rw g at h)
bound-function (b ∷ types) k m a t e h = bound-function types (k + 1) m a t (omega arith) h

pub bound-inside : (a : SimpleType) (types : List SimpleType) (t : Tree) → AreIndexed (a ∷ types) t → IsBoundAt 0 a (function_of types t)
bound-inside a types t h = bound-function types 0 (length types) a t (omega arith) h.0
