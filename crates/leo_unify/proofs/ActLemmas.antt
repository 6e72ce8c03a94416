-- What is done with a pair in its context is right there.
use Rattle.std.proofs.Common.{ℕ, zero, suc, nat_eq, ◌≡◌, ◌∙◌, ◌+◌, Bool, true, false, not, ◌&&◌, ◌||◌, List, [], ◌∷◌, ◌++◌, length, slice_get, Option, Some, None, refl, sym, ap, add-one, subst, arith}
use Rattle.std.specs.Prelude.{unwrap_or}
use Rattle.std.specs.Bool.{if◌then◌else◌}
use Rattle.std.specs.Option.{option_map, option_and_then}
use Rattle.std.proofs.lemmas.Bool.{and_parts}
use Rattle.leo_q0.specs.Terms.{SimpleType, arrow, same_type}
use Rattle.leo_q0.proofs.Variables.{equal_types}
use Rattle.leo_terms.specs.Tree.{codomain, truth_type, Tree, variable, bound, symbol, app, lam, logic, absent, Connective, truth, falsity, negation, disjunction, conjunction, implication, equality, universal, existential, choice, type_of, IsBoundAt}
use Rattle.leo_terms.specs.Typing.{IsWellTyped}
use Rattle.leo_clause.specs.Typed.{IsOver}
use Rattle.leo_clause.specs.Sameness.{same_tree}
use Rattle.leo_unify.specs.Pairs.{Pair, and_pair, if_same, paired_constant, paired_arguments}
use Rattle.leo_unify.specs.Patterns.{Pattern, pattern_of, is_covered, rebound, abstracted}
use Rattle.leo_unify.specs.Acts.{Act, stay, replace, bind, refuse, stripped, removed, bound_by, solved, stuck, taken_apart, clashing, branching, act}
use Rattle.leo_unify.specs.Spines.{is_rigid, is_variable}
use Rattle.leo_unify.specs.Contexts.{AreBoundTo, under, IsPairIn, ArePairsIn, IsBindingIn, IsActIn}
use Rattle.leo_unify.proofs.Places.{some-same}
use Rattle.leo_unify.proofs.Over.{over-append}
use Rattle.leo_unify.proofs.PatternLemmas.{AreOrdered, IsPatternIn, pattern-typed, type_of-rebound, over-rebound, over-abstracted, bound-rebound_at}

-- an act, if there is one, is right over these variables
abbrev pub IsChosenIn : List SimpleType → Option Act → Type 0
IsChosenIn vs None = Unit {0}
IsChosenIn vs (Some a) = IsActIn vs a

pub chosen-else : (vs : List SimpleType) (o : Option Act) (a : Act) → IsChosenIn vs o → IsActIn vs a → IsActIn vs (unwrap_or o a)
chosen-else vs None a h k = k
chosen-else vs (Some b) a h k = h

-- ---- a variable that becomes a function of indices

-- the types of a function's indices are those in its body
pub AreBodyTypes : List SimpleType → Tree → Type 0
AreBodyTypes types t = (p : ℕ) (a : SimpleType) → slice_get types p ≡ Some a → IsBoundAt p a t

get-less : {X Y : Type 0} (xs : List X) (ys : List Y) (p : ℕ) (y : Y) → length ys ≡ length xs → slice_get ys p ≡ Some y → (x : X) × (slice_get xs p ≡ Some x)
get-less [] [] p y e h = absurd (cc)
get-less [] (z ∷ ys) p y e h = absurd (omega arith)
get-less (x ∷ xs) [] p y e h = absurd (cc)
get-less (x ∷ xs) (z ∷ ys) zero y e h = (x, refl)
get-less (x ∷ xs) (z ∷ ys) (suc p) y e h = get-less xs ys p y (omega arith) h

module _ (vs : List SimpleType) (types : ℕ → SimpleType) (d : ℕ) (u : Tree) (over : IsOver vs d u) (bounds : AreBoundTo types u) where
  -- the body's indices have the types of the arguments
  pub body-types : (number : ℕ) (order : List ℕ) (given : List SimpleType) → AreOrdered types order given → is_covered number order 0 u ≡ true → (p : ℕ) (a : SimpleType) → slice_get given p ≡ Some a → IsBoundAt p a (rebound order 0 u)
  body-types number order given o c p a h =
      let i = get-less order given p a o.same_length h in
      let e : types i.0 ≡ a = some-same (types i.0) a (sym (o.typed p i.0 i.1) ∙ h) in
      let b : IsBoundAt i.0 a u = subst (λ (z : SimpleType). IsBoundAt i.0 z u) e (bounds i.0) in
      let z : 0 + i.0 ≡ i.0 = omega arith in
      bound-rebound_at number order u 0 p p i.0 a (omega arith) i.1 c (rw z b)

  pub binding-in : (p : Pattern) → IsPatternIn vs types (rebound p.order 0 u) p → is_covered p.number p.order 0 u ≡ true → IsBindingIn vs (record { number = p.number; fresh = []; term = abstracted p.types (rebound p.order 0 u) })
  binding-in p h c = record {
    found = h.found;
    over =
        over-append vs [] (abstracted p.types (rebound p.order 0 u)) 0
        (let s = h.ordered.same_length in
        over-abstracted vs p.types (rebound p.order 0 u) 0 (length p.types) (omega arith) (over-rebound vs p.number p.order u d 0 (length p.types) (omega arith) c over));
  }

  -- the other side is t
  module _ (t : Tree) (w : IsWellTyped t) (o : IsOver vs d t) (b : AreBoundTo types t) (s : type_of t ≡ type_of u) where
    pub pattern-in : (p : Pattern) → pattern_of t ≡ Some p → IsPatternIn vs types (rebound p.order 0 u) p
    pattern-in p e = pattern-typed vs types d (rebound p.order 0 u) t [] [] p e w o b (record { same_length = refl; typed = λ q i h. absurd (cc) }) (s ∙ sym (type_of-rebound p.order u 0))

    pub solved-in : IsChosenIn vs (solved t u)
    solved-in = by (pattern_of t) refl
      where
        here : (p : Pattern) → pattern_of t ≡ Some p → (c : Bool) → is_covered p.number p.order 0 u ≡ c → IsChosenIn vs (if c then Some (bind (record { number = p.number; fresh = []; term = abstracted p.types (rebound p.order 0 u) })) else None)
        here p e true f = binding-in p (pattern-in p e) f
        here p e false f = tt

        by : (q : Option Pattern) → pattern_of t ≡ q → IsChosenIn vs (option_and_then (bound_by u) q)
        by None e = tt
        by (Some p) e = here p e (is_covered p.number p.order 0 u) refl

-- ---- two lambdas

pub bound-under : (a : SimpleType) (types : ℕ → SimpleType) (t : Tree) → IsBoundAt 0 a t → AreBoundTo types (lam a t) → AreBoundTo (under a types) t
bound-under a types t z h zero = z
bound-under a types t z h (suc j) = (let k : IsBoundAt (j + 1) (types j) t = h j in rw add-one at k)

stripped_in : (vs : List SimpleType) (a b : SimpleType) (s t : Tree) → IsWellTyped (lam a s) → IsWellTyped (lam b t) → IsPairIn vs (record { left = lam a s; right = lam b t }) → IsPairIn vs (record { left = s; right = t })
stripped_in vs a b s t v w h =
    let e : arrow a (type_of s) ≡ arrow b (type_of t) = h.same_type in
    let f : b ≡ a = cc in
    let g : IsBoundAt 0 a t = subst (λ (z : SimpleType). IsBoundAt 0 z t) f w.2 in
    record {
      depth = h.depth + 1;
      types = under a h.types;
      left_over = h.left_over;
      right_over = h.right_over;
      left_bound = bound-under a h.types s v.2 h.left_bound;
      right_bound = bound-under a h.types t g (subst (λ (z : SimpleType). AreBoundTo h.types (lam z t)) f h.right_bound);
      same_type = cc;
    }

pub stripped-in : (vs : List SimpleType) (l r : Tree) → IsWellTyped l → IsWellTyped r → IsPairIn vs (record { left = l; right = r }) → IsChosenIn vs (stripped l r)
stripped-in vs (lam a s) (lam b t) v w h = (stripped_in vs a b s t v w h, tt)
stripped-in vs (lam a s) (variable n b) v w h = tt
stripped-in vs (lam a s) (bound n b) v w h = tt
stripped-in vs (lam a s) (symbol n b) v w h = tt
stripped-in vs (lam a s) (app f x) v w h = tt
stripped-in vs (lam a s) (logic c x y) v w h = tt
stripped-in vs (lam a s) absent v w h = tt
stripped-in vs (variable n b) r v w h = tt
stripped-in vs (bound n b) r v w h = tt
stripped-in vs (symbol n b) r v w h = tt
stripped-in vs (app f x) r v w h = tt
stripped-in vs (logic c x y) r v w h = tt
stripped-in vs absent r v w h = tt

-- ---- the pairs of the arguments

pub pairs-end : (vs : List SimpleType) (ps qs : List Pair) → ArePairsIn vs ps → ArePairsIn vs qs → ArePairsIn vs (ps ++ qs)
pairs-end vs [] qs h k = k
pairs-end vs (p ∷ ps) qs h k = (h.0, pairs-end vs ps qs h.1 k)

none-some : {X : Type 0} (x : X) → None ≡ Some x → ⊥
none-some x e = cc

if-same : (b : Bool) (qs ps : List Pair) → if_same b qs ≡ Some ps → (b ≡ true) × (ps ≡ qs)
if-same true qs ps e = (refl, sym (some-same qs ps e))
if-same false qs ps e = absurd (none-some ps e)

mapped-some : {X Y : Type 0} (f : X → Y) (o : Option X) (y : Y) → option_map f o ≡ Some y → (x : X) × (o ≡ Some x) × (y ≡ f x)
mapped-some f None y e = absurd (none-some y e)
mapped-some f (Some x) y e = (x, refl, sym (some-same (f x) y e))

module _ (vs : List SimpleType) (types : ℕ → SimpleType) (d : ℕ) where
  -- both sides in the context
  pub record AreSides (l r : Tree) : Type 0 where
    pub left_typed : IsWellTyped l
    pub right_typed : IsWellTyped r
    pub left_over : IsOver vs d l
    pub right_over : IsOver vs d r
    pub left_bound : AreBoundTo types l
    pub right_bound : AreBoundTo types r

  side-pair : (l r : Tree) → IsOver vs d l → IsOver vs d r → AreBoundTo types l → AreBoundTo types r → type_of l ≡ type_of r → IsPairIn vs (record { left = l; right = r })
  side-pair l r ol or bl br e = record { depth = d; types = types; left_over = ol; right_over = or; left_bound = bl; right_bound = br; same_type = e }

  choice-in : (c e : Connective) (p x q y : Tree) (ps : List Pair) → paired_constant c p e q ≡ Some ps → AreSides (logic c p x) (logic e q y) → ArePairsIn vs ps × (type_of (logic c p x) ≡ type_of (logic e q y))
  choice-in (choice a) (choice b) p x q y ps g h =
      let k = if-same (same_type a b) ((record { left = p; right = q }) ∷ []) ps g in
      let m : a ≡ b = equal_types a b k.0 in
      let v : type_of p ≡ type_of q = h.left_typed.2.0.1 ∙ ap (λ (z : SimpleType). arrow z truth_type) m ∙ sym h.right_typed.2.0.1 in
      (rw k.1 (side-pair p q h.left_over.0 h.right_over.0 (λ j. (h.left_bound j).0) (λ j. (h.right_bound j).0) v, tt), m)
  choice-in (choice a) truth p x q y ps g h = absurd (none-some ps g)
  choice-in (choice a) falsity p x q y ps g h = absurd (none-some ps g)
  choice-in (choice a) negation p x q y ps g h = absurd (none-some ps g)
  choice-in (choice a) disjunction p x q y ps g h = absurd (none-some ps g)
  choice-in (choice a) conjunction p x q y ps g h = absurd (none-some ps g)
  choice-in (choice a) implication p x q y ps g h = absurd (none-some ps g)
  choice-in (choice a) (equality b) p x q y ps g h = absurd (none-some ps g)
  choice-in (choice a) (universal b) p x q y ps g h = absurd (none-some ps g)
  choice-in (choice a) (existential b) p x q y ps g h = absurd (none-some ps g)
  choice-in truth e p x q y ps g h = absurd (none-some ps g)
  choice-in falsity e p x q y ps g h = absurd (none-some ps g)
  choice-in negation e p x q y ps g h = absurd (none-some ps g)
  choice-in disjunction e p x q y ps g h = absurd (none-some ps g)
  choice-in conjunction e p x q y ps g h = absurd (none-some ps g)
  choice-in implication e p x q y ps g h = absurd (none-some ps g)
  choice-in (equality a) e p x q y ps g h = absurd (none-some ps g)
  choice-in (universal a) e p x q y ps g h = absurd (none-some ps g)
  choice-in (existential a) e p x q y ps g h = absurd (none-some ps g)

  leaf-in : (b : Bool) (ps : List Pair) (l r : Tree) → if_same b [] ≡ Some ps → (b ≡ true → type_of l ≡ type_of r) → ArePairsIn vs ps × (type_of l ≡ type_of r)
  leaf-in b ps l r g same = let k = if-same b [] ps g in (rw k.1 tt, same k.0)

  app-in : (f x g y : Tree) (ps : List Pair) → AreSides (app f x) (app g y) → (qs : List Pair) → ps ≡ and_pair x y qs → ArePairsIn vs qs × (type_of f ≡ type_of g) → ArePairsIn vs ps × (type_of (app f x) ≡ type_of (app g y))
  app-in f x g y ps h qs e k =
      let m : arrow (type_of x) (codomain (type_of f)) ≡ arrow (type_of y) (codomain (type_of g)) = sym h.left_typed.4 ∙ k.1 ∙ h.right_typed.4 in
      let v : type_of x ≡ type_of y = cc in
      (rw e (pairs-end vs qs ((record { left = x; right = y }) ∷ []) k.0 (side-pair x y h.left_over.1 h.right_over.1 (λ j. (h.left_bound j).1) (λ j. (h.right_bound j).1) v, tt)), ap codomain k.1)

  -- the pairs of arguments are right, and both sides have one type
  pub arguments-in : (l r : Tree) (ps : List Pair) → paired_arguments l r ≡ Some ps → AreSides l r → ArePairsIn vs ps × (type_of l ≡ type_of r)
  arguments-in (app f x) (app g y) ps e h =
      let w = mapped-some (and_pair x y) (paired_arguments f g) ps e in
      app-in f x g y ps h w.0 w.2
      (arguments-in f g w.0 w.1 (record {
        left_typed = h.left_typed.0;
        right_typed = h.right_typed.0;
        left_over = h.left_over.0;
        right_over = h.right_over.0;
        left_bound = λ j. (h.left_bound j).0;
        right_bound = λ j. (h.right_bound j).0;
      }))
  arguments-in (symbol m a) (symbol n b) ps e h = leaf-in (nat_eq m n && same_type a b) ps (symbol m a) (symbol n b) e (λ t. equal_types a b (and_parts (nat_eq m n) (same_type a b) t).1)
  arguments-in (bound m a) (bound n b) ps e h = leaf-in (nat_eq m n && same_type a b) ps (bound m a) (bound n b) e (λ t. equal_types a b (and_parts (nat_eq m n) (same_type a b) t).1)
  arguments-in (logic c p x) (logic g q y) ps e h = choice-in c g p x q y ps e h
  arguments-in (variable n a) r ps e h = absurd (none-some ps e)
  arguments-in (lam a t) r ps e h = absurd (none-some ps e)
  arguments-in absent r ps e h = absurd (none-some ps e)
  arguments-in (app f x) (variable n a) ps e h = absurd (none-some ps e)
  arguments-in (app f x) (bound n a) ps e h = absurd (none-some ps e)
  arguments-in (app f x) (symbol n a) ps e h = absurd (none-some ps e)
  arguments-in (app f x) (lam a t) ps e h = absurd (none-some ps e)
  arguments-in (app f x) (logic c y z) ps e h = absurd (none-some ps e)
  arguments-in (app f x) absent ps e h = absurd (none-some ps e)
  arguments-in (symbol m a) (variable n b) ps e h = absurd (none-some ps e)
  arguments-in (symbol m a) (bound n b) ps e h = absurd (none-some ps e)
  arguments-in (symbol m a) (app g y) ps e h = absurd (none-some ps e)
  arguments-in (symbol m a) (lam b t) ps e h = absurd (none-some ps e)
  arguments-in (symbol m a) (logic c y z) ps e h = absurd (none-some ps e)
  arguments-in (symbol m a) absent ps e h = absurd (none-some ps e)
  arguments-in (bound m a) (variable n b) ps e h = absurd (none-some ps e)
  arguments-in (bound m a) (symbol n b) ps e h = absurd (none-some ps e)
  arguments-in (bound m a) (app g y) ps e h = absurd (none-some ps e)
  arguments-in (bound m a) (lam b t) ps e h = absurd (none-some ps e)
  arguments-in (bound m a) (logic c y z) ps e h = absurd (none-some ps e)
  arguments-in (bound m a) absent ps e h = absurd (none-some ps e)
  arguments-in (logic c p x) (variable n b) ps e h = absurd (none-some ps e)
  arguments-in (logic c p x) (bound n b) ps e h = absurd (none-some ps e)
  arguments-in (logic c p x) (symbol n b) ps e h = absurd (none-some ps e)
  arguments-in (logic c p x) (app g y) ps e h = absurd (none-some ps e)
  arguments-in (logic c p x) (lam b t) ps e h = absurd (none-some ps e)
  arguments-in (logic c p x) absent ps e h = absurd (none-some ps e)

  pub apart-in : (l r : Tree) → AreSides l r → IsChosenIn vs (taken_apart l r)
  apart-in l r h = by (paired_arguments l r) refl
    where
      by : (o : Option (List Pair)) → paired_arguments l r ≡ o → IsChosenIn vs (option_map replace o)
      by None e = tt
      by (Some ps) e = (arguments-in l r ps e h).0

-- ---- no solution

pub refused-in : (vs : List SimpleType) (b : Bool) → IsChosenIn vs (if b then Some refuse else None)
refused-in vs true = tt
refused-in vs false = tt

pub removed-in : (vs : List SimpleType) (b : Bool) → IsChosenIn vs (if b then Some (replace []) else None)
removed-in vs true = tt
removed-in vs false = tt

-- ---- the whole, but for guesses

pub act-in : (vs : List SimpleType) (n d : ℕ) (l r : Tree) → IsWellTyped l → IsWellTyped r → IsPairIn vs (record { left = l; right = r }) → IsActIn vs (unwrap_or (branching n d l r) stay) → IsActIn vs (act n d l r)
act-in vs n d l r v w h k =
    chosen-else vs (stripped l r) _ (stripped-in vs l r v w h)
    (chosen-else vs (removed l r) _ (removed-in vs (same_tree l r))
    (chosen-else vs (solved l r) _ (solved-in vs h.types h.depth r h.right_over h.right_bound l v h.left_over h.left_bound h.same_type)
    (chosen-else vs (solved r l) _ (solved-in vs h.types h.depth l h.left_over h.left_bound r w h.right_over h.right_bound (sym h.same_type))
    (chosen-else vs (stuck l r) _ (refused-in vs (is_variable l || is_variable r))
    (chosen-else vs (taken_apart l r) _ (apart-in vs h.types h.depth l r (record { left_typed = v; right_typed = w; left_over = h.left_over; right_over = h.right_over; left_bound = h.left_bound; right_bound = h.right_bound }))
    (chosen-else vs (clashing l r) _ (refused-in vs (is_rigid l && (is_rigid r && not (same_type (type_of l) truth_type)))) k))))))
