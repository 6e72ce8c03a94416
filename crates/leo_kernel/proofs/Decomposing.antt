-- Decomposing by a function gives what the relation says.
use Rattle.std.proofs.Common.{ℕ, nat_eq, ◌≡◌, ◌∙◌, ◌<◌, Bool, true, false, List, [], ◌∷◌, ◌++◌, length, map, Option, Some, None, refl, sym, ap}
use Rattle.std.specs.Bool.{Decides}
use Rattle.std.proofs.lemmas.Bool.Decides.{Decides-like}
use Rattle.leo_q0.specs.Terms.{same_type}
use Rattle.leo_q0.proofs.Variables.{same_type-refl, equal_types}
use Rattle.leo_terms.specs.Tree.{Tree, variable, bound, symbol, app, lam, logic, absent, Connective, truth, falsity, negation, disjunction, conjunction, implication, equality, universal, existential, choice}
use Rattle.leo_terms.specs.declared.node.Op.{Op}
use Rattle.leo_terms.specs.declared.node.Op.TheVariants as op
use Rattle.leo_terms.specs.Typing.{IsPresent}
use Rattle.leo_terms.specs.Contents.{Contents, IsBank, Takes, HasTypeBelow, connective, tree_at, type_at, argument_type}
use Rattle.leo_terms.proofs.CallerLemmas.{type-shared, term-present}
use Rattle.leo_clause.specs.declared.clause.Lit.{Lit}
use Rattle.leo_clause.specs.declared.clause.Clause.{Clause}
use Rattle.leo_clause.specs.Typed.{AreLiteralsOf, IsClauseOf}
use Rattle.leo_clause.specs.Trees.{Literal, ClauseTree, literal_at, clause_at}
use Rattle.leo_kernel.specs.ByNumber.{IsConclusion}
use Rattle.leo_kernel.proofs.Clauses.{concluded}
use Rattle.leo_clause.specs.Sameness.{same_connective}
use Rattle.leo_kernel.specs.Shapes.{unequal}
use Rattle.leo_kernel.specs.Conclusions.{unequal_if_present, with_new, Decomposes, applications, constants}
use Rattle.leo_kernel.specs.Sides.{if_same, app_sides, logic_sides, sides, StandsWith}
use Rattle.leo_kernel.proofs.TypedLits.{no}
use Rattle.leo_kernel.proofs.TypeRules.{types-decide}

pub same_connective-refl : (c : Connective) → same_connective c c ≡ true
same_connective-refl truth = refl
same_connective-refl falsity = refl
same_connective-refl negation = refl
same_connective-refl disjunction = refl
same_connective-refl conjunction = refl
same_connective-refl implication = refl
same_connective-refl (equality a) = same_type-refl a
same_connective-refl (universal a) = same_type-refl a
same_connective-refl (existential a) = same_type-refl a
same_connective-refl (choice a) = same_type-refl a

pub equal-connectives : (c d : Connective) → same_connective c d ≡ true → c ≡ d
equal-connectives truth truth h = refl
equal-connectives falsity falsity h = refl
equal-connectives negation negation h = refl
equal-connectives disjunction disjunction h = refl
equal-connectives conjunction conjunction h = refl
equal-connectives implication implication h = refl
equal-connectives (equality a) (equality b) h = rw (equal_types a b h) refl
equal-connectives (universal a) (universal b) h = rw (equal_types a b h) refl
equal-connectives (existential a) (existential b) h = rw (equal_types a b h) refl
equal-connectives (choice a) (choice b) h = rw (equal_types a b h) refl
equal-connectives _ _ h = cc

pub decomposes-negative : (l : Literal) (new : List Literal) → Decomposes l new → l.positive ≡ false
decomposes-negative l new (applications f g x y) = refl
decomposes-negative l new (constants c x y z w) = refl

pub decomposes-sides : (l : Literal) (new : List Literal) → Decomposes l new → sides l.left l.right ≡ Some new
decomposes-sides l new (applications f g x y) = refl
decomposes-sides l new (constants c x y z w) = rw (same_connective-refl c) refl

same-new : (a b : List Literal) → Some a ≡ Some b → a ≡ b
same-new a b e = cc

app-decomposes : (f x t : Tree) (new : List Literal) → app_sides f x t ≡ Some new → Decomposes (unequal (app f x) t) new
app-decomposes f x (app g y) new e = rw (← same-new _ new e) (applications f g x y)
app-decomposes f x (variable n a) new e = (let h : ⊥ = cc in absurd h)
app-decomposes f x (bound i a) new e = (let h : ⊥ = cc in absurd h)
app-decomposes f x (symbol n a) new e = (let h : ⊥ = cc in absurd h)
app-decomposes f x (lam a s) new e = (let h : ⊥ = cc in absurd h)
app-decomposes f x (logic c y z) new e = (let h : ⊥ = cc in absurd h)
app-decomposes f x absent new e = (let h : ⊥ = cc in absurd h)

if-decomposes : (b : Bool) (c d : Connective) (x y z w : Tree) (new : List Literal) → (b ≡ true → c ≡ d) → if_same b (unequal_if_present x z ++ unequal_if_present y w) ≡ Some new → Decomposes (unequal (logic c x y) (logic d z w)) new
if-decomposes true c d x y z w new f e = rw (f refl, ← same-new _ new e) (constants d x y z w)
if-decomposes false c d x y z w new f e = (let h : ⊥ = cc in absurd h)

logic-decomposes : (c : Connective) (x y t : Tree) (new : List Literal) → logic_sides c x y t ≡ Some new → Decomposes (unequal (logic c x y) t) new
logic-decomposes c x y (logic d z w) new e = if-decomposes (same_connective c d) c d x y z w new (equal-connectives c d) e
logic-decomposes c x y (variable n a) new e = (let h : ⊥ = cc in absurd h)
logic-decomposes c x y (bound i a) new e = (let h : ⊥ = cc in absurd h)
logic-decomposes c x y (symbol n a) new e = (let h : ⊥ = cc in absurd h)
logic-decomposes c x y (app f z) new e = (let h : ⊥ = cc in absurd h)
logic-decomposes c x y (lam a s) new e = (let h : ⊥ = cc in absurd h)
logic-decomposes c x y absent new e = (let h : ⊥ = cc in absurd h)

pub sides-decompose : (s t : Tree) (new : List Literal) → sides s t ≡ Some new → Decomposes (unequal s t) new
sides-decompose (app f x) t new e = app-decomposes f x t new e
sides-decompose (logic c x y) t new e = logic-decomposes c x y t new e
sides-decompose (variable n a) t new e = (let h : ⊥ = cc in absurd h)
sides-decompose (bound i a) t new e = (let h : ⊥ = cc in absurd h)
sides-decompose (symbol n a) t new e = (let h : ⊥ = cc in absurd h)
sides-decompose (lam a s) t new e = (let h : ⊥ = cc in absurd h)
sides-decompose absent t new e = (let h : ⊥ = cc in absurd h)

module _ (l : Literal) (negative : l.positive ≡ false) (clause parent : ClauseTree) (i : ℕ) where
  found : (new : List Literal) → sides l.left l.right ≡ Some new → Decomposes l new
  found new e = negative-literal l.positive l.left l.right negative (sides-decompose l.left l.right new e)
    where
      negative-literal : (p : Bool) (s t : Tree) → p ≡ false → Decomposes (unequal s t) new → Decomposes (record { positive = p; left = s; right = t }) new
      negative-literal p s t e d = rw e d

  pub decomposed-decides : (new : List Literal) → Some new ≡ sides l.left l.right → (r : Bool) → Decides r (clause ≡ with_new parent i [] new) → Decides r ((new : List Literal) × (Decomposes l new × (clause ≡ with_new parent i [] new)))
  decomposed-decides new e r d =
      Decides-like r
      (λ h. (new, (found new (sym e), h)))
      (λ h. let f : new ≡ h.0 = same-new new h.0 (e ∙ decomposes-sides l h.0 h.1.0) in rw f h.1.1)
      d

  pub not-decomposed : None ≡ sides l.left l.right → Decides false ((new : List Literal) × (Decomposes l new × (clause ≡ with_new parent i [] new)))
  not-decomposed e = no (λ h. none-some h.0 (e ∙ decomposes-sides l h.0 h.1.0))
    where
      none-some : (new : List Literal) → None ≡ Some new → ⊥
      none-some new f = cc

pub positive-stays : (l : Literal) (clause parent : ClauseTree) (i : ℕ) → l.positive ≡ true → Decides false ((new : List Literal) × (Decomposes l new × (clause ≡ with_new parent i [] new)))
positive-stays l clause parent i e = no (λ h. let f = decomposes-negative l h.0 h.1.0 in cc)

first-missing : (c : Contents) (o : Op) (n : ℕ) (y w : Option ℕ) (i j : ℕ) → Takes c o (Some n) y i → Takes c o None w j → ⊥
first-missing c op.True n y w i j h k = (let e = h.0.argument_is in cc)
first-missing c op.False n y w i j h k = (let e = h.0.argument_is in cc)
first-missing c op.Not n y w i j h k = (let e = k.0.argument_is in cc)
first-missing c op.Or n y w i j h k = (let e = k.0.argument_is in cc)
first-missing c op.And n y w i j h k = (let e = k.0.argument_is in cc)
first-missing c op.Imp n y w i j h k = (let e = k.0.argument_is in cc)
first-missing c (op.Eq a) n y w i j h k = (let e = k.0.argument_is in cc)
first-missing c (op.All a) n y w i j h k = (let e = k.0.argument_is in cc)
first-missing c (op.Some a) n y w i j h k = (let e = k.0.argument_is in cc)
first-missing c (op.Eps a) n y w i j h k = (let e = k.0.argument_is in cc)

last-missing : (c : Contents) (o : Op) (x : Option ℕ) (n : ℕ) (z : Option ℕ) (i j : ℕ) → Takes c o x (Some n) i → Takes c o z None j → ⊥
last-missing c op.True x n z i j h k = (let e = h.1.argument_is in cc)
last-missing c op.False x n z i j h k = (let e = h.1.argument_is in cc)
last-missing c op.Not x n z i j h k = (let e = h.1.argument_is in cc)
last-missing c op.Or x n z i j h k = (let e = k.1.argument_is in cc)
last-missing c op.And x n z i j h k = (let e = k.1.argument_is in cc)
last-missing c op.Imp x n z i j h k = (let e = k.1.argument_is in cc)
last-missing c (op.Eq a) x n z i j h k = (let e = k.1.argument_is in cc)
last-missing c (op.All a) x n z i j h k = (let e = h.1.argument_is in cc)
last-missing c (op.Some a) x n z i j h k = (let e = h.1.argument_is in cc)
last-missing c (op.Eps a) x n z i j h k = (let e = h.1.argument_is in cc)

-- what stands there on both sides
both-firsts : (c : Contents) (o : Op) (x z y w : Option ℕ) (i j : ℕ) → Takes c o x y i → Takes c o z w j → StandsWith x z
both-firsts c o None z y w i j h k = tt
both-firsts c o (Some x) (Some z) y w i j h k = tt
both-firsts c o (Some x) None y w i j h k = first-missing c o x y w i j h k

both-lasts : (c : Contents) (o : Op) (x z y w : Option ℕ) (i j : ℕ) → Takes c o x y i → Takes c o z w j → StandsWith y w
both-lasts c o x z None w i j h k = tt
both-lasts c o x z (Some y) (Some w) i j h k = tt
both-lasts c o x z (Some y) None i j h k = last-missing c o x y z i j h k

with-types : (c : Contents) (x z : Option ℕ) → StandsWith (argument_type c x) (argument_type c z) → StandsWith x z
with-types c None z h = tt
with-types c (Some x) None h = h
with-types c (Some x) (Some z) h = tt

module _ (c : Contents) (b : IsBank c) where
  one-constant : (o u : Op) → HasTypeBelow (length c.types) o → HasTypeBelow (length c.types) u → connective c o ≡ connective c u → o ≡ u
  one-constant op.True op.True h k e = refl
  one-constant op.False op.False h k e = refl
  one-constant op.Not op.Not h k e = refl
  one-constant op.Or op.Or h k e = refl
  one-constant op.And op.And h k e = refl
  one-constant op.Imp op.Imp h k e = refl
  one-constant (op.Eq i) (op.Eq j) h k e = (let f : type_at c i ≡ type_at c j = cc in ap op.Eq (type-shared b i j h k f))
  one-constant (op.All i) (op.All j) h k e = (let f : type_at c i ≡ type_at c j = cc in ap op.All (type-shared b i j h k f))
  one-constant (op.Some i) (op.Some j) h k e = (let f : type_at c i ≡ type_at c j = cc in ap op.Some (type-shared b i j h k f))
  one-constant (op.Eps i) (op.Eps j) h k e = (let f : type_at c i ≡ type_at c j = cc in ap op.Eps (type-shared b i j h k f))
  one-constant _ _ h k e = (let f : ⊥ = cc in absurd f)

-- the arguments of one constant stand there on both sides
pub arguments-stand : (c : Contents) (b : IsBank c) (o u : Op) (x y z w : Option ℕ) (i j : ℕ) → HasTypeBelow (length c.types) o → HasTypeBelow (length c.types) u → same_connective (connective c o) (connective c u) ≡ true → Takes c o (argument_type c x) (argument_type c y) i → Takes c u (argument_type c z) (argument_type c w) j → StandsWith x z × StandsWith y w
arguments-stand c b o u x y z w i j m n e h k =
    let f : o ≡ u = one-constant c b o u m n (equal-connectives _ _ e) in
    let g : Takes c o (argument_type c z) (argument_type c w) j = rw f k in
    (with-types c x z (both-firsts c o _ _ _ _ i j h g), with-types c y w (both-lasts c o _ _ _ _ i j h g))

pub paired : (c : Contents) (b : IsBank c) (x z : ℕ) → x < length c.terms → unequal (tree_at c x) (tree_at c z) ∷ [] ≡ unequal_if_present (tree_at c x) (tree_at c z)
paired c b x z h = present (tree_at c x) (tree_at c z) (term-present b x h)
  where
    present : (s t : Tree) → IsPresent s → unequal s t ∷ [] ≡ unequal_if_present s t
    present (variable n a) t h = refl
    present (bound i a) t h = refl
    present (symbol n a) t h = refl
    present (app f x) t h = refl
    present (lam a s) t h = refl
    present (logic c x y) t h = refl
    present absent t h = absurd h

module _ (c : Contents) (b : IsBank c) (i j : ℕ) (k : i < length c.types) (l : j < length c.types) (r : Bool) (e : r ≡ nat_eq i j) where
  types-test : r ≡ same_type (type_at c i) (type_at c j)
  types-test = tests r (same_type (type_at c i) (type_at c j)) (types-decide c b i j k l r e) (equal_types (type_at c i) (type_at c j)) (λ f. rw f (same_type-refl (type_at c j)))
    where
      tests : (p q : Bool) {P : Type 0} → Decides p P → (q ≡ true → P) → (P → q ≡ true) → p ≡ q
      tests true true d f g = refl
      tests true false d f g = (let h : false ≡ true = g (d.0 refl) in cc)
      tests false true d f g = d.1 (f refl)
      tests false false d f g = refl

  pub equalities-test : r ≡ same_connective (equality (type_at c i)) (equality (type_at c j))
  equalities-test = types-test

  pub universals-test : r ≡ same_connective (universal (type_at c i)) (universal (type_at c j))
  universals-test = types-test

  pub existentials-test : r ≡ same_connective (existential (type_at c i)) (existential (type_at c j))
  existentials-test = types-test

  pub choices-test : r ≡ same_connective (choice (type_at c i)) (choice (type_at c j))
  choices-test = types-test

module _ (c : Contents) (b : IsBank c) (parent step : Clause) (place : ℕ) (l : Lit) (negative : l.pos ≡ false) (h : IsClauseOf c parent) (k : IsClauseOf c step) where
  pub pairs-decide : (new : List Lit) → Some (map (literal_at c) new) ≡ sides (tree_at c l.left) (tree_at c l.right) → AreLiteralsOf c new → (r : Bool) → Decides r (IsConclusion parent place [] new step) → Decides r ((new : List Literal) × (Decomposes (literal_at c l) new × (clause_at c step ≡ with_new (clause_at c parent) place [] new)))
  pairs-decide new e w r d = decomposed-decides (literal_at c l) negative (clause_at c step) (clause_at c parent) place (map (literal_at c) new) e r (concluded c b parent place [] new step h k tt w r d)
