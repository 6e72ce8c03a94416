-- What is left of pairs: its parts, by the tops of both terms, and its normal forms.
use Rattle.std.proofs.Common.{ℕ, nat_eq, ◌≡◌, Bool, true, false, ◌&&◌, List, [], ◌∷◌, ◌++◌, Option, Some, None, refl, ap, arith}
use Rattle.std.specs.Prelude.{is_some, unwrap_or}
use Rattle.std.specs.Bool.{if◌then◌else◌}
use Rattle.std.specs.Option.{option_map}
use Rattle.std.proofs.lemmas.Bool.Decides.{nat_tests}
use Rattle.leo_q0.specs.Terms.{SimpleType, same_type}
use Rattle.leo_q0.proofs.Variables.{equal_types}
use Rattle.leo_terms.specs.Tree.{Tree, variable, bound, symbol, app, lam, logic, absent, codomain, Connective, choice, type_of}
use Rattle.leo_terms.specs.Reduction.{IsForm, IsNormal}
use Rattle.leo_clause.specs.Sameness.{same_tree}
use Rattle.leo_unify.specs.Pairs.{Pair, if_same}
use Rattle.leo_unify.specs.Residues.{left_of_constant, left_of_arguments, residue}
use Rattle.leo_unify.specs.Tops.{application_of, choice_of, is_symbol}
use Rattle.leo_unify.proofs.PairLemmas.{choice-is, left-app_none, left-choice_none, left-others}
use Rattle.leo_conclude.specs.Leaving.{parts_left}

-- a test that gives a list
if-some : (b : Bool) (ps : List Pair) → is_some (if_same b ps) ≡ true → b ≡ true
if-some true ps h = refl
if-some false ps h = absurd (cc)

pub test-is : (b : Bool) (ps : List Pair) → b ≡ is_some (if_same b ps)
test-is true ps = refl
test-is false ps = refl

both-true : (b c : Bool) → (b && c) ≡ true → (b ≡ true) × (c ≡ true)
both-true true c h = (refl, h)
both-true false c h = absurd (cc)

no-parts : {P : Type 0} (o : Option (List Pair)) → is_some o ≡ true → o ≡ None → P
no-parts None h e = absurd (cc)
no-parts (Some ps) h e = absurd (cc)

-- the parts of two applications, of which the functions have parts
application-parts : (o : Option (List Pair)) (qs : List Pair) → is_some o ≡ true → unwrap_or (option_map (λ (ps : List Pair). ps ++ qs) o) [] ≡ unwrap_or o [] ++ qs
application-parts None qs h = absurd (cc)
application-parts (Some ps) qs h = refl

pub parts-application : (f x g y : Tree) → is_some (left_of_arguments f g) ≡ true → parts_left (app f x) (app g y) ≡ parts_left f g ++ residue x y
parts-application f x g y h = application-parts (left_of_arguments f g) (residue x y) h

some-mapped : {X : Type 0} (o : Option X) (f : X → X) → is_some (option_map f o) ≡ true → is_some o ≡ true
some-mapped None f h = absurd (cc)
some-mapped (Some x) f h = refl

pub parts-functions : (f x g y : Tree) → is_some (left_of_arguments (app f x) (app g y)) ≡ true → is_some (left_of_arguments f g) ≡ true
parts-functions f x g y h = some-mapped (left_of_arguments f g) (λ (ps : List Pair). ps ++ residue x y) h

-- one of two applications alone has no parts
pub parts-no_application : {P : Type 0} (l r f x : Tree) → is_some (left_of_arguments l r) ≡ true → application_of l ≡ Some (f, x) → application_of r ≡ None → P
parts-no_application l r f x h e g = no-parts (left_of_arguments l r) h (left-app_none l r f x e g)

pub parts-no_choice : {P : Type 0} (l r p : Tree) (a : SimpleType) → is_some (left_of_arguments l r) ≡ true → choice_of l ≡ Some (a, p) → choice_of r ≡ None → P
parts-no_choice l r p a h e g = no-parts (left_of_arguments l r) h (left-choice_none l r p a e g)

-- the parts of two choices are what is left of the properties
pub record AreChoices (l r p q : Tree) : Type 0 where
  pub at : SimpleType
  pub first : Tree
  pub second : Tree
  pub left_is : l ≡ logic (choice at) p first
  pub right_is : r ≡ logic (choice at) q second
  pub parts : parts_left l r ≡ residue p q

unwrapped : (b : Bool) (ps : List Pair) → b ≡ true → unwrap_or (if_same b ps) [] ≡ ps
unwrapped b ps e = rw e refl

choices-apart : (a b : SimpleType) (p q x y : Tree) → is_some (left_of_arguments (logic (choice a) p x) (logic (choice b) q y)) ≡ true → AreChoices (logic (choice a) p x) (logic (choice b) q y) p q
choices-apart a b p q x y h =
    let s : same_type a b ≡ true = if-some (same_type a b) (residue p q) h in
    let e : a ≡ b = equal_types a b s in
    record { at = b; first = x; second = y; left_is = rw e refl; right_is = refl; parts = unwrapped (same_type a b) (residue p q) s }

pub parts-choices : (l r p q : Tree) (a b : SimpleType) → is_some (left_of_arguments l r) ≡ true → choice_of l ≡ Some (a, p) → choice_of r ≡ Some (b, q) → AreChoices l r p q
parts-choices l r p q a b h e g =
    let m = choice-is l p a e in
    let n = choice-is r q b g in
    rw (m.1, n.1) (choices-apart a b p q m.0 n.0 (rw (m.1, n.1) at h))

-- what is no application and no choice has parts only where it is one symbol, and these are none
symbols-same : (m n : ℕ) (a b : SimpleType) → is_some (if_same (nat_eq m n && same_type a b) []) ≡ true → (symbol m a ≡ symbol n b) × (unwrap_or (if_same (nat_eq m n && same_type a b) []) [] ≡ [])
symbols-same m n a b h =
    let s = if-some (nat_eq m n && same_type a b) [] h in
    let t = both-true (nat_eq m n) (same_type a b) s in
    let e : m ≡ n = (let u = t.0 in grind (arith, nat_tests)) in
    let f : a ≡ b = equal_types a b t.1 in
    (rw (e, f) refl, unwrapped (nat_eq m n && same_type a b) [] s)

symbol-parts : (m : ℕ) (a : SimpleType) (r : Tree) → is_some (left_of_arguments (symbol m a) r) ≡ true → (symbol m a ≡ r) × (parts_left (symbol m a) r ≡ [])
symbol-parts m a (symbol n b) h = symbols-same m n a b h
symbol-parts m a (variable n b) h = absurd (cc)
symbol-parts m a (bound i b) h = absurd (cc)
symbol-parts m a (app f x) h = absurd (cc)
symbol-parts m a (lam b t) h = absurd (cc)
symbol-parts m a (logic c x y) h = absurd (cc)
symbol-parts m a absent h = absurd (cc)

no-symbol : {P : Type 0} (l r : Tree) → application_of l ≡ None → choice_of l ≡ None → is_symbol l ≡ false → is_some (left_of_arguments l r) ≡ true → P
no-symbol l r e g s h = no-parts (left_of_arguments l r) h (left-others l r e g s)

pub parts-symbol : (l r : Tree) → application_of l ≡ None → choice_of l ≡ None → is_some (left_of_arguments l r) ≡ true → (l ≡ r) × (parts_left l r ≡ [])
parts-symbol (symbol m a) r e g h = symbol-parts m a r h
parts-symbol (variable n b) r e g h = no-symbol (variable n b) r e g refl h
parts-symbol (bound i b) r e g h = no-symbol (bound i b) r e g refl h
parts-symbol (app f x) r e g h = absurd (cc)
parts-symbol (lam b t) r e g h = no-symbol (lam b t) r e g refl h
parts-symbol (logic c x y) r e g h = no-symbol (logic c x y) r e g refl h
parts-symbol absent r e g h = no-symbol absent r e g refl h

-- terms with parts have one type
constants-type : (c d : Connective) (x y z w : Tree) (ps : List Pair) → is_some (left_of_constant c d ps) ≡ true → type_of (logic c x y) ≡ type_of (logic d z w)
constants-type (choice a) (choice b) x y z w ps h = equal_types a b (if-some (same_type a b) ps h)
constants-type c d x y z w ps h = absurd (cc)

pub parts-type : (l r : Tree) → is_some (left_of_arguments l r) ≡ true → type_of l ≡ type_of r
parts-type (app f x) (app g y) h = ap codomain (parts-type f g (parts-functions f x g y h))
parts-type (symbol m a) r h = ap type_of (symbol-parts m a r h).0
parts-type (logic c x y) (logic d z w) h = constants-type c d x y z w (residue x z) h
parts-type l r h = absurd (cc)

-- both sides of pairs are normal
abbrev pub ArePairsNormal : List Pair → Type 0
ArePairsNormal [] = Unit {0}
ArePairsNormal (p ∷ ps) = IsNormal p.left × IsNormal p.right × ArePairsNormal ps

abbrev AreOptionalNormal : Option (List Pair) → Type 0
AreOptionalNormal None = Unit {0}
AreOptionalNormal (Some ps) = ArePairsNormal ps

normal-append : (ps qs : List Pair) → ArePairsNormal ps → ArePairsNormal qs → ArePairsNormal (ps ++ qs)
normal-append [] qs h g = g
normal-append (p ∷ ps) qs h g = (h.0, h.1, normal-append ps qs h.2 g)

normal-mapped : (o : Option (List Pair)) (qs : List Pair) → AreOptionalNormal o → ArePairsNormal qs → AreOptionalNormal (option_map (λ (ps : List Pair). ps ++ qs) o)
normal-mapped None qs h g = tt
normal-mapped (Some ps) qs h g = normal-append ps qs h g

normal-if : (b : Bool) (ps : List Pair) → ArePairsNormal ps → AreOptionalNormal (if_same b ps)
normal-if true ps h = h
normal-if false ps h = tt

normal-left : (b : Bool) (o : Option (List Pair)) (s t : Tree) → AreOptionalNormal o → IsNormal s → IsNormal t → ArePairsNormal (if b then [] else unwrap_or o ((record { left = s; right = t }) ∷ []))
normal-left true o s t h n m = tt
normal-left false None s t h n m = (n, m, tt)
normal-left false (Some ps) s t h n m = h

normal-constants : (c d : Connective) (ps : List Pair) → ArePairsNormal ps → AreOptionalNormal (left_of_constant c d ps)
normal-constants (choice a) (choice b) ps h = normal-if (same_type a b) ps h
normal-constants c d ps h = tt

parts-normal : (b c : Bool) (l r : Tree) → IsForm b l → IsForm c r → AreOptionalNormal (left_of_arguments l r)
parts-normal b c (app f x) (app g y) h k =
    normal-mapped (left_of_arguments f g) (residue x y) (parts-normal false false f g h.0 k.0) (normal-left (same_tree x y) (left_of_arguments x y) x y (parts-normal true true x y h.1 k.1) h.1 k.1)
parts-normal b c (symbol m a) (symbol n e) h k = normal-if (nat_eq m n && same_type a e) [] tt
parts-normal b c (logic e x y) (logic d z w) h k = normal-constants e d (residue x z) (normal-left (same_tree x z) (left_of_arguments x z) x z (parts-normal true true x z h.0 k.0) h.0 k.0)
parts-normal b c l r h k = tt

pub residue-normal : (s t : Tree) → IsNormal s → IsNormal t → ArePairsNormal (residue s t)
residue-normal s t n m = normal-left (same_tree s t) (left_of_arguments s t) s t (parts-normal true true s t n m) n m
