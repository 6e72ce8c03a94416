-- The pairs of arguments, by the tops of both terms.
use Rattle.std.proofs.Common.{ℕ, nat_eq, ◌≡◌, ◌∙◌, ◌<◌, Bool, true, false, List, [], ◌∷◌, ◌++◌, length, Option, Some, None, refl, sym, ap, arith}
use Rattle.std.specs.Option.{option_map}
use Rattle.std.proofs.lemmas.Bool.Decides.{nat_tests}
use Rattle.leo_q0.specs.Terms.{SimpleType, same_type}
use Rattle.leo_q0.proofs.Variables.{same_type-refl, equal_types}
use Rattle.leo_terms.specs.Tree.{Tree, variable, bound, symbol, app, lam, logic, absent, Connective, truth, falsity, negation, disjunction, conjunction, implication, equality, universal, existential, choice}
use Rattle.leo_terms.specs.Contents.{Contents, IsBank, tree_at, type_at}
use Rattle.leo_terms.proofs.CallerLemmas.{type-shared}
use Rattle.leo_clause.specs.Sameness.{same_tree}
use Rattle.leo_unify.specs.Pairs.{Pair, and_pair, if_same, paired_constant, paired_arguments}
use Rattle.leo_unify.proofs.Growing.{same-terms}
use Rattle.leo_unify.specs.Tops.{application_of, choice_by, choice_of, is_atom, is_symbol}
use Rattle.leo_unify.specs.Residues.{left_of_constant, left_of_arguments, residue}
use Rattle.std.specs.Prelude.{unwrap_or}

some-same : {X : Type 0} (x y : X) → Some x ≡ Some y → x ≡ y
some-same x y e = cc

none-some : {X : Type 0} {P : Type 0} (x : X) → None ≡ Some x → P
none-some x e = absurd (cc)

some-none : {X : Type 0} {P : Type 0} (x : X) → Some x ≡ None → P
some-none x e = absurd (cc)

pub application-is : (t f x : Tree) → application_of t ≡ Some (f, x) → t ≡ app f x
application-is (app g y) f x e = let h = some-same (g, y) (f, x) e in let p : g ≡ f = ap (λ (z : Tree × Tree). z.0) h in let q : y ≡ x = ap (λ (z : Tree × Tree). z.1) h in rw (p, q) refl
application-is (variable n a) f x e = none-some (f, x) e
application-is (bound i a) f x e = none-some (f, x) e
application-is (symbol s a) f x e = none-some (f, x) e
application-is (lam a t) f x e = none-some (f, x) e
application-is (logic c y z) f x e = none-some (f, x) e
application-is absent f x e = none-some (f, x) e

pub paired-apps : (l r f x g y : Tree) → application_of l ≡ Some (f, x) → application_of r ≡ Some (g, y) → paired_arguments l r ≡ option_map (and_pair x y) (paired_arguments f g)
paired-apps l r f x g y e h = rw (application-is l f x e, application-is r g y h) refl

pub paired-app_none : (l r f x : Tree) → application_of l ≡ Some (f, x) → application_of r ≡ None → paired_arguments l r ≡ None
paired-app_none l r f x e h = rw (application-is l f x e) (by r h)
  where
    by : (r : Tree) → application_of r ≡ None → paired_arguments (app f x) r ≡ None
    by (app g y) h = some-none (g, y) h
    by (variable n a) h = refl
    by (bound i a) h = refl
    by (symbol s a) h = refl
    by (lam a t) h = refl
    by (logic c y z) h = refl
    by absent h = refl

choice_by-is : (c : Connective) (p q : Tree) (a : SimpleType) → choice_by c p ≡ Some (a, q) → (c ≡ choice a) × (p ≡ q)
choice_by-is (choice b) p q a e = let h = some-same (b, p) (a, q) e in (ap choice (ap (λ (z : SimpleType × Tree). z.0) h), ap (λ (z : SimpleType × Tree). z.1) h)
choice_by-is truth p q a e = none-some (a, q) e
choice_by-is falsity p q a e = none-some (a, q) e
choice_by-is negation p q a e = none-some (a, q) e
choice_by-is disjunction p q a e = none-some (a, q) e
choice_by-is conjunction p q a e = none-some (a, q) e
choice_by-is implication p q a e = none-some (a, q) e
choice_by-is (equality b) p q a e = none-some (a, q) e
choice_by-is (universal b) p q a e = none-some (a, q) e
choice_by-is (existential b) p q a e = none-some (a, q) e

pub choice-is : (t q : Tree) (a : SimpleType) → choice_of t ≡ Some (a, q) → (x : Tree) × (t ≡ logic (choice a) q x)
choice-is (logic c p x) q a e = let h = choice_by-is c p q a e in (x, rw (h.0, h.1) refl)
choice-is (variable n b) q a e = none-some (a, q) e
choice-is (bound i b) q a e = none-some (a, q) e
choice-is (symbol s b) q a e = none-some (a, q) e
choice-is (app f x) q a e = none-some (a, q) e
choice-is (lam b t) q a e = none-some (a, q) e
choice-is absent q a e = none-some (a, q) e

pub paired-choices : (l r p q : Tree) (a b : SimpleType) → choice_of l ≡ Some (a, p) → choice_of r ≡ Some (b, q) → paired_arguments l r ≡ if_same (same_type a b) ((record { left = p; right = q }) ∷ [])
paired-choices l r p q a b e h = rw ((choice-is l p a e).1, (choice-is r q b h).1) refl

no-choice : (a : SimpleType) (c : Connective) (p q : Tree) → choice_by c q ≡ None → paired_constant (choice a) p c q ≡ None
no-choice a (choice b) p q h = some-none (b, q) h
no-choice a truth p q h = refl
no-choice a falsity p q h = refl
no-choice a negation p q h = refl
no-choice a disjunction p q h = refl
no-choice a conjunction p q h = refl
no-choice a implication p q h = refl
no-choice a (equality b) p q h = refl
no-choice a (universal b) p q h = refl
no-choice a (existential b) p q h = refl

pub paired-choice_none : (l r p : Tree) (a : SimpleType) → choice_of l ≡ Some (a, p) → choice_of r ≡ None → paired_arguments l r ≡ None
paired-choice_none l r p a e h = let w = choice-is l p a e in rw w.1 (by w.0 r h)
  where
    by : (x r : Tree) → choice_of r ≡ None → paired_arguments (logic (choice a) p x) r ≡ None
    by x (logic c q y) h = no-choice a c p q h
    by x (app g y) h = refl
    by x (variable n b) h = refl
    by x (bound i b) h = refl
    by x (symbol s b) h = refl
    by x (lam b t) h = refl
    by x absent h = refl

constant-none : (c d : Connective) (p q : Tree) → choice_by c p ≡ None → paired_constant c p d q ≡ None
constant-none (choice a) d p q h = some-none (a, p) h
constant-none truth d p q h = refl
constant-none falsity d p q h = refl
constant-none negation d p q h = refl
constant-none disjunction d p q h = refl
constant-none conjunction d p q h = refl
constant-none implication d p q h = refl
constant-none (equality a) d p q h = refl
constant-none (universal a) d p q h = refl
constant-none (existential a) d p q h = refl

-- other heads
pub paired-others : (l r : Tree) → application_of l ≡ None → choice_of l ≡ None → is_atom l ≡ false → paired_arguments l r ≡ None
paired-others (app f x) r e h k = some-none (f, x) e
paired-others (bound i a) r e h k = absurd (cc)
paired-others (symbol s a) r e h k = absurd (cc)
paired-others (variable n a) r e h k = refl
paired-others (lam a t) r e h k = refl
paired-others absent r e h k = refl
paired-others (logic c p x) (logic d q y) e h k = constant-none c d p q h
paired-others (logic c p x) (variable n a) e h k = refl
paired-others (logic c p x) (bound n a) e h k = refl
paired-others (logic c p x) (symbol n a) e h k = refl
paired-others (logic c p x) (app f y) e h k = refl
paired-others (logic c p x) (lam a t) e h k = refl
paired-others (logic c p x) absent e h k = refl

pub paired-atoms : (l r : Tree) → is_atom l ≡ true → paired_arguments l r ≡ if_same (same_tree l r) []
paired-atoms (bound i a) (bound j b) h = refl
paired-atoms (bound i a) (variable n b) h = refl
paired-atoms (bound i a) (symbol n b) h = refl
paired-atoms (bound i a) (app f x) h = refl
paired-atoms (bound i a) (lam b t) h = refl
paired-atoms (bound i a) (logic c x y) h = refl
paired-atoms (bound i a) absent h = refl
paired-atoms (symbol i a) (symbol j b) h = refl
paired-atoms (symbol i a) (variable n b) h = refl
paired-atoms (symbol i a) (bound n b) h = refl
paired-atoms (symbol i a) (app f x) h = refl
paired-atoms (symbol i a) (lam b t) h = refl
paired-atoms (symbol i a) (logic c x y) h = refl
paired-atoms (symbol i a) absent h = refl
paired-atoms (variable n a) r h = absurd (cc)
paired-atoms (app f x) r h = absurd (cc)
paired-atoms (lam a t) r h = absurd (cc)
paired-atoms (logic c x y) r h = absurd (cc)
paired-atoms absent r h = absurd (cc)

-- types by number
pub same-types : (c : Contents) → IsBank c → (i j : ℕ) → i < length c.types → j < length c.types → nat_eq i j ≡ same_type (type_at c i) (type_at c j)
same-types c b i j p q = by (nat_eq i j) refl (same_type (type_at c i) (type_at c j)) refl
  where
    by : (x : Bool) → nat_eq i j ≡ x → (y : Bool) → same_type (type_at c i) (type_at c j) ≡ y → x ≡ y
    by true e true f = refl
    by false e false f = refl
    by true e false f = let g : i ≡ j = grind (arith, nat_tests) in absurd (let h : same_type (type_at c i) (type_at c i) ≡ true = same_type-refl (type_at c i) in let k : same_type (type_at c i) (type_at c i) ≡ false = (rw (← g) at f) in cc)
    by false e true f = absurd (let g : i ≡ j = type-shared b i j p q (equal_types (type_at c i) (type_at c j) f) in let h : nat_eq i i ≡ true = grind (arith, nat_tests) in let k : nat_eq i i ≡ false = (rw (← g) at e) in cc)

-- the same by what calls say
pub choices-same : (c : Contents) → IsBank c → (l r i j p q : ℕ) → i < length c.types → j < length c.types → Some (type_at c i, tree_at c p) ≡ choice_of (tree_at c l) → Some (type_at c j, tree_at c q) ≡ choice_of (tree_at c r) → (t : Bool) → t ≡ nat_eq i j → if_same t ((record { left = tree_at c p; right = tree_at c q }) ∷ []) ≡ paired_arguments (tree_at c l) (tree_at c r)
choices-same c b l r i j p q li lj e h t k = rw (k, same-types c b i j li lj) (sym (paired-choices (tree_at c l) (tree_at c r) (tree_at c p) (tree_at c q) (type_at c i) (type_at c j) (sym e) (sym h)))

pub atoms-same : (c : Contents) → IsBank c → (l r : ℕ) → l < length c.terms → r < length c.terms → is_atom (tree_at c l) ≡ true → (t : Bool) → t ≡ nat_eq l r → if_same t [] ≡ paired_arguments (tree_at c l) (tree_at c r)
atoms-same c b l r p q h t k = rw (k, same-terms c b l r p q) (sym (paired-atoms (tree_at c l) (tree_at c r) h))

pub apps-same : (c : Contents) (l r f x g y : ℕ) (ps : Option (List Pair)) → Some (tree_at c f, tree_at c x) ≡ application_of (tree_at c l) → Some (tree_at c g, tree_at c y) ≡ application_of (tree_at c r) → ps ≡ paired_arguments (tree_at c f) (tree_at c g) → option_map (and_pair (tree_at c x) (tree_at c y)) ps ≡ paired_arguments (tree_at c l) (tree_at c r)
apps-same c l r f x g y ps e h k = rw k (sym (paired-apps (tree_at c l) (tree_at c r) (tree_at c f) (tree_at c x) (tree_at c g) (tree_at c y) (sym e) (sym h)))

-- ---- what is left of the arguments

pub left-apps : (l r f x g y : Tree) → application_of l ≡ Some (f, x) → application_of r ≡ Some (g, y) → left_of_arguments l r ≡ option_map (λ (ps : List Pair). ps ++ residue x y) (left_of_arguments f g)
left-apps l r f x g y e h = rw (application-is l f x e, application-is r g y h) refl

pub left-app_none : (l r f x : Tree) → application_of l ≡ Some (f, x) → application_of r ≡ None → left_of_arguments l r ≡ None
left-app_none l r f x e h = rw (application-is l f x e) (by r h)
  where
    by : (r : Tree) → application_of r ≡ None → left_of_arguments (app f x) r ≡ None
    by (app g y) h = some-none (g, y) h
    by (variable n a) h = refl
    by (bound i a) h = refl
    by (symbol s a) h = refl
    by (lam a t) h = refl
    by (logic c y z) h = refl
    by absent h = refl

left-choices : (l r p q : Tree) (a b : SimpleType) → choice_of l ≡ Some (a, p) → choice_of r ≡ Some (b, q) → left_of_arguments l r ≡ if_same (same_type a b) (residue p q)
left-choices l r p q a b e h = rw ((choice-is l p a e).1, (choice-is r q b h).1) refl

left-no_choice : (a : SimpleType) (c : Connective) (q : Tree) (ps : List Pair) → choice_by c q ≡ None → left_of_constant (choice a) c ps ≡ None
left-no_choice a (choice b) q ps h = some-none (b, q) h
left-no_choice a truth q ps h = refl
left-no_choice a falsity q ps h = refl
left-no_choice a negation q ps h = refl
left-no_choice a disjunction q ps h = refl
left-no_choice a conjunction q ps h = refl
left-no_choice a implication q ps h = refl
left-no_choice a (equality b) q ps h = refl
left-no_choice a (universal b) q ps h = refl
left-no_choice a (existential b) q ps h = refl

pub left-choice_none : (l r p : Tree) (a : SimpleType) → choice_of l ≡ Some (a, p) → choice_of r ≡ None → left_of_arguments l r ≡ None
left-choice_none l r p a e h = let w = choice-is l p a e in rw w.1 (by w.0 r h)
  where
    by : (x r : Tree) → choice_of r ≡ None → left_of_arguments (logic (choice a) p x) r ≡ None
    by x (logic c q y) h = left-no_choice a c q (residue p q) h
    by x (app g y) h = refl
    by x (variable n b) h = refl
    by x (bound i b) h = refl
    by x (symbol s b) h = refl
    by x (lam b t) h = refl
    by x absent h = refl

left-constant_none : (c d : Connective) (p : Tree) (ps : List Pair) → choice_by c p ≡ None → left_of_constant c d ps ≡ None
left-constant_none (choice a) d p ps h = some-none (a, p) h
left-constant_none truth d p ps h = refl
left-constant_none falsity d p ps h = refl
left-constant_none negation d p ps h = refl
left-constant_none disjunction d p ps h = refl
left-constant_none conjunction d p ps h = refl
left-constant_none implication d p ps h = refl
left-constant_none (equality a) d p ps h = refl
left-constant_none (universal a) d p ps h = refl
left-constant_none (existential a) d p ps h = refl

pub left-others : (l r : Tree) → application_of l ≡ None → choice_of l ≡ None → is_symbol l ≡ false → left_of_arguments l r ≡ None
left-others (app f x) r e h k = some-none (f, x) e
left-others (symbol s a) r e h k = absurd (cc)
left-others (bound i a) r e h k = refl
left-others (variable n a) r e h k = refl
left-others (lam a t) r e h k = refl
left-others absent r e h k = refl
left-others (logic c p x) (logic d q y) e h k = left-constant_none c d p (residue p q) h
left-others (logic c p x) (variable n a) e h k = refl
left-others (logic c p x) (bound n a) e h k = refl
left-others (logic c p x) (symbol n a) e h k = refl
left-others (logic c p x) (app f y) e h k = refl
left-others (logic c p x) (lam a t) e h k = refl
left-others (logic c p x) absent e h k = refl

left-symbols : (l r : Tree) → is_symbol l ≡ true → left_of_arguments l r ≡ if_same (same_tree l r) []
left-symbols (symbol i a) (symbol j b) h = refl
left-symbols (symbol i a) (variable n b) h = refl
left-symbols (symbol i a) (bound n b) h = refl
left-symbols (symbol i a) (app f x) h = refl
left-symbols (symbol i a) (lam b t) h = refl
left-symbols (symbol i a) (logic c x y) h = refl
left-symbols (symbol i a) absent h = refl
left-symbols (bound i a) r h = absurd (cc)
left-symbols (variable n a) r h = absurd (cc)
left-symbols (app f x) r h = absurd (cc)
left-symbols (lam a t) r h = absurd (cc)
left-symbols (logic c x y) r h = absurd (cc)
left-symbols absent r h = absurd (cc)

pub left-choices_same : (c : Contents) → IsBank c → (l r i j p q : ℕ) → i < length c.types → j < length c.types → Some (type_at c i, tree_at c p) ≡ choice_of (tree_at c l) → Some (type_at c j, tree_at c q) ≡ choice_of (tree_at c r) → (t : Bool) → t ≡ nat_eq i j → if_same t (residue (tree_at c p) (tree_at c q)) ≡ left_of_arguments (tree_at c l) (tree_at c r)
left-choices_same c b l r i j p q li lj e h t k = rw (k, same-types c b i j li lj) (sym (left-choices (tree_at c l) (tree_at c r) (tree_at c p) (tree_at c q) (type_at c i) (type_at c j) (sym e) (sym h)))

pub left-symbols_same : (c : Contents) → IsBank c → (l r : ℕ) → l < length c.terms → r < length c.terms → is_symbol (tree_at c l) ≡ true → (t : Bool) → t ≡ nat_eq l r → if_same t [] ≡ left_of_arguments (tree_at c l) (tree_at c r)
left-symbols_same c b l r p q h t k = rw (k, same-terms c b l r p q) (sym (left-symbols (tree_at c l) (tree_at c r) h))

pub left-apps_same : (c : Contents) (l r f x g y : ℕ) (ps more : List Pair) → Some (tree_at c f, tree_at c x) ≡ application_of (tree_at c l) → Some (tree_at c g, tree_at c y) ≡ application_of (tree_at c r) → Some ps ≡ left_of_arguments (tree_at c f) (tree_at c g) → more ≡ residue (tree_at c x) (tree_at c y) → Some (ps ++ more) ≡ left_of_arguments (tree_at c l) (tree_at c r)
left-apps_same c l r f x g y ps more e h k m =
    let z = left-apps (tree_at c l) (tree_at c r) (tree_at c f) (tree_at c x) (tree_at c g) (tree_at c y) (sym e) (sym h) in
    rw m (sym (z ∙ ap (option_map (λ (qs : List Pair). qs ++ residue (tree_at c x) (tree_at c y))) (sym k)))

pub residue-equal : (c : Contents) → IsBank c → (l r : ℕ) → l < length c.terms → r < length c.terms → (t : Bool) → t ≡ nat_eq l r → t ≡ true → [] ≡ residue (tree_at c l) (tree_at c r)
residue-equal c b l r p q t e f = let w : same_tree (tree_at c l) (tree_at c r) ≡ true = sym (e ∙ same-terms c b l r p q) ∙ f in rw w refl

pub residue-other : (c : Contents) → IsBank c → (l r : ℕ) → l < length c.terms → r < length c.terms → (t : Bool) → t ≡ nat_eq l r → t ≡ false → (o : Option (List Pair)) → o ≡ left_of_arguments (tree_at c l) (tree_at c r) → unwrap_or o ((record { left = tree_at c l; right = tree_at c r }) ∷ []) ≡ residue (tree_at c l) (tree_at c r)
residue-other c b l r p q t e f o k = let w : same_tree (tree_at c l) (tree_at c r) ≡ false = sym (e ∙ same-terms c b l r p q) ∙ f in rw (w, k) refl
