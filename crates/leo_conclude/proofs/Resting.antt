-- One step of what is left of an inequation, by the tops of both terms.
use Rattle.std.proofs.Common.{ℕ, suc, ◌≡◌, ◌∙◌, ◌+◌, ◌<◌, Bool, true, false, List, [], ◌∷◌, ◌++◌, length, map, slice_get, Option, Some, None, refl, sym, ap, subst, append_assoc, arith}
use Rattle.std.specs.Prelude.{is_some, unwrap_or, nat_eq}
use Rattle.std.proofs.lemmas.Bool.Decides.{nat_tests}
use Rattle.leo_q0.specs.Terms.{SimpleType, arrow}
use Rattle.leo_terms.specs.Contents.{Contents, IsBank, tree_at}
use Rattle.leo_terms.specs.Tree.{Tree, variable, bound, symbol, app, lam, logic, absent, choice, codomain, type_of}
use Rattle.leo_terms.specs.Typing.{IsWellTyped, IsPresent}
use Rattle.leo_terms.proofs.CallerLemmas.{term-typed}
use Rattle.leo_clause.specs.declared.clause.Clause.{Clause}
use Rattle.leo_clause.specs.declared.clause.Lit.{Lit}
use Rattle.leo_clause.specs.Trees.{Literal, clause_at, literal_at}
use Rattle.leo_clause.specs.Typed.{IsOver, AreTyped, IsTypedIn}
use Rattle.leo_kernel.specs.Conclusions.{Decomposes, applications, constants, NeverHolds, self_unequal, unequal_if_present}
use Rattle.leo_kernel.specs.Conditions.{HaveOneHeadType}
use Rattle.leo_kernel.specs.Shapes.{domain, unequal}
use Rattle.leo_clausify.proofs.Placing.{typed-at}
use Rattle.leo_unify.specs.declared.pairs.Application.{Application}
use Rattle.leo_unify.specs.Pairs.{Pair}
use Rattle.leo_unify.specs.Residues.{left_of_arguments, residue}
use Rattle.leo_conclude.specs.declared.derived.Derived.{Derived}
use Rattle.leo_conclude.specs.declared.relieving.Relieved.{Relieved}
use Rattle.leo_conclude.specs.Conclusions.{unequal_pair}
use Rattle.leo_conclude.specs.Deriving.{IsChanged}
use Rattle.leo_conclude.specs.Leaving.{Stands, HasUnequal, Leaves, application_tree, IsApplicationIn, HasUnequalApplications, LeavesApplications, parts_left}
use Rattle.leo_conclude.proofs.Between.{between-get, count-both, count-pairs, pairs-count, regrouped, stands-next, stands-within}
use Rattle.leo_conclude.proofs.Changing.{changed-none, changed-twice}
use Rattle.leo_unify.specs.Tops.{application_of}
use Rattle.leo_unify.specs.Views.{application_at}
use Rattle.leo_unify.proofs.PairLemmas.{application-is, residue-other}
use Rattle.leo_conclude.proofs.Residues.{AreChoices, parts-application, parts-functions, parts-type}

length-map : {X Y : Type 0} (f : X → Y) (xs : List X) → length (map f xs) ≡ length xs
length-map f [] = refl
length-map f (x ∷ xs) = ap suc (length-map f xs)

-- a literal that stands there is one of the clause
pub stands-in : (c : Contents) (k : Clause) (at : ℕ) (l : Literal) → Stands (clause_at c k).literals at l → at < length k.lits
stands-in c k at l h = (let a = stands-within (clause_at c k).literals at l h in let b = length-map (literal_at c) k.lits in omega arith)

pub stands-get : (literals : List Literal) (at : ℕ) (l : Literal) → Stands literals at l → slice_get literals at ≡ Some l
stands-get literals at l h = between-get literals h.front h.back at l h.is h.count

-- what the steps of a clause say
abbrev pub Omits : Contents → Derived → ℕ → Derived → Type 0
Omits c d at r = (front back : List Literal) (l : Literal) → (clause_at c d.clause).literals ≡ front ++ (l ∷ back) → length front ≡ at → NeverHolds l → IsChanged c d r front [] back

abbrev pub TakesApart : Contents → Derived → ℕ → List Lit → Derived → Type 0
TakesApart c d at new r = (front back : List Literal) (l : Literal) → (clause_at c d.clause).literals ≡ front ++ (l ∷ back) → length front ≡ at → Decomposes l (map (literal_at c) new) → HaveOneHeadType l.left l.right → AreTyped (clause_at c d.clause).variables (map (literal_at c) new) → IsChanged c d r front (map (literal_at c) new) back

-- two applications
domains-same : (a b c d : SimpleType) → arrow a c ≡ arrow b d → a ≡ b
domains-same a b c d e = ap domain e

module _ (c : Contents) (d : Derived) (at : ℕ) (a b : Application) (typed : IsTypedIn c d.clause) (first : IsApplicationIn c a) (second : IsApplicationIn c b) (parts : is_some (left_of_arguments (tree_at c a.function) (tree_at c b.function)) ≡ true) where
  functions-same : type_of (tree_at c a.function) ≡ type_of (tree_at c b.function)
  functions-same = parts-type (tree_at c a.function) (tree_at c b.function) parts

  arguments-same : type_of (tree_at c a.argument) ≡ type_of (tree_at c b.argument)
  arguments-same = domains-same (type_of (tree_at c a.argument)) (type_of (tree_at c b.argument)) (codomain (type_of (tree_at c a.function))) (codomain (type_of (tree_at c b.function))) (sym first.typed.4 ∙ functions-same ∙ second.typed.4)

  abbrev parts-literals : List Lit
  parts-literals = (record { pos = false; left = a.function; right = b.function }) ∷ (record { pos = false; left = a.argument; right = b.argument }) ∷ []

  typed-parts : slice_get (clause_at c d.clause).literals at ≡ Some (unequal (application_tree c a) (application_tree c b)) → AreTyped (clause_at c d.clause).variables (map (literal_at c) parts-literals)
  typed-parts e =
      let h = typed-at (clause_at c d.clause).variables (clause_at c d.clause).literals at (unequal (application_tree c a) (application_tree c b)) typed.typed e in
      (record { left_over = h.left_over.0; right_over = h.right_over.0; same_type = functions-same }, (record { left_over = h.left_over.1; right_over = h.right_over.1; same_type = arguments-same }, tt))

  pub applications-apart : (r : Derived) → TakesApart c d at parts-literals r → (front back : List Literal) → (clause_at c d.clause).literals ≡ front ++ (unequal (application_tree c a) (application_tree c b) ∷ back) → length front ≡ at → IsChanged c d r front (map (literal_at c) parts-literals) back
  applications-apart r apart front back is count =
      apart front back (unequal (application_tree c a) (application_tree c b)) is count
      (applications (tree_at c a.function) (tree_at c b.function) (tree_at c a.argument) (tree_at c b.argument)) functions-same
      (typed-parts (between-get (clause_at c d.clause).literals front back at (unequal (application_tree c a) (application_tree c b)) is count))

  -- the functions stand where the applications stood
  pub functions-stand : (r : Derived) → TakesApart c d at parts-literals r → HasUnequalApplications c d.clause at a b → HasUnequal c r.clause at a.function b.function
  functions-stand r apart h =
      let g = applications-apart r apart h.front h.back h.is h.count in
      record { front = h.front; back = unequal (tree_at c a.argument) (tree_at c b.argument) ∷ h.back; is = g.literals; count = h.count }

  pub apart-typed : (r : Derived) → TakesApart c d at parts-literals r → HasUnequalApplications c d.clause at a b → IsTypedIn c r.clause
  apart-typed r apart h = (applications-apart r apart h.front h.back h.is h.count).typed

  abbrev function-parts : List Pair
  function-parts = parts_left (tree_at c a.function) (tree_at c b.function)

  pub functions-left : (r : Derived) (m : Relieved) → TakesApart c d at parts-literals r → Leaves c r at a.function b.function function-parts m → (front back : List Literal) → (clause_at c d.clause).literals ≡ front ++ (unequal (application_tree c a) (application_tree c b) ∷ back) → length front ≡ at →
      IsChanged c r m.derived front (map unequal_pair function-parts) (unequal (tree_at c a.argument) (tree_at c b.argument) ∷ back)
  functions-left r m apart h front back is count =
      h.leaves front (unequal (tree_at c a.argument) (tree_at c b.argument) ∷ back) (applications-apart r apart front back is count).literals count

  -- the arguments stand behind what is left of the functions
  pub arguments-stand : (r : Derived) (m : Relieved) → TakesApart c d at parts-literals r → Leaves c r at a.function b.function function-parts m → HasUnequalApplications c d.clause at a b → HasUnequal c m.derived.clause m.end a.argument b.argument
  arguments-stand r m apart h k =
      let g = functions-left r m apart h k.front k.back k.is k.count in
      stands-next (clause_at c m.derived.clause).literals k.front k.back (map unequal_pair function-parts) at m.end (unequal (tree_at c a.argument) (tree_at c b.argument)) g.literals k.count (h.end ∙ ap (λ n. at + n) (sym (pairs-count function-parts)))

  pub functions-typed : (r : Derived) (m : Relieved) → TakesApart c d at parts-literals r → Leaves c r at a.function b.function function-parts m → HasUnequalApplications c d.clause at a b → IsTypedIn c m.derived.clause
  functions-typed r m apart h k = (functions-left r m apart h k.front k.back k.is k.count).typed

  pub applications-leave : (r : Derived) (m w : Relieved) → TakesApart c d at parts-literals r → Leaves c r at a.function b.function function-parts m → Leaves c m.derived m.end a.argument b.argument (residue (tree_at c a.argument) (tree_at c b.argument)) w → LeavesApplications c d at a b w
  applications-leave r m w apart h g =
      let ps = function-parts in
      let qs = residue (tree_at c a.argument) (tree_at c b.argument) in
      let x : Literal = unequal (tree_at c a.argument) (tree_at c b.argument) in
      let e : parts_left (application_tree c a) (application_tree c b) ≡ ps ++ qs = parts-application (tree_at c a.function) (tree_at c a.argument) (tree_at c b.function) (tree_at c b.argument) parts in
      record {
        leaves = λ front back is count.
            let one = applications-apart r apart front back is count in
            let two = functions-left r m apart h front back is count in
            let stands : (clause_at c m.derived.clause).literals ≡ (front ++ map unequal_pair ps) ++ (x ∷ back) = two.literals ∙ sym (append_assoc front (map unequal_pair ps) (x ∷ back)) in
            let end : length (front ++ map unequal_pair ps) ≡ m.end = count-pairs front ps at count ∙ sym h.end in
            let last = g.leaves (front ++ map unequal_pair ps) back stands end in
            let some = changed-twice c r m.derived w.derived front (map unequal_pair ps) (x ∷ back) (front ++ map unequal_pair ps) (map unequal_pair qs) back front (map unequal_pair (ps ++ qs)) back two last (regrouped front ps qs back) in
            rw e (changed-twice c d r w.derived front (map (literal_at c) parts-literals) back front (map unequal_pair (ps ++ qs)) back front (map unequal_pair (ps ++ qs)) back one some refl);
        end = g.end ∙ rw (e, h.end) (count-both at ps qs);
      }

-- two choices
module _ (c : Contents) (b : IsBank c) (d : Derived) (at l r p q : ℕ) (typed : IsTypedIn c d.clause) (left : l < length c.terms) (right : r < length c.terms) (choices : AreChoices (tree_at c l) (tree_at c r) (tree_at c p) (tree_at c q)) (present : p < length c.terms) where
  abbrev properties : List Lit
  properties = (record { pos = false; left = p; right = q }) ∷ []

  left-well : IsWellTyped (logic (choice choices.at) (tree_at c p) choices.first)
  left-well = subst IsWellTyped choices.left_is (term-typed b l left)

  right-well : IsWellTyped (logic (choice choices.at) (tree_at c q) choices.second)
  right-well = subst IsWellTyped choices.right_is (term-typed b r right)

  present-alone : (t u : Tree) → IsPresent t → unequal_if_present t u ≡ unequal t u ∷ []
  present-alone (variable n a) u h = refl
  present-alone (bound i a) u h = refl
  present-alone (symbol s a) u h = refl
  present-alone (app f x) u h = refl
  present-alone (lam a t) u h = refl
  present-alone (logic k x y) u h = refl
  present-alone absent u h = absurd h

  decomposes : Decomposes (unequal (tree_at c l) (tree_at c r)) (map (literal_at c) properties)
  decomposes =
      let e : unequal_if_present choices.first choices.second ≡ [] = rw left-well.2.1 refl in
      let f : unequal_if_present (tree_at c p) (tree_at c q) ++ unequal_if_present choices.first choices.second ≡ map (literal_at c) properties = rw (e, present-alone (tree_at c p) (tree_at c q) left-well.2.0.0) refl in
      rw (choices.left_is, choices.right_is) (subst (Decomposes (unequal (logic (choice choices.at) (tree_at c p) choices.first) (logic (choice choices.at) (tree_at c q) choices.second))) f (constants (choice choices.at) (tree_at c p) choices.first (tree_at c q) choices.second))

  one-head : HaveOneHeadType (tree_at c l) (tree_at c r)
  one-head = rw (choices.left_is, choices.right_is) refl

  properties-typed : slice_get (clause_at c d.clause).literals at ≡ Some (unequal (tree_at c l) (tree_at c r)) → AreTyped (clause_at c d.clause).variables (map (literal_at c) properties)
  properties-typed e =
      let h = typed-at (clause_at c d.clause).variables (clause_at c d.clause).literals at (unequal (tree_at c l) (tree_at c r)) typed.typed e in
      let m = subst (IsOver (clause_at c d.clause).variables 0) choices.left_is h.left_over in
      let n = subst (IsOver (clause_at c d.clause).variables 0) choices.right_is h.right_over in
      (record { left_over = m.0; right_over = n.0; same_type = left-well.2.0.1 ∙ sym right-well.2.0.1 }, tt)

  pub choices-apart : (s : Derived) → TakesApart c d at properties s → (front back : List Literal) → (clause_at c d.clause).literals ≡ front ++ (unequal (tree_at c l) (tree_at c r) ∷ back) → length front ≡ at → IsChanged c d s front (map (literal_at c) properties) back
  choices-apart s apart front back is count =
      apart front back (unequal (tree_at c l) (tree_at c r)) is count decomposes one-head
      (properties-typed (between-get (clause_at c d.clause).literals front back at (unequal (tree_at c l) (tree_at c r)) is count))

  pub properties-stand : (s : Derived) → TakesApart c d at properties s → HasUnequal c d.clause at l r → HasUnequal c s.clause at p q
  properties-stand s apart h = let g = choices-apart s apart h.front h.back h.is h.count in record { front = h.front; back = h.back; is = g.literals; count = h.count }

  pub choices-typed : (s : Derived) → TakesApart c d at properties s → HasUnequal c d.clause at l r → IsTypedIn c s.clause
  choices-typed s apart h = (choices-apart s apart h.front h.back h.is h.count).typed

  pub choices-leave : (s : Derived) (w : Relieved) → TakesApart c d at properties s → Leaves c s at p q (residue (tree_at c p) (tree_at c q)) w → Leaves c d at l r (parts_left (tree_at c l) (tree_at c r)) w
  choices-leave s w apart h =
      let qs = residue (tree_at c p) (tree_at c q) in
      record {
        leaves = λ front back is count.
            let one = choices-apart s apart front back is count in
            let two = h.leaves front back one.literals count in
            rw choices.parts (changed-twice c d s w.derived front (map (literal_at c) properties) back front (map unequal_pair qs) back front (map unequal_pair qs) back one two refl);
        end = rw choices.parts h.end;
      }

-- equal sides
pub equal-leave : (c : Contents) (d s : Derived) (at l r : ℕ) (pairs : List Pair) (w : Relieved) → tree_at c l ≡ tree_at c r → pairs ≡ [] → Omits c d at s → w ≡ record { derived = s; end = at } → Leaves c d at l r pairs w
equal-leave c d s at l r pairs w same none omits is = rw is (record {
  leaves = λ front back e count. rw none (omits front back (unequal (tree_at c l) (tree_at c r)) e count (rw same (self_unequal (tree_at c r))));
  end = rw none (omega arith);
})

-- the inequation itself
pub whole-leave : (c : Contents) (d : Derived) (at l r end : ℕ) (pairs : List Pair) → IsTypedIn c d.clause → pairs ≡ (record { left = tree_at c l; right = tree_at c r }) ∷ [] → end ≡ at + 1 → Leaves c d at l r pairs (record { derived = d; end = end })
whole-leave c d at l r end pairs typed one is = record {
  leaves = λ front back e count. rw one (changed-none c d front (unequal (tree_at c l) (tree_at c r) ∷ []) back typed e);
  end = is ∙ rw one refl;
}

-- terms of a bank
pub equal-terms : (c : Contents) (l r : ℕ) (t : Bool) → t ≡ nat_eq l r → t ≡ true → tree_at c l ≡ tree_at c r
equal-terms c l r t e h = let f : l ≡ r = (let g : nat_eq l r ≡ true = sym e ∙ h in grind (arith, nat_tests)) in ap (tree_at c) f

none-of : (o : Option (List Pair)) → is_some o ≡ false → None ≡ o
none-of None h = refl
none-of (Some ps) h = absurd (cc)

pub no-parts-left : (c : Contents) → IsBank c → (l r : ℕ) → l < length c.terms → r < length c.terms → (t : Bool) → t ≡ nat_eq l r → t ≡ false → (h : Bool) → h ≡ is_some (left_of_arguments (tree_at c l) (tree_at c r)) → h ≡ false → residue (tree_at c l) (tree_at c r) ≡ (record { left = tree_at c l; right = tree_at c r }) ∷ []
no-parts-left c b l r left right t e f h g k = sym (residue-other c b l r left right t e f None (none-of (left_of_arguments (tree_at c l) (tree_at c r)) (sym g ∙ k)))

some-unwrapped : (o : Option (List Pair)) (ps qs : List Pair) → is_some o ≡ true → unwrap_or o ps ≡ unwrap_or o qs
some-unwrapped None ps qs h = absurd (cc)
some-unwrapped (Some xs) ps qs h = refl

pub parts-are-left : (c : Contents) → IsBank c → (l r : ℕ) → l < length c.terms → r < length c.terms → (t : Bool) → t ≡ nat_eq l r → t ≡ false → is_some (left_of_arguments (tree_at c l) (tree_at c r)) ≡ true → residue (tree_at c l) (tree_at c r) ≡ parts_left (tree_at c l) (tree_at c r)
parts-are-left c b l r left right t e f h =
    sym (residue-other c b l r left right t e f (left_of_arguments (tree_at c l) (tree_at c r)) refl) ∙
    some-unwrapped (left_of_arguments (tree_at c l) (tree_at c r)) ((record { left = tree_at c l; right = tree_at c r }) ∷ []) [] h

-- an application of the bank
pub record IsApplied (c : Contents) (l : ℕ) (a : Application) : Type 0 where
  pub application : IsApplicationIn c a
  pub is : tree_at c l ≡ application_tree c a

pub application-in : (c : Contents) → IsBank c → (l : ℕ) (a : Application) → l < length c.terms → a.function < l → a.argument < l → Some (application_at c a) ≡ application_of (tree_at c l) → IsApplied c l a
application-in c b l a within f x e =
    let is = application-is (tree_at c l) (tree_at c a.function) (tree_at c a.argument) (sym e) in
    record {
      application = record { function_within = omega arith; argument_within = omega arith; typed = subst IsWellTyped is (term-typed b l within) };
      is = is;
    }

pub applications-stand : (c : Contents) (k : Clause) (at l r : ℕ) (a b : Application) → IsApplied c l a → IsApplied c r b → HasUnequal c k at l r → HasUnequalApplications c k at a b
applications-stand c k at l r a b h g s = rw (h.is, g.is) at s

pub applications-parts : (c : Contents) (l r : ℕ) (a b : Application) → IsApplied c l a → IsApplied c r b → is_some (left_of_arguments (tree_at c l) (tree_at c r)) ≡ true → is_some (left_of_arguments (tree_at c a.function) (tree_at c b.function)) ≡ true
applications-parts c l r a b h g s = parts-functions (tree_at c a.function) (tree_at c a.argument) (tree_at c b.function) (tree_at c b.argument) (rw (h.is, g.is) at s)

pub applied-leave : (c : Contents) (d : Derived) (at l r : ℕ) (a b : Application) (w : Relieved) → IsApplied c l a → IsApplied c r b → LeavesApplications c d at a b w → Leaves c d at l r (parts_left (tree_at c l) (tree_at c r)) w
applied-leave c d at l r a b w h g s = record { leaves = rw (h.is, g.is) s.leaves; end = rw (h.is, g.is) s.end }
