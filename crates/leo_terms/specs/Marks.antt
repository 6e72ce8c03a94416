-- How the terms that a part of a bank needs are marked and made again. Only private calls speak of it.
use Rattle.std.specs.Prelude.{ℕ, ◌≡◌, ◌<◌, ◌≤◌, ◌⊎◌, Bool, true, List, length, map, get_or, slice_get, Option, Some, None}
use Rattle.std.specs.Option.{option_map}
use Rattle.leo_terms.specs.declared.node.View.{View}
use Rattle.leo_terms.specs.declared.node.View.TheVariants.{Var, Bound, Sym, App, Lam, Logic}
use Rattle.leo_terms.specs.Contents.{Contents, IsSound, IsTerm, node, tree_at, type_number}
use Rattle.leo_terms.specs.Parts.{IsSubtermOfOne}

-- the term t is marked
pub record IsMarked (marks : List Bool) (t : ℕ) : Type 0 where
  pub mark : slice_get marks t ≡ Some true

-- the first and the second term in a view
abbrev pub first_part : View → Option ℕ
first_part (Var n) = None
first_part (Bound i) = None
first_part (Sym s) = None
first_part (App f x) = Some f
first_part (Lam a t) = Some t
first_part (Logic o x y) = x

abbrev pub second_part : View → Option ℕ
second_part (Var n) = None
second_part (Bound i) = None
second_part (Sym s) = None
second_part (App f x) = Some x
second_part (Lam a t) = None
second_part (Logic o x y) = y

-- t stands in the view
abbrev pub IsPartOf : ℕ → View → Type 0
IsPartOf t v = (first_part v ≡ Some t) ⊎ (second_part v ≡ Some t)

-- the marks have gained those of the terms that meet the condition
pub record Marks (old new : List Bool) (added : ℕ → Type 0) : Type 0 where
  pub same_length : length new ≡ length old
  pub kept : (i : ℕ) → IsMarked old i → IsMarked new i
  pub gained : (i : ℕ) → added i → IsMarked new i
  pub only : (i : ℕ) → IsMarked new i → IsMarked old i ⊎ added i

-- the parts of marked terms from the number `from` on are marked
abbrev pub ArePartsMarked : Contents → List Bool → ℕ → Type 0
ArePartsMarked c marks from = (t : ℕ) (v : View) → from ≤ t → IsMarked marks t → slice_get c.terms t ≡ Some (node v (type_number c t)) → (i : ℕ) → IsPartOf i v → IsMarked marks i

-- each term is marked, and what is marked is a subterm of one of them
pub record AreNeeded (c : Contents) (ts : List ℕ) (marks : List Bool) (from : ℕ) : Type 0 where
  pub of_bank : length marks ≡ length c.terms
  pub given : (k t : ℕ) → slice_get ts k ≡ Some t → IsMarked marks t
  pub parts : ArePartsMarked c marks from
  pub only : (t : ℕ) → IsMarked marks t → IsSubtermOfOne (tree_at c t) (map (tree_at c) ts)

-- a view with the numbers that its terms have now
abbrev pub moved_view : List ℕ → View → View
moved_view numbers (Var n) = Var n
moved_view numbers (Bound i) = Bound i
moved_view numbers (Sym s) = Sym s
moved_view numbers (App f x) = App (get_or numbers f 0) (get_or numbers x 0)
moved_view numbers (Lam a t) = Lam a (get_or numbers t 0)
moved_view numbers (Logic o x y) = Logic o (option_map (λ t. get_or numbers t 0) x) (option_map (λ t. get_or numbers t 0) y)

-- what stands in the view of the term t has its numbers in d
abbrev pub AreMovedParts : Contents → Contents → List ℕ → ℕ → Type 0
AreMovedParts c d numbers t = (v : View) → slice_get c.terms t ≡ Some (node v (type_number c t)) → (i : ℕ) → IsPartOf i v → IsTerm d (get_or numbers i 0) (type_number c i) (tree_at c i)

-- d is the bank c with no terms but marked ones; those before the number `to` have their numbers there
pub record IsMoved (c : Contents) (marks : List Bool) (d : Contents) (numbers : List ℕ) (to : ℕ) : Type 0 where
  pub sound : IsSound d
  pub rest : d ≡ record c { terms = d.terms }
  pub count : length numbers ≡ to
  pub moved : (t : ℕ) → t < to → IsMarked marks t → IsTerm d (get_or numbers t 0) (type_number c t) (tree_at c t)
  pub only : (u : ℕ) → u < length d.terms → (t : ℕ) × (IsMarked marks t) × (tree_at d u ≡ tree_at c t)
