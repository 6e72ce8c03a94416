-- The part of a bank that some of its terms take.
use Rattle.std.specs.Prelude.{ℕ, ◌≡◌, ◌<◌, List, length, map, slice_get, Some}
use Rattle.leo_q0.specs.Terms.{SimpleType}
use Rattle.leo_terms.specs.Tree.{Tree, app, lam, logic, Connective}
use Rattle.leo_terms.specs.Contents.{Contents, IsBank, AreTerms, tree_at, type_number}

-- the first term is the second, or stands in it
pub data IsSubterm : Tree → Tree → Type 0 where
  whole : (t : Tree) → IsSubterm t t
  in_function : (s f x : Tree) → IsSubterm s f → IsSubterm s (app f x)
  in_argument : (s f x : Tree) → IsSubterm s x → IsSubterm s (app f x)
  in_body : (s : Tree) (a : SimpleType) (t : Tree) → IsSubterm s t → IsSubterm s (lam a t)
  in_first : (s : Tree) (c : Connective) (x y : Tree) → IsSubterm s x → IsSubterm s (logic c x y)
  in_second : (s : Tree) (c : Connective) (x y : Tree) → IsSubterm s y → IsSubterm s (logic c x y)

-- s is a subterm of one of the terms
pub record IsSubtermOfOne (s : Tree) (ts : List Tree) : Type 0 where
  pub place : ℕ
  pub term : Tree
  pub stands : slice_get ts place ≡ Some term
  pub subterm : IsSubterm s term

-- each term of the bank is a subterm of one of the terms ts
unfoldable pub HasOnly : Contents → List Tree → Type 0
HasOnly d ts = (u : ℕ) → u < length d.terms → IsSubtermOfOne (tree_at d u) ts

-- d is the bank c with no terms but ts and their subterms, and there the terms ts have the numbers us
pub record IsPart (c : Contents) (ts : List ℕ) (d : Contents) (us : List ℕ) : Type 0 where
  pub bank : IsBank d
  pub rest : d ≡ record c { terms = d.terms }
  pub terms : AreTerms d us
  pub reads : map (tree_at d) us ≡ map (tree_at c) ts
  pub type_numbers : map (type_number d) us ≡ map (type_number c) ts
  pub only : HasOnly d (map (tree_at c) ts)
