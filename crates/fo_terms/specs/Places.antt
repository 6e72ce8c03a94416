-- The terms that stand at the places of a list of nodes.
use Rattle.std.specs.Prelude.{ℕ, zero, suc, ◌≡◌, ◌<◌, ◌≤◌, List, [], ◌∷◌, Some, length, slice_get}
use Rattle.fo_terms.specs.declared.term.FoNode.{FoNode}
use Rattle.fo_terms.specs.declared.term.FoNode.TheVariants.{Var, Sym}
use Rattle.fo_terms.specs.Terms.{Term, Terms, none, count, terms_after, first_term}
use Rattle.fo_terms.specs.Prefix.{terms_of}

-- the terms from a place on
abbrev pub terms_at : List FoNode → ℕ → Terms
terms_at [] i = none
terms_at (n ∷ ns) zero = terms_of (n ∷ ns)
terms_at (n ∷ ns) (suc i) = terms_at ns i

-- the term at a place
abbrev pub term_at : List FoNode → ℕ → Term
term_at ns i = first_term (terms_at ns i)

-- how many terms stand behind a node as its arguments
abbrev pub arguments_of : FoNode → ℕ
arguments_of (Var v) = 0
arguments_of (Sym f n) = n

-- each node has all its arguments
abbrev pub IsFull : List FoNode → Type 0
IsFull ns = (i : ℕ) (n : FoNode) → slice_get ns i ≡ Some n → arguments_of n ≤ count (terms_at ns (suc i))

-- and so has each from a place on
abbrev pub IsFullFrom : ℕ → List FoNode → Type 0
IsFullFrom from ns = (i : ℕ) (n : FoNode) → from ≤ i → slice_get ns i ≡ Some n → arguments_of n ≤ count (terms_at ns (suc i))

-- the second place is the one behind the term at the first
pub record IsBehind (ns : List FoNode) (i e : ℕ) : Type 0 where
  pub later : i < e
  pub inside : e ≤ length ns
  pub reads : terms_at ns e ≡ terms_after 1 (terms_at ns i)

-- the second place is the one behind so many terms, which begin behind the first
pub record IsPassed (ns : List FoNode) (i n e : ℕ) : Type 0 where
  pub later : i < e
  pub inside : e ≤ length ns
  pub reads : terms_at ns e ≡ terms_after n (terms_at ns (suc i))

-- the list has at each place from one on the place behind the term there
abbrev pub AreEndsFrom : ℕ → List FoNode → List ℕ → Type 0
AreEndsFrom from ns ends = (i e : ℕ) → from ≤ i → slice_get ends i ≡ Some e → IsBehind ns i e

-- a list of nodes with the place behind the term of each
pub record ArePlaces (ns : List FoNode) (ends : List ℕ) : Type 0 where
  pub full : IsFull ns
  pub as_long : length ends ≡ length ns
  pub behind : AreEndsFrom 0 ns ends
