-- What the calls that take literals of a bank apart hand on. No public contract speaks of it.
use Rattle.std.specs.Prelude.{ℕ, ◌<◌, [], ◌∷◌, length, Option, None}
use Rattle.leo_terms.specs.Contents.{Contents, IsArrow, tree_at, type_at, type_number}
use Rattle.leo_clause.specs.Trees.{literal_at}
use Rattle.leo_kernel.specs.declared.rows.Formula as declared
use Rattle.leo_kernel.specs.declared.rows.Formula.TheVariants as top
use Rattle.leo_kernel.specs.declared.rows.Taken.{Taken}
use Rattle.leo_kernel.specs.declared.rows.Taken.TheVariants as taken
use Rattle.leo_kernel.specs.Parts.{Formula, negated, disjoined, conjoined, implied, equated, for_all, for_some, other, Pieces, pieces, with_fresh}

abbrev pub formula_at : Contents → declared.Formula → Formula
formula_at c (top.Not a) = negated (tree_at c a)
formula_at c (top.Or a b) = disjoined (tree_at c a) (tree_at c b)
formula_at c (top.And a b) = conjoined (tree_at c a) (tree_at c b)
formula_at c (top.Imp a b) = implied (tree_at c a) (tree_at c b)
formula_at c (top.Eq i a b) = equated (type_at c i) (tree_at c a) (tree_at c b)
formula_at c (top.All i p) = for_all (type_at c i) (tree_at c p)
formula_at c (top.Some i p) = for_some (type_at c i) (tree_at c p)
formula_at c top.Other = other

-- a property of things of this type
pub record IsPropertyOf (c : Contents) (i p : ℕ) : Type 0 where
  pub type_within : i < length c.types
  pub within : p < length c.terms
  pub typed : IsArrow c (type_number c p) i 0

-- the numbers are numbers of the bank
abbrev pub AreParts : Contents → declared.Formula → Type 0
AreParts c (top.Not a) = a < length c.terms
AreParts c (top.Or a b) = (a < length c.terms) × (b < length c.terms)
AreParts c (top.And a b) = (a < length c.terms) × (b < length c.terms)
AreParts c (top.Imp a b) = (a < length c.terms) × (b < length c.terms)
AreParts c (top.Eq i a b) = (a < length c.terms) × (b < length c.terms)
AreParts c (top.All i p) = IsPropertyOf c i p
AreParts c (top.Some i p) = IsPropertyOf c i p
AreParts c top.Other = Unit {0}

abbrev pub taken_at : Contents → ℕ → Taken → Option Pieces
taken_at c next (taken.One l) = pieces (literal_at c l ∷ [])
taken_at c next (taken.Two l k) = pieces (literal_at c l ∷ literal_at c k ∷ [])
taken_at c next (taken.Fresh i p v) = with_fresh next (type_at c i) (tree_at c p) v
taken_at c next taken.Nothing = None

abbrev pub AreTaken : Contents → Taken → Type 0
AreTaken c (taken.One l) = (l.left < length c.terms) × (l.right < length c.terms)
AreTaken c (taken.Two l k) = (l.left < length c.terms) × (l.right < length c.terms) × (k.left < length c.terms) × (k.right < length c.terms)
AreTaken c (taken.Fresh i p v) = IsPropertyOf c i p
AreTaken c taken.Nothing = Unit {0}
