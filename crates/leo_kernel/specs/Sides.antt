-- What the calls that decompose an inequation say to one another. No public contract speaks of it.
use Rattle.std.specs.Prelude.{ℕ, ◌<◌, length, Bool, true, false, List, [], ◌∷◌, ◌++◌, Option, Some, None}
use Rattle.leo_terms.specs.Tree.{Tree, variable, bound, symbol, app, lam, logic, absent, Connective}
use Rattle.leo_terms.specs.Contents.{Contents}
use Rattle.leo_clause.specs.declared.clause.Lit.{Lit}
use Rattle.leo_clause.specs.Trees.{Literal, literal_at}
use Rattle.leo_clause.specs.Sameness.{same_connective}
use Rattle.leo_kernel.specs.declared.decompose.PartPairs.{PartPairs}
use Rattle.leo_kernel.specs.declared.decompose.PartPairs.TheVariants as parts
use Rattle.leo_kernel.specs.Shapes.{unequal}
use Rattle.leo_kernel.specs.Conclusions.{unequal_if_present}

abbrev pub if_same : Bool → List Literal → Option (List Literal)
if_same true new = Some new
if_same false new = None

-- what `f x ≠ t`, and `c x y ≠ t`, become
abbrev pub app_sides : Tree → Tree → Tree → Option (List Literal)
app_sides f x (app g y) = Some (unequal f g ∷ unequal x y ∷ [])
app_sides f x (variable n a) = None
app_sides f x (bound i a) = None
app_sides f x (symbol n a) = None
app_sides f x (lam a t) = None
app_sides f x (logic c y z) = None
app_sides f x absent = None

abbrev pub logic_sides : Connective → Tree → Tree → Tree → Option (List Literal)
logic_sides c x y (logic d z w) = if_same (same_connective c d) (unequal_if_present x z ++ unequal_if_present y w)
logic_sides c x y (variable n a) = None
logic_sides c x y (bound i a) = None
logic_sides c x y (symbol n a) = None
logic_sides c x y (app f z) = None
logic_sides c x y (lam a t) = None
logic_sides c x y absent = None

abbrev pub sides : Tree → Tree → Option (List Literal)
sides (app f x) t = app_sides f x t
sides (logic c x y) t = logic_sides c x y t
sides (variable n a) t = None
sides (bound i a) t = None
sides (symbol n a) t = None
sides (lam a s) t = None
sides absent t = None

-- a term that may be missing stands there where the other one does
abbrev pub StandsWith : Option ℕ → Option ℕ → Type 0
StandsWith None z = Unit {0}
StandsWith (Some x) None = ⊥
StandsWith (Some x) (Some z) = Unit {0}

abbrev pub pair_at : Contents → Option Lit → List Literal
pair_at c None = []
pair_at c (Some l) = literal_at c l ∷ []

abbrev pub pairs_at : Contents → PartPairs → Option (List Literal)
pairs_at c (parts.Pairs l k) = Some (pair_at c l ++ pair_at c k)
pairs_at c parts.Different = None

-- the sides of a literal that may be missing are terms of the bank
abbrev pub IsPair : Contents → Option Lit → Type 0
IsPair c None = Unit {0}
IsPair c (Some l) = (l.left < length c.terms) × (l.right < length c.terms)

abbrev pub ArePairs : Contents → PartPairs → Type 0
ArePairs c (parts.Pairs l k) = IsPair c l × IsPair c k
ArePairs c parts.Different = Unit {0}
