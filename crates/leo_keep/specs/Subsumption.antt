-- When a clause says no less than another: a substitution sends its literals among those of the other.
use Rattle.std.specs.Prelude.{ℕ, ◌≡◌, ◌<◌, ◌≤◌, true, List, [], ◌∷◌, length, map}
use Rattle.std.specs.List.{list_any}
use Rattle.leo_q0.specs.Terms.{SimpleType, base, arrow}
use Rattle.leo_terms.specs.Tree.{Tree, variable, type_of}
use Rattle.leo_terms.specs.Typing.{IsWellTyped, IsPresent}
use Rattle.leo_terms.specs.Facts.{loose_range}
use Rattle.leo_clause.specs.Trees.{Literal, ClauseTree}
use Rattle.leo_clause.specs.Sameness.{same_literal}
use Rattle.leo_clause.specs.Renaming.{substituted_literal}

-- a term of this type without loose indices
pub record IsClosedOf (a : SimpleType) (t : Tree) : Type 0 where
  pub well_typed : IsWellTyped t
  pub present : IsPresent t
  pub of_type : type_of t ≡ a
  pub no_loose : loose_range t ≡ 0

-- what may be put in for a variable of this type: of a base type any term without loose indices, of an arrow type a variable
abbrev pub MayReplace : SimpleType → Tree → Type 0
MayReplace (base n) t = IsClosedOf (base n) t
MayReplace (arrow a b) t = (n : ℕ) × (t ≡ variable n (arrow a b))

-- a term for each variable, by number
abbrev pub AreReplacements : List SimpleType → List Tree → Type 0
AreReplacements [] [] = Unit {0}
AreReplacements [] (t ∷ ts) = ⊥
AreReplacements (a ∷ variables) [] = ⊥
AreReplacements (a ∷ variables) (t ∷ ts) = MayReplace a t × AreReplacements variables ts

-- each literal is among the others, as it is or turned
abbrev pub AreAmong : List Literal → List Literal → Type 0
AreAmong [] ks = Unit {0}
AreAmong (l ∷ ls) ks = (list_any (same_literal l) ks ≡ true) × AreAmong ls ks

-- the clause has one to three literals, and with some terms for its variables each of them is among those of the other
pub record Subsumes (c d : ClauseTree) : Type 0 where
  pub not_empty : 0 < length c.literals
  pub few : length c.literals ≤ 3
  pub terms : List Tree
  pub replacements : AreReplacements c.variables terms
  pub among : AreAmong (map (substituted_literal terms) c.literals) d.literals
