-- Which paramodulations are due from one clause into another.
use Rattle.std.specs.Prelude.{ℕ, suc, Bool, true, false, ◌&&◌, ◌||◌, ◌+◌, ◌-◌, if◌then◌else◌, List, [], ◌∷◌, ◌++◌, length}
use Rattle.std.specs.List.{flat_map}
use Rattle.leo_q0.specs.Terms.{same_type}
use Rattle.leo_terms.specs.Tree.{Tree, type_of}
use Rattle.leo_clause.specs.declared.record.Side.{Side}
use Rattle.leo_clause.specs.declared.record.Side.TheVariants.{Left, Right}
use Rattle.leo_clause.specs.Trees.{Literal, ClauseTree}
use Rattle.leo_clause.specs.Sameness.{same_tree}
use Rattle.leo_kernel.specs.Shapes.{truth_tree, side_of}
use Rattle.leo_kernel.specs.Conclusions.{paramodulant}
use Rattle.leo_kernel.specs.Steps.{Line, para}
use Rattle.leo_para.specs.Spines.{heads_meet}
use Rattle.leo_para.specs.Places.{Place, places}

-- the literal says that a formula is true, or false: its right side is T or F
abbrev pub is_formula : Literal → Bool
is_formula l = same_tree l.right (truth_tree true) || same_tree l.right (truth_tree false)

-- the sides of a literal that are used
abbrev pub used_sides : Literal → List Side
used_sides l = if is_formula l then (Left ∷ []) else (Left ∷ Right ∷ [])

-- the equation, its side that is looked for, and the literal, its side and the path to what is replaced by the other side
pub record Member : Type 0 where
  pub literal : ℕ
  pub equation : Literal
  pub side : Side
  pub place : ℕ
  pub target : Literal
  pub place_side : Side
  pub path : List ℕ
  pub term : Tree

-- what is given for each literal with its number, from a number on
abbrev pub each_literal : {X : Type 0} → (ℕ → Literal → List X) → ℕ → List Literal → List X
each_literal give n [] = []
each_literal give n (l ∷ ls) = give n l ++ each_literal give (suc n) ls

-- a member at a place, if heads meet there and the types are equal
abbrev pub member_at : ℕ → Literal → Side → ℕ → Literal → Side → Place → List Member
member_at i l s j k r p =
    if (heads_meet p.path (side_of s l) p.term && same_type (type_of (side_of s l)) (type_of p.term)) then
    (record { literal = i; equation = l; side = s; place = j; target = k; place_side = r; path = p.path; term = p.term } ∷ []) else []

-- those of a side of an equation with the places of a literal
abbrev pub members_of_target : ℕ → Literal → Side → ℕ → Literal → List Member
members_of_target i l s j k = flat_map (λ r. flat_map (member_at i l s j k r) (places (side_of r k))) (used_sides k)

-- those of an equation
abbrev pub members_of_equation : List Literal → ℕ → Literal → List Member
members_of_equation targets i l = if l.positive then flat_map (λ s. each_literal (members_of_target i l s) 0 targets) (used_sides l) else []

-- all that are due: by the equation and its side, then by the literal, its side and the place in it
abbrev pub due_members : ClauseTree → ClauseTree → List Member
due_members source target = each_literal (members_of_equation target.literals) 0 source.literals

-- the step of a member, where line 0 has the equation and line 1 the place
abbrev pub member_line : ClauseTree → ClauseTree → Member → Line
member_line source target m = record {
  clause = paramodulant source m.literal m.equation m.side target m.place m.target m.place_side m.path m.term;
  rule = para 0 m.literal m.side 1 m.place m.place_side m.path;
}

-- the number of the literal of the step's clause that is to be solved: the last one
abbrev pub solved_literal : ClauseTree → ClauseTree → ℕ
solved_literal source target = length source.literals - 1 + length target.literals
