-- What the calls that reduce a literal say to one another. No public contract speaks of it.
use Rattle.std.specs.Prelude.{ℕ, ◌≡◌, ◌≤◌, Bool, true, false, List, [], ◌∷◌, length, map, slice_get, Option, Some, None}
use Rattle.leo_q0.specs.Terms.{SimpleType}
use Rattle.leo_terms.specs.Contents.{Contents, type_at}
use Rattle.leo_terms.specs.Tree.{app, variable}
use Rattle.leo_clause.specs.Choices.{choice_at}
use Rattle.leo_clause.specs.Trees.{Literal, clause_at, literal_at}
use Rattle.leo_clause.specs.Typed.{AreLiteralsOf, AreTypesOf, IsOver}
use Rattle.leo_clause.specs.declared.clause.Lit.{Lit}
use Rattle.leo_clause.specs.declared.record.LogicKind.{LogicKind}
use Rattle.leo_kernel.specs.Choosing.{value}
use Rattle.leo_kernel.specs.Shapes.{valued}
use Rattle.leo_clausify.specs.declared.branch.Branch.{Branch}
use Rattle.leo_clausify.specs.declared.branch.Pieces.{Pieces}
use Rattle.leo_clausify.specs.declared.ways.Way as declared
use Rattle.leo_clausify.specs.declared.ways.Way.TheVariants as code
use Rattle.leo_clausify.specs.Branches.{IsExtended, Precedes}
use Rattle.leo_clausify.specs.Choosing.{AreInOrder}
use Rattle.leo_clausify.specs.Forms.{Form, Forms, no_form, one_form, two_forms}
use Rattle.leo_clausify.specs.Picking.{IsPicked}
use Rattle.leo_clausify.specs.Splitting.{Becomes}
use Rattle.leo_clausify.specs.Ways.{Way, turned, omitted, single, double, sides, fresh, chosen, kind_chosen, IsRow}

-- whether anything can be done
abbrev pub is_form : Forms → Bool
is_form no_form = false
is_form (one_form f) = true
is_form (two_forms f g) = true

-- the literal is taken apart by a rule about truth values
abbrev pub IsTaken : declared.Way → Type 0
IsTaken code.Turn = ⊥
IsTaken code.Omit = ⊥
IsTaken (code.Single k a v) = Unit {0}
IsTaken (code.Double k a v b w) = Unit {0}
IsTaken (code.Sides k p s t) = Unit {0}
IsTaken (code.Fresh k i p v) = Unit {0}
IsTaken (code.Chosen i p v) = Unit {0}

-- what such a rule gives in a clause with these variables
abbrev pub PiecesBy : ℕ → Contents → Contents → List (ℕ × ℕ) → List (ℕ × ℕ) → List SimpleType → Way → LogicKind → Option ℕ → List SimpleType → List Literal → Type 0
PiecesBy known c d before after variables turned kind abbr types new = ⊥
PiecesBy known c d before after variables omitted kind abbr types new = ⊥
PiecesBy known c d before after variables (single k a v) kind abbr types new = (kind ≡ k) × (abbr ≡ None) × (types ≡ []) × (new ≡ valued a v ∷ []) × (after ≡ before)
PiecesBy known c d before after variables (double k a v b w) kind abbr types new = (kind ≡ k) × (abbr ≡ None) × (types ≡ []) × (new ≡ valued a v ∷ valued b w ∷ []) × (after ≡ before)
PiecesBy known c d before after variables (sides k p s t) kind abbr types new = (kind ≡ k) × (abbr ≡ None) × (types ≡ []) × (new ≡ record { positive = p; left = s; right = t } ∷ []) × (after ≡ before)
PiecesBy known c d before after variables (fresh k a p v) kind abbr types new = (kind ≡ k) × (abbr ≡ None) × (types ≡ a ∷ []) × (new ≡ valued (app p (variable (length variables) a)) v ∷ []) × (after ≡ before)
PiecesBy known c d before after variables (chosen a p v) kind abbr types new = (kind ≡ kind_chosen v) × (types ≡ []) × ((n : ℕ) × ((abbr ≡ Some n) × IsPicked known c d before after variables (value a p v) n new))

-- the branch r is b with the literal in this form
pub record IsReduced (c d : Contents) (before after : List (ℕ × ℕ)) (b r : Branch) (at : ℕ) (l : Literal) (f : Form) : Type 0 where
  pub becomes : (known : ℕ) → known ≤ length c.symbols → Becomes known (map (choice_at c) before) (clause_at c b.clause) at l f (map (choice_at d) after) (clause_at d r.clause)
  pub extended : IsExtended c d (map (choice_at d) after) b r (clause_at d r.clause)
  pub in_order : AreInOrder d after
  pub precedes : Precedes (map (choice_at c) before) (map (choice_at d) after)

-- the pieces are those of the way, and the choice symbols are in order
pub record ArePieces (c d : Contents) (before after : List (ℕ × ℕ)) (variables : List SimpleType) (way : Way) (p : Pieces) : Type 0 where
  pub types_of : AreTypesOf d p.fresh
  pub literals_of : AreLiteralsOf d p.new
  pub by : (known : ℕ) → known ≤ length c.symbols → PiecesBy known c d before after variables way p.kind p.abbr (map (type_at d) p.fresh) (map (literal_at d) p.new)
  pub in_order : AreInOrder d after

-- the property of a chosen thing is one over these variables
abbrev pub IsWayOver : List SimpleType → Way → Type 0
IsWayOver variables turned = Unit {0}
IsWayOver variables omitted = Unit {0}
IsWayOver variables (single k a v) = Unit {0}
IsWayOver variables (double k a v b w) = Unit {0}
IsWayOver variables (sides k p s t) = Unit {0}
IsWayOver variables (fresh k a p v) = Unit {0}
IsWayOver variables (chosen a p v) = IsOver variables 0 p

-- the literal is there, and becomes what the rule says
pub record HasRow (c : Contents) (b : Branch) (at : ℕ) (way : Way) : Type 0 where
  pub lit : Lit
  pub stands : slice_get b.clause.lits at ≡ Some lit
  pub row : IsRow (length b.clause.vars) (literal_at c lit) way
