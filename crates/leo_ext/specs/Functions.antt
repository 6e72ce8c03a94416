-- Literals whose sides are functions, as calls hand them on. No public contract speaks of it.
use Rattle.std.specs.Prelude.{ℕ, suc, ◌≡◌, ◌≤◌, true, List, [], ◌∷◌, ◌++◌, length, map}
use Rattle.leo_q0.specs.Terms.{SimpleType}
use Rattle.leo_terms.specs.Contents.{Contents, type_at}
use Rattle.leo_clause.specs.declared.clause.Clause.{Clause}
use Rattle.leo_clause.specs.declared.clause.Lit.{Lit}
use Rattle.leo_clause.specs.Choices.{Choice, choice_at, symbol_of}
use Rattle.leo_clause.specs.Trees.{Literal, clause_at, literal_at}
use Rattle.leo_clause.specs.Typed.{IsClauseOf}
use Rattle.leo_kernel.specs.Choosing.{Claim, claimed, applied_to, difference_in}
use Rattle.leo_kernel.specs.ChosenClaims.{IsFunctionOf}
use Rattle.leo_kernel.specs.Shapes.{domain, literal_type}
use Rattle.leo_kernel.specs.Steps.{Line, func_ext}
use Rattle.leo_clausify.specs.Choosing.{AreInOrder, Chooses, chosen_arguments, closed_form}
use Rattle.leo_clausify.specs.Literals.{IsLiteral}
use Rattle.leo_ext.specs.declared.func_ext.Arrow.{Arrow}
use Rattle.leo_ext.specs.declared.func_ext.Extended.{Extended}
use Rattle.leo_ext.specs.declared.func_ext.Difference.{Difference}
use Rattle.leo_ext.specs.Members.{Member, alone, is_arrow, func_ext_line}
use Rattle.leo_ext.specs.Unary.{FuncExts, difference_line}

-- the sides are functions of this type
pub record AreFunctions (c : Contents) (l : Lit) (a : Arrow) : Type 0 where
  pub arrow : is_arrow (literal_type (literal_at c l)) ≡ true
  pub from : domain (literal_type (literal_at c l)) ≡ type_at c a.from
  pub first : IsFunctionOf c a.from a.to l.left
  pub second : IsFunctionOf c a.from a.to l.right

-- the line and the member of a clause that the rule on functions gives
abbrev pub extended_line : Contents → ℕ → Extended → Line
extended_line c p e = record { clause = clause_at c e.clause; rule = func_ext p e.at e.abbr }

abbrev pub extended_member : Contents → ℕ → Extended → Member
extended_member c p e = alone (extended_line c p e)

abbrev pub AreExtendedOf : Contents → List Extended → Type 0
AreExtendedOf c [] = Unit {0}
AreExtendedOf c (e ∷ es) = IsClauseOf c e.clause × AreExtendedOf c es

-- the clause for `f = g`
pub record IsEqualAt (c d : Contents) (k : Clause) (at : ℕ) (l : Lit) (e : Extended) : Type 0 where
  pub of_bank : IsClauseOf d e.clause
  pub reads : (p : ℕ) → extended_line d p e ≡ func_ext_line p (clause_at c k) at (literal_at c l)

-- the literal is the claim about the symbol at the place of the list that is for the closed term, and the list stays in order
pub record IsPickedFor (c d : Contents) (before after : List (ℕ × ℕ)) (variables : List SimpleType) (claim : Claim) (p : Difference) : Type 0 where
  pub item : Choice
  pub chooses : (known : ℕ) → known ≤ length c.symbols → Chooses known (map (choice_at c) before) (closed_form variables claim) (map (choice_at d) after) p.place item
  pub said : IsLiteral d p.new (claimed claim (applied_to (symbol_of item) (chosen_arguments variables claim)))
  pub in_order : AreInOrder d after

-- the clause for `f ≠ g`
pub record IsDifferentAt (c d : Contents) (before after : List (ℕ × ℕ)) (k : Clause) (at : ℕ) (l : Lit) (e : Extended) : Type 0 where
  pub of_bank : IsClauseOf d e.clause
  pub place : ℕ
  pub item : Choice
  pub chooses : (known : ℕ) → known ≤ length c.symbols → Chooses known (map (choice_at c) before) (closed_form (map (type_at c) k.vars) (difference_in (literal_at c l))) (map (choice_at d) after) place item
  pub reads : (p : ℕ) → extended_line d p e ≡ difference_line p (clause_at c k) at (literal_at c l) place item
  pub in_order : AreInOrder d after

-- the list has the clause of a literal more, if it has one
pub record IsExtendedBy (c d : Contents) (before after : List (ℕ × ℕ)) (k : Clause) (at : ℕ) (l : Lit) (old new : List Extended) : Type 0 where
  pub of_bank : AreExtendedOf c old → AreExtendedOf d new
  pub in_order : AreInOrder d after
  pub goes_on : (known p : ℕ) → known ≤ length c.symbols → (later : List Choice) (ls : List Literal) (more : List Member) → AreExtendedOf c old →
      FuncExts known p (clause_at c k) (suc at) (map (choice_at d) after) ls later more →
      (rest : List Member) × (FuncExts known p (clause_at c k) at (map (choice_at c) before) (literal_at c l ∷ ls) later rest × (map (extended_member c p) old ++ rest ≡ map (extended_member d p) new ++ more))

-- all clauses, in order
pub record AreExtended (c d : Contents) (before after : List (ℕ × ℕ)) (k : Clause) (es : List Extended) : Type 0 where
  pub of_bank : AreExtendedOf d es
  pub in_order : AreInOrder d after
  pub functions : (known p : ℕ) → known ≤ length c.symbols → FuncExts known p (clause_at c k) 0 (map (choice_at c) before) (clause_at c k).literals (map (choice_at d) after) (map (extended_member d p) es)
