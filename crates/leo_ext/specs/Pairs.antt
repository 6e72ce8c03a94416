-- Two literals of a clause that calls hand on. No public contract speaks of it.
use Rattle.std.specs.Prelude.{ℕ, ◌≡◌, ◌<◌, ◌+◌, Bool, false, not, ◌&&◌, if◌then◌else◌, List, [], ◌∷◌, ◌++◌, length, take, drop, slice_get, Some}
use Rattle.leo_terms.specs.Contents.{Contents}
use Rattle.leo_clause.specs.declared.clause.Lit.{Lit}
use Rattle.leo_clause.specs.declared.clause.Clause.{Clause}
use Rattle.leo_clause.specs.declared.record.Rule.TheVariants as record_of
use Rattle.leo_clause.specs.declared.record.StepRecord.{StepRecord}
use Rattle.leo_ext.specs.declared.factor.Pair.{Pair}

-- the sides of a literal are terms of the bank
abbrev pub IsLitOf : Contents → Lit → Type 0
IsLitOf c l = (l.left < length c.terms) × (l.right < length c.terms)

pub record IsPairOf (c : Clause) (p : Pair) : Type 0 where
  pub first_stands : slice_get c.lits p.first ≡ Some p.one
  pub second_stands : slice_get c.lits p.second ≡ Some p.other

-- the literals of a factor
abbrev pub factored_lits : List Lit → ℕ → Lit → Lit → List Lit
factored_lits ls j l k = (take j ls ++ ([] ++ drop (j + 1) ls)) ++ record { pos = false; left = l.left; right = k.left } ∷ record { pos = false; left = l.right; right = k.right } ∷ []

abbrev pub turned_lit : Lit → Lit
turned_lit l = record { pos = l.pos; left = l.right; right = l.left }

-- the second literal is turned, and the two become one then
pub record AreTurned (c : Clause) (before : ℕ) (p : Pair) (records : List StepRecord) : Type 0 where
  pub middle : Clause
  pub conclusion : Clause
  pub middle_vars : middle.vars ≡ c.vars ++ []
  pub middle_lits : middle.lits ≡ take p.second c.lits ++ ((turned_lit p.other ∷ []) ++ drop (p.second + 1) c.lits)
  pub conclusion_vars : conclusion.vars ≡ middle.vars
  pub conclusion_lits : conclusion.lits ≡ factored_lits middle.lits p.second p.one (turned_lit p.other)
  pub are : records ≡ record { clause = middle; rule = record_of.Arrange before } ∷ record { clause = conclusion; rule = record_of.Factor (before + 1) p.first p.second } ∷ []

-- whether two literals are alike: whether each is a formula literal, and whether both have one right side and one type
abbrev pub are_alike_by : Bool → Bool → Bool → Bool → Bool
are_alike_by first second one_value one_type = if first then (second && one_value) else (not second && one_type)
