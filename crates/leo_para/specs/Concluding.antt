-- What the calls that make steps say to one another. No public contract speaks of it.
use Rattle.std.specs.Prelude.{◌≡◌, ◌+◌, ◌-◌, ◌<◌, List, [], ◌∷◌, ◌++◌, length, map, slice_get, Some, IsSomeAnd}
use Rattle.leo_terms.specs.Tree.{Tree, type_of}
use Rattle.leo_terms.specs.Contents.{Contents, Extends}
use Rattle.leo_clause.specs.declared.clause.Clause.{Clause}
use Rattle.leo_clause.specs.declared.clause.Lit.{Lit}
use Rattle.leo_clause.specs.declared.record.Rule.{Rule}
use Rattle.leo_clause.specs.declared.record.Rule.TheVariants as record_of
use Rattle.leo_clause.specs.Trees.{Literal, clause_at, literal_at}
use Rattle.leo_clause.specs.Typed.{AreLiteralsOf, IsClauseOf, IsTyped}
use Rattle.leo_kernel.specs.Conclusions.{with_literals, without}
use Rattle.leo_kernel.specs.Places.{replaced_in, shifted_literal, subterm}
use Rattle.leo_kernel.specs.Records.{AreStepsOf}
use Rattle.leo_kernel.specs.Shapes.{other_side_of, side_of, unequal}
use Rattle.leo_para.specs.declared.due.Found.{Found}
use Rattle.leo_para.specs.declared.member.Due.{Due}
use Rattle.leo_para.specs.Members.{Member, due_members}
use Rattle.leo_para.specs.Found.{IsLitOf, member_read}
use Rattle.leo_para.specs.Dues.{inference_at, inference_of}

-- a literal of a bank that reads as this one
pub record IsLiteral (c : Contents) (l : Lit) (k : Literal) : Type 0 where
  pub left_within : l.left < length c.terms
  pub right_within : l.right < length c.terms
  pub reads : literal_at c l ≡ k

-- a term stands at the member's path in a literal
abbrev pub LeadsIn : Contents → Found → Lit → Type 0
LeadsIn c m old = IsSomeAnd (subterm m.path (side_of m.place_side (literal_at c old))) (λ t. type_of (other_side_of m.side (literal_at c m.equation)) ≡ type_of t)

-- the equation's side is not what stands there
pub record IsConstraint (c : Contents) (m : Found) (old last : Lit) : Type 0 where
  pub left_within : last.left < length c.terms
  pub right_within : last.right < length c.terms
  pub reads : (t : Tree) → subterm m.path (side_of m.place_side (literal_at c old)) ≡ Some t → literal_at c last ≡ unequal (side_of m.side (literal_at c m.equation)) t

-- a member may be worked on: its numbers are in range, and its equation has the type of what it replaces
pub record Fits (c : Contents) (source moved : List Lit) (m : Found) : Type 0 where
  pub literal : m.literal < length source
  pub place : m.place < length moved
  pub equation : IsLitOf c m.equation
  pub leads : (k : Lit) → slice_get moved m.place ≡ Some k → LeadsIn c m k

-- the literals of a conclusion, where those of the second clause are moved already
abbrev pub concluded : Contents → List Lit → List Lit → Found → Literal → Tree → List Literal
concluded c source moved m k t =
    without (map (literal_at c) source) m.literal ++ (with_literals (map (literal_at c) moved) m.place (replaced_in m.place_side m.path (other_side_of m.side (literal_at c m.equation)) k ∷ []) ++ unequal (side_of m.side (literal_at c m.equation)) t ∷ [])

pub record IsConcluded (old new : Contents) (source target : Clause) (moved : List Lit) (m : Found) (k : Clause) : Type 0 where
  pub clause_of : IsClauseOf new k
  pub variables : k.vars ≡ source.vars ++ target.vars
  pub literals : (l : Literal) (t : Tree) → slice_get (map (literal_at old) moved) m.place ≡ Some l → subterm m.path (side_of m.place_side l) ≡ Some t → map (literal_at new) k.lits ≡ concluded old source.lits moved m l t
  pub last : length k.lits - 1 ≡ length source.lits - 1 + length moved

abbrev pub rule_of : Found → Rule
rule_of m = record_of.Para 0 m.literal m.side 1 m.place m.place_side m.path

-- the record of a member's step, and the number of its last literal
pub record IsStep (old new : Contents) (source target : Clause) (moved : List Lit) (m : Found) (d : Due) : Type 0 where
  pub clause : Clause
  pub concluded : IsConcluded old new source target moved m clause
  pub records : d.records ≡ record { clause = clause; rule = rule_of m } ∷ []
  pub pairs : d.pairs ≡ (length clause.lits - 1) ∷ []

-- the members are those that are due between two clauses of a bank before, and the literals of the second are moved
pub record AreReady (c : Contents) (source target : Clause) (moved : List Lit) (found : List Found) : Type 0 where
  pub before : Contents
  pub grown : Extends before c
  pub source_of : IsClauseOf c source
  pub target_of : IsClauseOf c target
  pub source_typed : IsTyped (clause_at c source)
  pub target_typed : IsTyped (clause_at c target)
  pub moved_of : AreLiteralsOf c moved
  pub moved_reads : map (literal_at c) moved ≡ map (shifted_literal (length source.vars)) (map (literal_at c) target.lits)
  pub found_due : map (member_read before) found ≡ due_members (clause_at c source) (clause_at c target)

-- inferences of a bank
abbrev pub AreOf : Contents → List Due → Type 0
AreOf c [] = Unit {0}
AreOf c (d ∷ ds) = AreStepsOf c d.records × AreOf c ds

-- they are those of the members
pub record AreDone (old new : Contents) (source target : Clause) (members : List Member) (dues : List Due) : Type 0 where
  pub dues_of : AreOf new dues
  pub listed : map (inference_at new) dues ≡ map (inference_of (clause_at old source) (clause_at old target)) members
