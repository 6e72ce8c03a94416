-- The conclusions of members: the clauses that their lines give, under a most general unifier and the order conditions.
-- A member whose lines do not replay, since a clause would be too heavy, is not due.
use Rattle.std.specs.Prelude.{ℕ, zero, suc, ◌≡◌, ◌+◌, ◌-◌, true, false, List, [], ◌∷◌, ◌++◌, length, map, remove, Some, slice_get}
use Rattle.fo_terms.specs.Terms.{Term, Terms, none, more}
use Rattle.fo_terms.specs.Substitutions.{Substitution, apply, IsMostGeneralUnifier}
use Rattle.fo_text.specs.declared.problem.FoSym.{FoSym}
use Rattle.fo_text.specs.declared.problem.FoLit.{FoLit}
use Rattle.fo_text.specs.declared.problem.FoClause.{FoClause}
use Rattle.fo_text.specs.declared.answer.FoSide.{FoSide}
use Rattle.fo_text.specs.declared.answer.FoSide.TheVariants.{Left, Right}
use Rattle.fo_text.specs.declared.answer.FoStep.{FoStep}
use Rattle.fo_text.specs.declared.answer.FoStep.TheVariants.{Inst, Para, Factor, Drop}
use Rattle.fo_replay.specs.Replays.{near, far, applied_literal, moved, images, instance_words, IsLiteralAt, IsLight, Replays}
use Rattle.fo_text.specs.Problems.{AreSorts, HaveSorts}
use Rattle.fo_kbo.specs.Order.{IsGreater}
use Rattle.fo_super.specs.Literals.{IsMaximal}
use Rattle.fo_super.specs.Numbering.{clause_variables, variables_of_all, IsNumbered}
use Rattle.fo_super.specs.Members.{Member, resolve, factor, superpose}

-- the images of so many variables, from a number on
abbrev pub images_from : Substitution → ℕ → ℕ → Terms
images_from s v zero = none
images_from s v (suc n) = more (s v) (images_from s (suc v) n)

-- a clause is resolved on its literal k: an instance by a most general unifier of that literal's sides, without k. The
-- variables are numbered by first occurrence in the conclusion and then in the instance's terms, and each has its sort
pub record IsResolved (sorts : ℕ) (syms : List FoSym) (clauses : List FoClause) (c k : ℕ) (vars : List ℕ) (terms : Terms) (instance conclusion : FoClause) : Type 0 where
  pub clause : FoClause
  pub literal : FoLit
  pub unifier : Substitution
  pub at : IsLiteralAt clauses c k clause literal
  pub general : IsMostGeneralUnifier unifier literal.left literal.right
  pub terms_are : terms ≡ images_from unifier 0 (length clause.vars)
  pub sorts_exist : AreSorts sorts vars
  pub typed : HaveSorts vars syms terms clause.vars
  pub instance_is : instance ≡ record { vars = vars; lits = map (applied_literal (images terms)) clause.lits }
  pub conclusion_is : conclusion ≡ record { vars = vars; lits = remove (map (applied_literal (images terms)) clause.lits) k }
  pub numbered : IsNumbered 0 (clause_variables conclusion.lits ++ variables_of_all terms) (length vars)
  pub light : IsLight instance

-- a term is neither less than another nor equal to it
abbrev pub IsNotBelow : Term → Term → Type 0
IsNotBelow t u = (t ≡ u → ⊥) × (IsGreater u t → ⊥)

-- a literal is maximal among some under a substitution
abbrev pub IsMaximalUnder : Substitution → List FoLit → FoLit → Type 0
IsMaximalUnder s ls l = IsMaximal (map (applied_literal s) ls) (applied_literal s l)

-- a side of a literal is not below the other side under a substitution
abbrev pub IsSideUnder : Substitution → FoSide → FoLit → Type 0
IsSideUnder s side l = IsNotBelow (apply s (near side l)) (apply s (far side l))

-- equality resolution on a maximal negative literal
pub record IsResolution (sorts : ℕ) (syms : List FoSym) (clauses : List FoClause) (c i : ℕ) (vars : List ℕ) (terms : Terms) (instance conclusion : FoClause) : Type 0 where
  pub clause : FoClause
  pub literal : FoLit
  pub at : IsLiteralAt clauses c i clause literal
  pub negative : literal.pos ≡ false
  pub resolved : IsResolved sorts syms clauses c i vars terms instance conclusion
  pub maximal : IsMaximalUnder (images terms) clause.lits literal

-- the literals are turned to one another where the sides that are unified are different ones
abbrev pub turn : FoSide → FoSide → FoSide
turn Left Left = Left
turn Left Right = Right
turn Right Left = Right
turn Right Right = Left

-- the literal that says that the sides which are unified are one
abbrev pub constraint_place : FoSide → ℕ → ℕ
constraint_place Left n = n - 1
constraint_place Right n = n

-- factoring of a maximal positive literal with another, at sides of both
pub record IsFactoring (sorts : ℕ) (syms : List FoSym) (clauses : List FoClause) (c i : ℕ) (side : FoSide) (j : ℕ) (other_side : FoSide) (vars : List ℕ) (terms : Terms) (instance conclusion : FoClause) : Type 0 where
  pub clause : FoClause
  pub literal : FoLit
  pub factored : FoClause
  pub at : IsLiteralAt clauses c i clause literal
  pub positive : literal.pos ≡ true
  pub factor : Replays sorts syms clauses (Factor c i j (turn side other_side)) factored
  pub resolved : IsResolved sorts syms (factored ∷ []) 0 (constraint_place side (length clause.lits)) vars terms instance conclusion
  pub maximal : IsMaximalUnder (images terms) clause.lits literal
  pub ordered : IsSideUnder (images terms) side literal

-- superposition from a maximal positive literal into a maximal literal
pub record IsSuperposition (sorts : ℕ) (syms : List FoSym) (clauses : List FoClause) (c i : ℕ) (side : FoSide) (d j : ℕ) (place_side : FoSide) (path : List ℕ) (vars : List ℕ) (terms : Terms) (instance conclusion : FoClause) : Type 0 where
  pub giver : FoClause
  pub receiver : FoClause
  pub equation : FoLit
  pub literal : FoLit
  pub replaced : FoClause
  pub equation_at : IsLiteralAt clauses c i giver equation
  pub receiver_at : slice_get clauses d ≡ Some receiver
  pub literal_at : slice_get (moved (length giver.vars) receiver) j ≡ Some literal
  pub para : Replays sorts syms clauses (Para c i side d j place_side path) replaced
  pub resolved : IsResolved sorts syms (replaced ∷ []) 0 (length giver.lits - 1 + length receiver.lits) vars terms instance conclusion
  pub maximal : IsMaximalUnder (images terms) giver.lits equation
  pub maximal_into : IsMaximalUnder (images terms) (moved (length giver.vars) receiver) literal
  pub ordered : IsSideUnder (images terms) side equation
  pub ordered_into : IsSideUnder (images terms) place_side literal

-- the member is due over these clauses, with this conclusion
abbrev pub IsDue : ℕ → List FoSym → List FoClause → Member → List ℕ → Terms → FoClause → FoClause → Type 0
IsDue sorts syms clauses (resolve c i) vars terms instance conclusion = IsResolution sorts syms clauses c i vars terms instance conclusion
IsDue sorts syms clauses (factor c i s j r) vars terms instance conclusion = IsFactoring sorts syms clauses c i s j r vars terms instance conclusion
IsDue sorts syms clauses (superpose c i s d j r path) vars terms instance conclusion = IsSuperposition sorts syms clauses c i s d j r path vars terms instance conclusion

-- how many lines give the conclusion
abbrev pub line_count : Member → ℕ
line_count (resolve c i) = 2
line_count (factor c i s j r) = 3
line_count (superpose c i s d j r path) = 3

-- the lines that give the conclusion, from the number of the first on; each clause has its line, and so many literals
abbrev pub lines : (ℕ → ℕ) → (ℕ → ℕ) → ℕ → Member → List ℕ → Terms → List FoStep
lines line literals n (resolve c i) vars terms = Inst (line c) (instance_words vars terms) ∷ Drop n i ∷ []
lines line literals n (factor c i s j r) vars terms = Factor (line c) i j (turn s r) ∷ Inst n (instance_words vars terms) ∷ Drop (n + 1) (constraint_place s (literals c)) ∷ []
lines line literals n (superpose c i s d j r path) vars terms =
    Para (line c) i s (line d) j r path ∷ Inst n (instance_words vars terms) ∷ Drop (n + 1) (literals c - 1 + literals d) ∷ []

-- an instance of the clause by terms over so many variables, and the same without literal k
pub record IsInstanced (sorts : ℕ) (syms : List FoSym) (clause : FoClause) (k count : ℕ) (terms : Terms) (instance conclusion : FoClause) : Type 0 where
  pub counted : length instance.vars ≡ count
  pub sorts_exist : AreSorts sorts instance.vars
  pub typed : HaveSorts instance.vars syms terms clause.vars
  pub instance_lits : instance.lits ≡ map (applied_literal (images terms)) clause.lits
  pub conclusion_vars : conclusion.vars ≡ instance.vars
  pub conclusion_lits : conclusion.lits ≡ remove (map (applied_literal (images terms)) clause.lits) k
  pub light : IsLight instance

-- no instance of the clause by these terms is within the limits of a line
abbrev pub HasHeavyInstance : FoClause → Terms → Type 0
HasHeavyInstance clause terms = (c : FoClause) → c.lits ≡ map (applied_literal (images terms)) clause.lits → IsLight c → ⊥
