-- What quick tests know of kept clauses: the first literal of each, and the heads of the sides of the first two.
use Rattle.std.specs.Prelude.{◌≡◌, ◌≤◌, List, [], ◌∷◌, length, map, Option, Some, None}
use Rattle.leo_terms.specs.Contents.{Contents}
use Rattle.leo_clause.specs.declared.clause.Clause.{Clause}
use Rattle.leo_clause.specs.declared.clause.Lit.{Lit}
use Rattle.leo_clause.specs.Trees.{literal_at, clause_at}
use Rattle.std.specs.Bool.{Decides}
use Rattle.leo_clause.specs.Typed.{AreLiteralsOf}
use Rattle.leo_keep.specs.declared.fronts.Front.{Front}
use Rattle.leo_keep.specs.Heads.{HasHeads, HaveHeads}
use Rattle.leo_keep.specs.Subsumption.{Subsumes}

-- the literal behind the first one, or the first if there is no other
abbrev pub second_or_first : Lit → List Lit → Lit
second_or_first l [] = l
second_or_first l (m ∷ ms) = m

-- the literals begin with that of the front, and the first two have those heads
pub record StandsFirst (c : Contents) (lits : List Lit) (f : Front) : Type 0 where
  pub rest : List Lit
  pub begins : lits ≡ f.first ∷ rest
  pub heads : HasHeads c (literal_at c f.first) f.heads
  pub second : HasHeads c (literal_at c (second_or_first f.first rest)) f.second
  pub few : Decides f.few (length lits ≤ 3)

-- the front of a clause
abbrev pub IsFront : Contents → Clause → Option Front → Type 0
IsFront c k None = k.lits ≡ []
IsFront c k (Some f) = StandsFirst c k.lits f

-- the fronts of clauses, one for each
abbrev pub AreFronts : Contents → List Clause → List (Option Front) → Type 0
AreFronts c [] [] = Unit {0}
AreFronts c [] (f ∷ fs) = ⊥
AreFronts c (k ∷ ks) [] = ⊥
AreFronts c (k ∷ ks) (f ∷ fs) = IsFront c k f × AreFronts c ks fs

-- its heads are terms of the bank. For private contracts, as what follows
abbrev pub IsFrontIn : Contents → Option Front → Type 0
IsFrontIn c None = Unit {0}
IsFrontIn c (Some f) = AreLiteralsOf c (f.heads ∷ f.second ∷ [])

-- a clause with this front has other literals
abbrev pub IsNoCopy : Option Front → Clause → Type 0
IsNoCopy f d = (c : Contents) (k : Clause) → IsFront c k f → k.lits ≡ d.lits → ⊥

-- a clause with this front subsumes none whose literals have these heads
abbrev pub SendsNone : Contents → Option Front → List Lit → Type 0
SendsNone c f heads = (k d : Clause) → IsFront c k f → HaveHeads c (map (literal_at c) d.lits) heads → Subsumes (clause_at c k) (clause_at c d) → ⊥
