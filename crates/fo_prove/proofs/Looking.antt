-- The clauses that have been looked at, in search of an empty one.
use Rattle.std.proofs.Common.{ℕ, zero, suc, ◌≡◌, ◌<◌, List, [], ◌∷◌, length, Option, Some, None, MatchOption, refl, subst, arith}
use Rattle.std.specs.List.{slice_get}
use Rattle.fo_text.specs.declared.problem.FoClause.{FoClause}
use Rattle.fo_text.specs.declared.problem.FoProblem.{FoProblem}
use Rattle.fo_super.specs.Members.{Member}
use Rattle.fo_super.specs.Outcomes.{HoldsOfNone}
use Rattle.fo_super.specs.Turns.{Origin, Search, IsTurn, Works, done, passed, refused, kept}
use Rattle.fo_prove.specs.Answers.{IsEmptyClause}
use Rattle.fo_prove.specs.Endings.{HasNoEmptyBefore}
use Rattle.fo_prove.proofs.Replaying.{at_front}

pub none_looked : (cs : List FoClause) → HasNoEmptyBefore 0 cs
none_looked cs = record { within = omega arith; none = λ m k l e h. omega (arith, l) }

-- where the run goes on
pub if_none : {X : Type 0} {P : Type 0} (o : Option X) → P → MatchOption o P (λ x. Unit {0})
if_none None p = p
if_none (Some x) p = tt

-- what is kept stays at its place
works_stay : {p : FoProblem} {ms : List Member} {cs ds : List FoClause} {os qs : List Origin} → Works p ms cs os ds qs → (i : ℕ) (k : FoClause) → slice_get cs i ≡ Some k → slice_get ds i ≡ Some k
works_stay done i k e = e
works_stay (passed none w) i k e = works_stay w i k e
works_stay (refused vars terms instance c o due out other w) i k e = works_stay w i k e
works_stay {cs = cs} (kept vars terms instance c due out w) i k e = works_stay w i k (at_front cs (c ∷ []) i k e)

some_there : (cs : List FoClause) (i : ℕ) → i < length cs → (k : FoClause) × (slice_get cs i ≡ Some k)
some_there [] i l = absurd (omega (arith, l))
some_there (c ∷ cs) zero l = (c, refl)
some_there (c ∷ cs) (suc i) l = some_there cs i (omega (arith, l))

-- after a turn only the clauses that it kept are to be looked at
pub all_looked : (p : FoProblem) (old new : Search) → IsTurn p old new → HoldsOfNone IsEmptyClause old.clauses → HasNoEmptyBefore (length old.clauses) new.clauses
all_looked p old new turn none = record { within = (let e = turn.counted in omega (arith, e)); none = at }
  where
    at : (m : ℕ) (k : FoClause) → m < length old.clauses → slice_get new.clauses m ≡ Some k → IsEmptyClause k → ⊥
    at m k l e empty =
        let x = some_there old.clauses m l in
        let f : slice_get new.clauses m ≡ Some x.0 = works_stay turn.worked m x.0 x.1 in
        let same : k ≡ x.0 = one (slice_get new.clauses m) k x.0 e f in
        none m x.0 x.1 (subst IsEmptyClause same empty)
      where
        one : (o : Option FoClause) (x y : FoClause) → o ≡ Some x → o ≡ Some y → x ≡ y
        one o x y e f = cc
