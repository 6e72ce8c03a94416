-- The members of a turn: the places at which a rule may apply, in the order in which they are tried.
use Rattle.std.specs.Prelude.{ℕ, suc, Bool, true, false, List, [], ◌∷◌, ◌++◌, map, flat_map, filter, nat_eq, not, if◌then◌else◌}
use Rattle.std.specs.List.{list_any}
use Rattle.fo_terms.specs.Terms.{Term, Terms, variable, symbol, none, more}
use Rattle.fo_text.specs.declared.problem.FoLit.{FoLit}
use Rattle.fo_text.specs.declared.problem.FoClause.{FoClause}
use Rattle.fo_text.specs.declared.answer.FoSide.{FoSide}
use Rattle.fo_text.specs.declared.answer.FoSide.TheVariants.{Left, Right}
use Rattle.fo_replay.specs.Replays.{near}

-- equality resolution on a literal of a clause; factoring of two of its literals, each with a side; superposition
-- from a side of a literal into a place in a side of a literal
pub data Member : Type 0 where
  resolve : (clause literal : ℕ) → Member
  factor : (clause first : ℕ) (first_side : FoSide) (second : ℕ) (second_side : FoSide) → Member
  superpose : (from literal : ℕ) (side : FoSide) (into place : ℕ) (place_side : FoSide) (path : List ℕ) → Member

-- the items with their numbers
abbrev pub numbered_from : {X : Type 0} → ℕ → List X → List (ℕ × X)
numbered_from n [] = []
numbered_from n (x ∷ xs) = (n, x) ∷ numbered_from (suc n) xs

-- the left side comes first
abbrev pub both_sides : List FoSide
both_sides = Left ∷ Right ∷ []

-- the paths to what is no variable in a term, a term before its arguments from left to right
abbrev mutual
  pub places : Term → List (List ℕ)
  places (variable v) = []
  places (symbol f ts) = [] ∷ places_in_all 0 ts

  pub places_in_all : ℕ → Terms → List (List ℕ)
  places_in_all n none = []
  places_in_all n (more t ts) = map (λ path. n ∷ path) (places t) ++ places_in_all (suc n) ts

-- the literals that are positive, and those that are not, with their numbers
abbrev pub with_sign : Bool → List FoLit → List (ℕ × FoLit)
with_sign pos ls = filter (λ p. if pos then p.1.pos else not p.1.pos) (numbered_from 0 ls)

-- equality resolution, on each negative literal
abbrev pub resolutions : ℕ → List FoLit → List Member
resolutions c ls = map (λ p. resolve c p.0) (with_sign false ls)

-- factoring, of each positive literal with each other
abbrev pub factorings : ℕ → List FoLit → List Member
factorings c ls =
    flat_map (λ p. flat_map (λ s. flat_map (λ q. map (λ r. factor c p.0 s q.0 r) both_sides) (filter (λ q. not (nat_eq p.0 q.0)) (with_sign true ls))) both_sides) (with_sign true ls)

-- superposition, from each side of each positive literal into each place of each literal
abbrev pub superpositions : ℕ → List FoLit → ℕ → List FoLit → List Member
superpositions c ls d ks =
    flat_map (λ p. flat_map (λ s. flat_map (λ q. flat_map (λ r. map (λ path. superpose c p.0 s d q.0 r path) (places (near r q.1))) both_sides) (numbered_from 0 ks)) both_sides) (with_sign true ls)

-- from the given clause into a partner; if that is another clause, from it into the given clause too
abbrev pub meetings : ℕ → List FoLit → ℕ × FoClause → List Member
meetings g ls p = superpositions g ls p.0 p.1.lits ++ (if nat_eq g p.0 then [] else superpositions p.0 p.1.lits g ls)

-- the clauses that are not passive, with their numbers
abbrev pub actives : List FoClause → List ℕ → List (ℕ × FoClause)
actives clauses passive = filter (λ p. not (list_any (nat_eq p.0) passive)) (numbered_from 0 clauses)

-- all members of a turn, where the given clause is no longer passive
abbrev pub members : List FoClause → List ℕ → ℕ → FoClause → List Member
members clauses passive g c = resolutions g c.lits ++ (factorings g c.lits ++ flat_map (meetings g c.lits) (actives clauses passive))
