-- Members that are listed, where those that can never be due may be left out.
use Rattle.std.specs.Prelude.{ℕ, suc, ◌≡◌, Bool, true, Option, Some, None, List, [], ◌∷◌, ◌++◌, map, flat_map, filter, nat_eq, not, if◌then◌else◌}
use Rattle.fo_terms.specs.Terms.{Term, Terms, variable, symbol, none, more}
use Rattle.fo_text.specs.declared.problem.FoSym.{FoSym}
use Rattle.fo_text.specs.declared.problem.FoLit.{FoLit}
use Rattle.fo_text.specs.declared.problem.FoClause.{FoClause}
use Rattle.fo_text.specs.declared.answer.FoSide.{FoSide}
use Rattle.fo_replay.specs.Replays.{near, IsLiteralAt}
use Rattle.fo_super.specs.declared.member.FoMember.{FoMember}
use Rattle.fo_super.specs.Members.{Member, resolve, factor, superpose, numbered_from, both_sides, places, with_sign, resolutions, factorings}
use Rattle.fo_super.specs.Conclusions.{IsDue}
use Rattle.fo_super.specs.Viewing.{member_of}

-- over these clauses, and whatever is kept behind them, the member is not due
abbrev pub IsNeverDue : List FoClause → Member → Type 0
IsNeverDue clauses m = (sorts : ℕ) (syms : List FoSym) (behind : List FoClause) (vars : List ℕ) (terms : Terms) (i d : FoClause) → IsDue sorts syms (clauses ++ behind) m vars terms i d → ⊥

-- the second list has members of the first in their order; none of the others is ever due
pub data AreSifted (clauses : List FoClause) : List Member → List Member → Type 0 where
  no_members : AreSifted clauses [] []
  listed : {m : Member} {ms ns : List Member} → AreSifted clauses ms ns → AreSifted clauses (m ∷ ms) (m ∷ ns)
  left_out : {m : Member} {ms ns : List Member} → IsNeverDue clauses m → AreSifted clauses ms ns → AreSifted clauses (m ∷ ms) ns

-- such members of the list are put behind others
pub record AreListed (clauses : List FoClause) (ms : List Member) (old new : List FoMember) : Type 0 where
  pub found : List FoMember
  pub new_is : new ≡ old ++ found
  pub sifted : AreSifted clauses ms (map member_of found)

-- a literal of some clause of these
abbrev pub StandsIn : List FoClause → ℕ → ℕ → FoLit → Type 0
StandsIn clauses number place l = (c : FoClause) × IsLiteralAt clauses number place c l

-- the symbol at the head of a term that is no variable
abbrev pub head_symbol : Term → Option ℕ
head_symbol (variable v) = None
head_symbol (symbol f ts) = Some f

-- a variable may become each term, and a symbol stays
abbrev pub meets : Option ℕ → ℕ → Bool
meets None f = true
meets (Some g) f = nat_eq g f

-- the places of a term, each with the symbol there
abbrev mutual
  pub sites : Term → List (List ℕ × ℕ)
  sites (variable v) = []
  sites (symbol f ts) = ([], f) ∷ sites_in_all 0 ts

  pub sites_in_all : ℕ → Terms → List (List ℕ × ℕ)
  sites_in_all n none = []
  sites_in_all n (more t ts) = map (λ s. (n ∷ s.0, s.1)) (sites t) ++ sites_in_all (suc n) ts

-- the parts of the list of superpositions
abbrev pub into_side : ℕ → ℕ → FoSide → ℕ → ℕ → FoSide → Term → List Member
into_side c i s d j r t = map (λ path. superpose c i s d j r path) (places t)

abbrev pub into_literal : ℕ → ℕ → FoSide → ℕ → ℕ × FoLit → List Member
into_literal c i s d q = flat_map (λ r. into_side c i s d q.0 r (near r q.1)) both_sides

abbrev pub into_clause : ℕ → ℕ → FoSide → ℕ → List FoLit → List Member
into_clause c i s d ks = flat_map (into_literal c i s d) (numbered_from 0 ks)

abbrev pub from_literal : ℕ → ℕ → List FoLit → ℕ × FoLit → List Member
from_literal c d ks p = flat_map (λ s. into_clause c p.0 s d ks) both_sides

-- and of that of factorings
abbrev pub with_other : ℕ → ℕ → FoSide → ℕ × FoLit → List Member
with_other c i s q = map (λ r. factor c i s q.0 r) both_sides

abbrev pub with_others : ℕ → ℕ → FoSide → List FoLit → List Member
with_others c i s ls = flat_map (with_other c i s) (filter (λ q. not (nat_eq i q.0)) (with_sign true ls))

abbrev pub of_literal : ℕ → List FoLit → ℕ × FoLit → List Member
of_literal c ls p = flat_map (λ s. with_others c p.0 s ls) both_sides

-- one literal with its place, if it has the sign
abbrev pub signed : Bool → ℕ → FoLit → List (ℕ × FoLit)
signed pos i l = filter (λ p. if pos then p.1.pos else not p.1.pos) ((i, l) ∷ [])

-- what a clause makes alone
abbrev pub of_negative : ℕ → List (ℕ × FoLit) → List Member
of_negative c ps = map (λ p. resolve c p.0) ps

abbrev pub alone : ℕ → List FoLit → List Member
alone c ls = resolutions c ls ++ factorings c ls
