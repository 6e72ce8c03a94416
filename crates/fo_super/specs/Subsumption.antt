-- When a clause says no less than another: a substitution sends its literals among those of the other.
use Rattle.std.specs.Prelude.{ℕ, ◌≡◌, ◌<◌, ◌≤◌, ◌⊎◌, List, length, slice_get, Option, Some}
use Rattle.std.specs.Option.{option_map}
use Rattle.std.specs.List.{AllByRecursion}
use Rattle.fo_terms.specs.Terms.{Term, Terms, variable, symbol, none, more}
use Rattle.fo_terms.specs.Substitutions.{Substitution}
use Rattle.fo_text.specs.declared.problem.FoSym.{FoSym}
use Rattle.fo_text.specs.declared.problem.FoLit.{FoLit}
use Rattle.fo_text.specs.declared.problem.FoClause.{FoClause}
use Rattle.fo_replay.specs.Replays.{applied_literal}

-- the sort of a term: that of its variable, or what its symbol gives
abbrev pub sort_of : List ℕ → List FoSym → Term → Option ℕ
sort_of vars syms (variable v) = slice_get vars v
sort_of vars syms (symbol f ts) = option_map (λ (y : FoSym). y.result) (slice_get syms f)

-- the variable goes to a term of its sort
pub record KeepsSort (vars news : List ℕ) (syms : List FoSym) (v : ℕ) (t : Term) : Type 0 where
  pub sort : ℕ
  pub declared : slice_get vars v ≡ Some sort
  pub given : sort_of news syms t ≡ Some sort

-- each variable of the term goes to a term of its sort
abbrev mutual
  pub KeepsSorts : List ℕ → List ℕ → List FoSym → Substitution → Term → Type 0
  KeepsSorts vars news syms s (variable v) = KeepsSort vars news syms v (s v)
  KeepsSorts vars news syms s (symbol f ts) = KeepSorts vars news syms s ts

  pub KeepSorts : List ℕ → List ℕ → List FoSym → Substitution → Terms → Type 0
  KeepSorts vars news syms s none = Unit {0}
  KeepSorts vars news syms s (more t ts) = KeepsSorts vars news syms s t × KeepSorts vars news syms s ts

-- the literal is the other one, as it is or turned
abbrev pub IsSameLiteral : FoLit → FoLit → Type 0
IsSameLiteral l k = (l.pos ≡ k.pos) × (((l.left ≡ k.left) × (l.right ≡ k.right)) ⊎ ((l.left ≡ k.right) × (l.right ≡ k.left)))

-- the variables of the literal go to terms of their sorts, and it becomes one of the others, as it is or turned
pub record IsSent (vars news : List ℕ) (syms : List FoSym) (others : List FoLit) (s : Substitution) (l : FoLit) : Type 0 where
  pub left : KeepsSorts vars news syms s l.left
  pub right : KeepsSorts vars news syms s l.right
  pub place : ℕ
  pub other : FoLit
  pub stands : slice_get others place ≡ Some other
  pub same : IsSameLiteral (applied_literal s l) other

-- the clause has one to three literals, and some substitution sends each of them to one of the other clause
pub record Subsumes (syms : List FoSym) (c d : FoClause) : Type 0 where
  pub not_empty : 0 < length c.lits
  pub few : length c.lits ≤ 3
  pub substitution : Substitution
  pub sent : AllByRecursion (IsSent c.vars d.vars syms d.lits substitution) c.lits
