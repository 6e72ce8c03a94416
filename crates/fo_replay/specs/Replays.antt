-- The clause that a step of a refutation gives, over the clauses before it.
use Rattle.std.specs.Prelude.{ℕ, ◌≡◌, ◌≤◌, ◌+◌, true, false, Option, Some, None, List, [], ◌∷◌, ◌++◌, length, map, slice_get, slice_set, remove, sum_by, zero, suc}
use Rattle.fo_terms.specs.declared.term.FoNode.{FoNode}
use Rattle.fo_terms.specs.declared.term.FoNode.TheVariants.{Var, Sym}
use Rattle.fo_terms.specs.Terms.{Term, Terms, variable, symbol, none, more}
use Rattle.fo_terms.specs.Prefix.{prefix, prefix_of_all}
use Rattle.fo_terms.specs.Substitutions.{Substitution, apply}
use Rattle.fo_text.specs.declared.problem.FoSym.{FoSym}
use Rattle.fo_text.specs.declared.problem.FoLit.{FoLit}
use Rattle.fo_text.specs.declared.problem.FoClause.{FoClause}
use Rattle.fo_text.specs.declared.answer.FoStep.{FoStep}
use Rattle.fo_text.specs.declared.answer.FoStep.TheVariants.{Inst, Para, Factor, Drop}
use Rattle.fo_text.specs.declared.answer.FoWord.{FoWord}
use Rattle.fo_text.specs.declared.answer.FoWord.TheVariants as word
use Rattle.fo_text.specs.declared.answer.FoSide.{FoSide}
use Rattle.fo_text.specs.declared.answer.FoSide.TheVariants.{Left, Right}
use Rattle.fo_text.specs.Problems.{HasSort, HaveSorts, AreSorts}

-- this side of a literal, and the other one
abbrev pub near : FoSide → FoLit → Term
near Left l = l.left
near Right l = l.right

abbrev pub far : FoSide → FoLit → Term
far Left l = l.right
far Right l = l.left

-- the literal with another term on this side
abbrev pub with_near : FoSide → Term → FoLit → FoLit
with_near Left t l = record { pos = l.pos; left = t; right = l.right }
with_near Right t l = record { pos = l.pos; left = l.left; right = t }

abbrev pub differ : Term → Term → FoLit
differ t u = record { pos = false; left = t; right = u }

-- what a substitution makes of a literal
abbrev pub applied_literal : Substitution → FoLit → FoLit
applied_literal s l = record { pos = l.pos; left = apply s l.left; right = apply s l.right }

-- the term at a path: the numbers of arguments, from 0
abbrev mutual
  pub at_path : Term → List ℕ → Option Term
  at_path t [] = Some t
  at_path (variable v) (n ∷ ns) = None
  at_path (symbol f ts) (n ∷ ns) = at_argument ts n ns

  pub at_argument : Terms → ℕ → List ℕ → Option Term
  at_argument none n ns = None
  at_argument (more t ts) zero ns = at_path t ns
  at_argument (more t ts) (suc n) ns = at_argument ts n ns

-- the term with another in place of the one at a path
abbrev mutual
  pub replaced : Term → List ℕ → Term → Term
  replaced t [] u = u
  replaced (variable v) (n ∷ ns) u = variable v
  replaced (symbol f ts) (n ∷ ns) u = symbol f (replaced_argument ts n ns u)

  pub replaced_argument : Terms → ℕ → List ℕ → Term → Terms
  replaced_argument none n ns u = none
  replaced_argument (more t ts) zero ns u = more (replaced t ns u) ts
  replaced_argument (more t ts) (suc n) ns u = more t (replaced_argument ts n ns u)

-- both terms have one sort
abbrev pub HaveOneSort : List ℕ → List FoSym → Term → Term → Type 0
HaveOneSort vars syms t u = (s : ℕ) × HasSort vars syms t s × HasSort vars syms u s

-- a literal of a clause
pub record IsLiteralAt (clauses : List FoClause) (number place : ℕ) (clause : FoClause) (literal : FoLit) : Type 0 where
  pub clause_at : slice_get clauses number ≡ Some clause
  pub literal_at : slice_get clause.lits place ≡ Some literal

-- without literal i, which is `s ≠ s`
pub record IsDrop (clauses : List FoClause) (parent i : ℕ) (conclusion : FoClause) : Type 0 where
  pub clause : FoClause
  pub literal : FoLit
  pub at : IsLiteralAt clauses parent i clause literal
  pub negative : literal.pos ≡ false
  pub equal_sides : literal.left ≡ literal.right
  pub is : conclusion ≡ record { vars = clause.vars; lits = remove clause.lits i }

-- i is not j; literal i `l, r` and literal j `l', r'`, turned first where the side is the right one, are of
-- one polarity and sort: without j, and last `l ≠ l'`, `r ≠ r'`
pub record IsFactor (syms : List FoSym) (clauses : List FoClause) (parent i j : ℕ) (side : FoSide) (conclusion : FoClause) : Type 0 where
  pub clause : FoClause
  pub one : FoLit
  pub other : FoLit
  pub one_at : IsLiteralAt clauses parent i clause one
  pub other_at : IsLiteralAt clauses parent j clause other
  pub different : i ≡ j → ⊥
  pub polarity : one.pos ≡ other.pos
  pub sort : HaveOneSort clause.vars syms one.left other.left
  pub is : conclusion ≡ record { vars = clause.vars; lits = remove clause.lits j ++ differ one.left (near side other) ∷ differ one.right (far side other) ∷ [] }

-- the clause with its variables numbered after so many others
abbrev pub moved : ℕ → FoClause → List FoLit
moved n c = map (applied_literal (λ v. variable (n + v))) c.lits

-- literal i of the one parent is positive with side S = l, other side r; side S' of literal j of the target has t
-- at the path; l and t have one sort. Variables of that parent, then those of the target. Literals of
-- that parent without i; those of the target with t replaced by r in j; last `l ≠ t`
pub record IsPara (syms : List FoSym) (clauses : List FoClause) (from i : ℕ) (side : FoSide) (target j : ℕ) (place_side : FoSide) (path : List ℕ) (conclusion : FoClause) : Type 0 where
  pub giver : FoClause
  pub receiver : FoClause
  pub equation : FoLit
  pub literal : FoLit
  pub term : Term
  pub equation_at : IsLiteralAt clauses from i giver equation
  pub receiver_at : slice_get clauses target ≡ Some receiver
  pub literal_at : slice_get (moved (length giver.vars) receiver) j ≡ Some literal
  pub positive : equation.pos ≡ true
  pub term_at : at_path (near place_side literal) path ≡ Some term
  pub sort : HaveOneSort (giver.vars ++ receiver.vars) syms (near side equation) term
  pub is : conclusion ≡ record {
    vars = giver.vars ++ receiver.vars;
    lits = remove giver.lits i ++ (slice_set (moved (length giver.vars) receiver) j (with_near place_side (replaced (near place_side literal) path (far side equation)) literal) ++ differ (near side equation) term ∷ []);
  }

-- the words of terms
abbrev pub node_as_word : FoNode → FoWord
node_as_word (Var v) = word.Var v
node_as_word (Sym f k) = word.Sym f

-- the number of variables, their sorts, and the terms in prefix form
abbrev pub instance_words : List ℕ → Terms → List FoWord
instance_words vars ts = word.Number (length vars) ∷ (map word.Number vars ++ map node_as_word (prefix_of_all ts))

-- the term with a number, and another where there is none
abbrev pub term_or : Terms → ℕ → Term → Term
term_or none v other = other
term_or (more t ts) zero other = t
term_or (more t ts) (suc v) other = term_or ts v other

-- each variable is replaced by the term with its number
abbrev pub images : Terms → Substitution
images ts v = term_or ts v (variable v)

-- each variable of the parent is replaced by a term of its sort over the new variables
pub record IsInstance (sorts : ℕ) (syms : List FoSym) (clauses : List FoClause) (parent : ℕ) (words : List FoWord) (conclusion : FoClause) : Type 0 where
  pub clause : FoClause
  pub vars : List ℕ
  pub terms : Terms
  pub clause_at : slice_get clauses parent ≡ Some clause
  pub words_are : words ≡ instance_words vars terms
  pub sorts_exist : AreSorts sorts vars
  pub typed : HaveSorts vars syms terms clause.vars
  pub is : conclusion ≡ record { vars = vars; lits = map (applied_literal (images terms)) clause.lits }

-- the symbols and variables of a clause
abbrev pub literal_weight : FoLit → ℕ
literal_weight l = length (prefix l.left) + length (prefix l.right)

abbrev pub clause_weight : FoClause → ℕ
clause_weight c = sum_by literal_weight c.lits

pub record IsLight (c : FoClause) : Type 0 where
  pub literals : length c.lits ≤ 1000
  pub weight : clause_weight c ≤ 100000

abbrev pub Gives : ℕ → List FoSym → List FoClause → FoStep → FoClause → Type 0
Gives sorts syms clauses (Inst parent words) c = IsInstance sorts syms clauses parent words c
Gives sorts syms clauses (Para from lit side target place place_side path) c = IsPara syms clauses from lit side target place place_side path c
Gives sorts syms clauses (Factor parent first second side) c = IsFactor syms clauses parent first second side c
Gives sorts syms clauses (Drop parent lit) c = IsDrop clauses parent lit c

-- the step replays over these clauses, and that is the clause
pub record Replays (sorts : ℕ) (syms : List FoSym) (clauses : List FoClause) (step : FoStep) (conclusion : FoClause) : Type 0 where
  pub gives : Gives sorts syms clauses step conclusion
  pub light : IsLight conclusion
