-- What a clause says in Q0.
use Rattle.std.specs.Prelude.{ℕ, Bool, true, false, length, map, Option, Some, None}
use Rattle.leo_q0.specs.Terms.{Term, apply}
use Rattle.leo_q0.specs.Connectives.{equation, not_term}
use Rattle.leo_sound.specs.Propositions.{disjunction}
use Rattle.leo_terms.specs.Tree.{Tree, variable, bound, symbol, app, lam, logic, absent, type_of}
use Rattle.leo_terms.specs.Decode.{decoded}
use Rattle.leo_clause.specs.Trees.{Literal, ClauseTree}

-- closed terms for symbols
abbrev pub Abbreviations : Type 0
Abbreviations = ℕ → Option Tree

abbrev pub symbol_or : Tree → Option Tree → Tree
symbol_or s None = s
symbol_or s (Some t) = t

-- a term with closed terms in the place of the symbols that abbreviate them
abbrev pub unfolded : Abbreviations → Tree → Tree
unfolded terms (variable n a) = variable n a
unfolded terms (bound i a) = bound i a
unfolded terms (symbol s a) = symbol_or (symbol s a) (terms s)
unfolded terms (app f x) = app (unfolded terms f) (unfolded terms x)
unfolded terms (lam a t) = lam a (unfolded terms t)
unfolded terms (logic c x y) = logic c (unfolded terms x) (unfolded terms y)
unfolded terms absent = absent

abbrev pub signed : Bool → Term → Term
signed true s = s
signed false s = apply not_term s

-- a literal's formula, where variables have numbers below `next`
abbrev pub literal_formula : Abbreviations → ℕ → Literal → Term
literal_formula terms next l =
    signed l.positive (equation (type_of l.left) (decoded next (unfolded terms l.left)) (decoded next (unfolded terms l.right)))

-- the disjunction of the literals, joined to the right; without literals F
abbrev pub clause_formula : Abbreviations → ClauseTree → Term
clause_formula terms c = disjunction (map (literal_formula terms (length c.variables)) c.literals)
