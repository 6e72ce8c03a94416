-- Derivations of a problem in which each base type and each symbol has a name.
use Rattle.std.specs.Prelude.{ℕ, ◌≡◌, Bool, true, ◌||◌, nat_eq, List, [], ◌∷◌, map, slice_get, Some}
use Rattle.std.specs.List.{list_any}
use Rattle.leo_q0.specs.Terms.{SimpleType, base, arrow}
use Rattle.leo_terms.specs.Tree.{Tree, variable, bound, symbol, app, lam, logic, absent, Connective, truth, falsity, negation, disjunction, conjunction, implication, equality, universal, existential, choice}
use Rattle.leo_terms.specs.Contents.{type_at, symbol_type, tree_at}
use Rattle.leo_clause.specs.declared.record.StepRecord.{StepRecord}
use Rattle.leo_clause.specs.Trees.{Literal, ClauseTree}
use Rattle.leo_kernel.specs.Steps.{StepRule, assume, convert, inst, para, arrange, drop_literal, take_apart, bool_ext, func_ext, decompose, reflexivity, choose, factor, abbreviate, Line, line_at}
use Rattle.leo_problem.specs.declared.loaded.Hyp.{Hyp}
use Rattle.leo_problem.specs.declared.loaded.Problem.{Problem}
use Rattle.leo_tstp.specs.Vocabulary.{is_base}

-- ---- what has a name

-- whether a base type is `$o`, `$i` or one that an atom is declared to be
abbrev pub is_named_base : Problem → ℕ → Bool
is_named_base p b = nat_eq b 0 || (nat_eq b 1 || list_any (λ e. is_base b (type_at p.bank e.1)) p.names.types)

-- whether a symbol is one of these or one that an atom is declared to be
abbrev pub is_named_symbol : Problem → List ℕ → ℕ → Bool
is_named_symbol p introduced s = list_any (nat_eq s) introduced || list_any (λ e. nat_eq e.1 s) p.names.constants

-- the two tests: of the number of a base type, and of the number of a symbol
pub record Named : Type 0 where
  pub has_base : ℕ → Bool
  pub has_symbol : ℕ → Bool

-- what has a name where those symbols were introduced
abbrev pub named_in : Problem → List ℕ → Named
named_in p introduced = record { has_base = is_named_base p; has_symbol = is_named_symbol p introduced }

-- ---- types and terms

-- each base type of the type has a name
abbrev pub IsNamedType : Named → SimpleType → Type 0
IsNamedType n (base b) = n.has_base b ≡ true
IsNamedType n (arrow a b) = IsNamedType n a × IsNamedType n b

abbrev pub AreNamedTypes : Named → List SimpleType → Type 0
AreNamedTypes n [] = Unit {0}
AreNamedTypes n (a ∷ types) = IsNamedType n a × AreNamedTypes n types

abbrev pub IsNamedConstant : Named → Connective → Type 0
IsNamedConstant n truth = Unit {0}
IsNamedConstant n falsity = Unit {0}
IsNamedConstant n negation = Unit {0}
IsNamedConstant n disjunction = Unit {0}
IsNamedConstant n conjunction = Unit {0}
IsNamedConstant n implication = Unit {0}
IsNamedConstant n (equality a) = IsNamedType n a
IsNamedConstant n (universal a) = IsNamedType n a
IsNamedConstant n (existential a) = IsNamedType n a
IsNamedConstant n (choice a) = IsNamedType n a

-- each base type and each symbol of the term has a name
abbrev pub IsNamedTerm : Named → Tree → Type 0
IsNamedTerm n (variable i a) = IsNamedType n a
IsNamedTerm n (bound i a) = IsNamedType n a
IsNamedTerm n (symbol s a) = (n.has_symbol s ≡ true) × IsNamedType n a
IsNamedTerm n (app f x) = IsNamedTerm n f × IsNamedTerm n x
IsNamedTerm n (lam a t) = IsNamedType n a × IsNamedTerm n t
IsNamedTerm n (logic c x y) = IsNamedConstant n c × IsNamedTerm n x × IsNamedTerm n y
IsNamedTerm n absent = Unit {0}

abbrev pub AreNamedTerms : Named → List Tree → Type 0
AreNamedTerms n [] = Unit {0}
AreNamedTerms n (t ∷ terms) = IsNamedTerm n t × AreNamedTerms n terms

-- ---- clauses and lines

abbrev pub AreNamedLiterals : Named → List Literal → Type 0
AreNamedLiterals n [] = Unit {0}
AreNamedLiterals n (l ∷ ls) = IsNamedTerm n l.left × IsNamedTerm n l.right × AreNamedLiterals n ls

abbrev pub IsNamedClause : Named → ClauseTree → Type 0
IsNamedClause n c = AreNamedTypes n c.variables × AreNamedLiterals n c.literals

-- the problem has a hypothesis of that number, in which all has a name from the start
pub record IsNamedHypothesis (p : Problem) (h : ℕ) : Type 0 where
  pub hypothesis : Hyp
  pub stands : slice_get p.hyps h ≡ Some hypothesis
  pub named : IsNamedTerm (named_in p []) (tree_at p.bank hypothesis.term)

-- the terms of a rule, the hypothesis that it takes, and the type of the symbol that it introduces
abbrev pub IsNamedRule : Problem → Named → StepRule → Type 0
IsNamedRule p n (assume h) = IsNamedHypothesis p h
IsNamedRule p n (inst q sigma) = AreNamedTerms n sigma
IsNamedRule p n (abbreviate s) = IsNamedType n (type_at p.bank (symbol_type p.bank s))
IsNamedRule p n (convert q) = Unit {0}
IsNamedRule p n (para q i s r j place_side path) = Unit {0}
IsNamedRule p n (arrange q) = Unit {0}
IsNamedRule p n (drop_literal q i) = Unit {0}
IsNamedRule p n (take_apart q i kind a) = Unit {0}
IsNamedRule p n (bool_ext q i half) = Unit {0}
IsNamedRule p n (func_ext q i a) = Unit {0}
IsNamedRule p n (decompose q i) = Unit {0}
IsNamedRule p n reflexivity = Unit {0}
IsNamedRule p n choose = Unit {0}
IsNamedRule p n (factor q i j) = Unit {0}

abbrev pub IsNamedLine : Problem → Named → Line → Type 0
IsNamedLine p n l = IsNamedClause n l.clause × IsNamedRule p n l.rule

-- the symbols that were introduced, with that of a rule
abbrev pub with_introduced : List ℕ → StepRule → List ℕ
with_introduced introduced (abbreviate s) = s ∷ introduced
with_introduced introduced _ = introduced

-- in each line what is not declared was introduced there or before
abbrev pub AreNamedLines : Problem → List ℕ → List Line → Type 0
AreNamedLines p introduced [] = Unit {0}
AreNamedLines p introduced (l ∷ ls) =
    IsNamedLine p (named_in p (with_introduced introduced l.rule)) l × AreNamedLines p (with_introduced introduced l.rule) ls

-- the derivation can be written with the names of the problem
pub record IsNameable (p : Problem) (steps : List StepRecord) : Type 0 where
  pub lines : AreNamedLines p [] (map (line_at p.bank) steps)
