-- A step that is accepted is accepted after other lines, where the lines that it names have other numbers.
use Rattle.std.proofs.Common.{◌≡◌, ℕ, ◌<◌, Bool, true, false, List, [], ◌∷◌, length, refl, arith}
use Rattle.std.specs.Prelude.{slice_get, Option, Some, None, IsSomeAnd}
use Rattle.std.specs.List.{Contains}
use Rattle.std.proofs.lemmas.Option.{slice_get_within}
use Rattle.leo_q0.specs.Terms.{SimpleType}
use Rattle.leo_terms.specs.Tree.{Tree}
use Rattle.leo_clause.specs.declared.record.LogicKind.{LogicKind}
use Rattle.leo_clause.specs.declared.record.LogicKind.TheVariants as kind
use Rattle.leo_clause.specs.Trees.{Literal, ClauseTree}
use Rattle.leo_kernel.specs.Steps.{StepRule, assume, convert, inst, para, arrange, drop_literal, take_apart, bool_ext, func_ext, decompose, reflexivity, choose, factor, abbreviate, Line, clause_of, literal_of}
use Rattle.leo_kernel.specs.Conditions.{HasParents, HasLiterals, HasPlace, RuleHasTypes}
use Rattle.leo_kernel.specs.Symbols.{LinesLackSymbol, abbreviation_in, abbreviation_of, LogicHasSymbol, FuncExtHasSymbol, HasSymbol}
use Rattle.leo_kernel.specs.Conclusions.{LogicConcludes, FuncExtConcludes, HasShape}
use Rattle.leo_kernel.specs.Acceptance.{Accepts}
use Rattle.leo_derive.specs.Resting.{named}
use Rattle.leo_derive.specs.Pruning.{numbered_rule, numbered_line}

-- line p of some lines is, but for the numbers in its rule, line q of others
pub record IsSameLine (earlier later : List Line) (p q : ℕ) : Type 0 where
  pub within : q < length later
  pub clause_same : clause_of later q ≡ clause_of earlier p
  pub abbreviation_same : abbreviation_of later q ≡ abbreviation_of earlier p

abbreviation_numbered : (number : ℕ → ℕ) (r : StepRule) (ls : List Literal) → abbreviation_in (numbered_rule number r) ls ≡ abbreviation_in r ls
abbreviation_numbered number (abbreviate s) ls = refl
abbreviation_numbered number _ ls = refl

pub same_line : (number : ℕ → ℕ) (earlier later : List Line) (p q : ℕ) (l : Line) → slice_get earlier p ≡ Some l → slice_get later q ≡ Some (numbered_line number l) → IsSameLine earlier later p q
same_line number earlier later p q l e f = record {
  within = slice_get_within later q (numbered_line number l) f;
  clause_same = rw (e, f) refl;
  abbreviation_same = rw (e, f) (abbreviation_numbered number l.rule l.clause.literals);
}

first : (p : ℕ) (ps : List ℕ) → Contains (p ∷ ps) p
first p ps = (0, omega arith, refl)

second : (p q : ℕ) (ps : List ℕ) → Contains (p ∷ q ∷ ps) q
second p q ps = (1, omega arith, refl)

module _ (hypotheses : List Tree) (earlier later : List Line) (number : ℕ → ℕ) where
  abbrev Known : StepRule → Type 0
  Known r = (p : ℕ) → Contains (named r) p → IsSameLine earlier later p (number p)

  parents : (r : StepRule) → Known r → HasParents hypotheses earlier r → HasParents hypotheses later (numbered_rule number r)
  parents (assume h) k e = e
  parents (convert p) k e = (k p (first p [])).within
  parents (inst p sigma) k e = (k p (first p [])).within
  parents (para p i s q j r path) k e = ((k p (first p (q ∷ []))).within, (k q (second p q [])).within)
  parents (arrange p) k e = (k p (first p [])).within
  parents (drop_literal p i) k e = (k p (first p [])).within
  parents (take_apart p i kind None) k e = ((k p (first p [])).within, tt)
  parents (take_apart p i kind (Some a)) k e = ((k p (first p (a ∷ []))).within, (k a (second p a [])).within)
  parents (bool_ext p i half) k e = (k p (first p [])).within
  parents (func_ext p i None) k e = ((k p (first p [])).within, tt)
  parents (func_ext p i (Some a)) k e = ((k p (first p (a ∷ []))).within, (k a (second p a [])).within)
  parents (decompose p i) k e = (k p (first p [])).within
  parents reflexivity k e = e
  parents choose k e = e
  parents (factor p i j) k e = (k p (first p [])).within
  parents (abbreviate s) k e = e

  literals : (r : StepRule) → Known r → HasLiterals earlier r → HasLiterals later (numbered_rule number r)
  literals (para p i s q j r path) k e = rw ((k p (first p (q ∷ []))).clause_same, (k q (second p q [])).clause_same) e
  literals (drop_literal p i) k e = rw (k p (first p [])).clause_same e
  literals (take_apart p i kind None) k e = rw (k p (first p [])).clause_same e
  literals (take_apart p i kind (Some a)) k e = rw (k p (first p (a ∷ []))).clause_same e
  literals (bool_ext p i half) k e = rw (k p (first p [])).clause_same e
  literals (func_ext p i None) k e = rw (k p (first p [])).clause_same e
  literals (func_ext p i (Some a)) k e = rw (k p (first p (a ∷ []))).clause_same e
  literals (decompose p i) k e = rw (k p (first p [])).clause_same e
  literals (factor p i j) k e = rw (k p (first p [])).clause_same e
  literals _ k e = e

  place : (r : StepRule) → Known r → HasPlace earlier r → HasPlace later (numbered_rule number r)
  place (para p i s q j r path) k e = rw (k q (second p q [])).clause_same e
  place _ k e = e

  types : (variables : List SimpleType) (r : StepRule) → Known r → RuleHasTypes earlier variables r → RuleHasTypes later variables (numbered_rule number r)
  types variables (inst p sigma) k e = rw (k p (first p [])).clause_same e
  types variables (para p i s q j r path) k e = rw ((k p (first p (q ∷ []))).clause_same, (k q (second p q [])).clause_same) e
  types variables (bool_ext p i half) k e = rw (k p (first p [])).clause_same e
  types variables (func_ext p i None) k e = rw (k p (first p [])).clause_same e
  types variables (func_ext p i (Some a)) k e = rw (k p (first p (a ∷ []))).clause_same e
  types variables (decompose p i) k e = rw (k p (first p [])).clause_same e
  types variables (factor p i j) k e = rw (k p (first p [])).clause_same e
  types variables _ k e = e

  logic_symbol : (clause : ClauseTree) (i a : ℕ) (l : Literal) (k : LogicKind) → abbreviation_of later (number a) ≡ abbreviation_of earlier a → LogicHasSymbol earlier clause i (Some a) l k → LogicHasSymbol later clause i (Some (number a)) l k
  logic_symbol clause i a l kind.AllF s e = rw s e
  logic_symbol clause i a l kind.SomeT s e = rw s e
  logic_symbol clause i a l _ s e = absurd cc

  no_logic_symbol : (clause : ClauseTree) (i : ℕ) (l : Literal) (k : LogicKind) → LogicHasSymbol earlier clause i None l k → LogicHasSymbol later clause i None l k
  no_logic_symbol clause i l _ e = e

  function_symbol : (clause : ClauseTree) (i a : ℕ) (l : Literal) (b : Bool) → abbreviation_of later (number a) ≡ abbreviation_of earlier a → FuncExtHasSymbol earlier clause i (Some a) l b → FuncExtHasSymbol later clause i (Some (number a)) l b
  function_symbol clause i a l true s e = absurd cc
  function_symbol clause i a l false s e = rw s e

  no_function_symbol : (clause : ClauseTree) (i : ℕ) (l : Literal) (b : Bool) → FuncExtHasSymbol earlier clause i None l b → FuncExtHasSymbol later clause i None l b
  no_function_symbol clause i l true e = e
  no_function_symbol clause i l false e = e

  if_literal : (o : Option Literal) {P Q : Literal → Type 0} → ((l : Literal) → P l → Q l) → IsSomeAnd o P → IsSomeAnd o Q
  if_literal None f h = h
  if_literal (Some l) f h = f l h

  symbols : (clause : ClauseTree) (r : StepRule) → Known r → ((s : ℕ) → LinesLackSymbol s earlier → LinesLackSymbol s later) → HasSymbol hypotheses earlier clause r → HasSymbol hypotheses later clause (numbered_rule number r)
  symbols clause (take_apart p i kind None) k lacks e = rw (k p (first p [])).clause_same (if_literal (literal_of earlier p i) (λ l h. no_logic_symbol clause i l kind h) e)
  symbols clause (take_apart p i kind (Some a)) k lacks e = rw (k p (first p (a ∷ []))).clause_same (if_literal (literal_of earlier p i) (λ l h. logic_symbol clause i a l kind (k a (second p a [])).abbreviation_same h) e)
  symbols clause (func_ext p i None) k lacks e = rw (k p (first p [])).clause_same (if_literal (literal_of earlier p i) (λ l h. no_function_symbol clause i l l.positive h) e)
  symbols clause (func_ext p i (Some a)) k lacks e = rw (k p (first p (a ∷ []))).clause_same (if_literal (literal_of earlier p i) (λ l h. function_symbol clause i a l l.positive (k a (second p a [])).abbreviation_same h) e)
  symbols clause (abbreviate s) k lacks e = record { hypotheses_lack = e.hypotheses_lack; lines_lack = lacks s e.lines_lack; no_variable = e.no_variable; term_lacks = e.term_lacks }
  symbols clause _ k lacks e = e

  logic_shape : (parent : ClauseTree) (i a : ℕ) (l : Literal) (k : LogicKind) (clause : ClauseTree) → abbreviation_of later (number a) ≡ abbreviation_of earlier a → LogicConcludes earlier parent i (Some a) l k clause → LogicConcludes later parent i (Some (number a)) l k clause
  logic_shape parent i a l kind.AllF clause s e = rw s e
  logic_shape parent i a l kind.SomeT clause s e = rw s e
  logic_shape parent i a l _ clause s e = e

  no_logic_shape : (parent : ClauseTree) (i : ℕ) (l : Literal) (k : LogicKind) (clause : ClauseTree) → LogicConcludes earlier parent i None l k clause → LogicConcludes later parent i None l k clause
  no_logic_shape parent i l _ clause e = e

  function_shape : (parent : ClauseTree) (i a : ℕ) (l : Literal) (b : Bool) (clause : ClauseTree) → abbreviation_of later (number a) ≡ abbreviation_of earlier a → FuncExtConcludes earlier parent i (Some a) l b clause → FuncExtConcludes later parent i (Some (number a)) l b clause
  function_shape parent i a l true clause s e = e
  function_shape parent i a l false clause s e = rw s e

  no_function_shape : (parent : ClauseTree) (i : ℕ) (l : Literal) (b : Bool) (clause : ClauseTree) → FuncExtConcludes earlier parent i None l b clause → FuncExtConcludes later parent i None l b clause
  no_function_shape parent i l true clause e = e
  no_function_shape parent i l false clause e = e

  shape : (clause : ClauseTree) (r : StepRule) → Known r → HasShape hypotheses earlier clause r → HasShape hypotheses later clause (numbered_rule number r)
  shape clause (convert p) k e = rw (k p (first p [])).clause_same e
  shape clause (inst p sigma) k e = rw (k p (first p [])).clause_same e
  shape clause (para p i s q j r path) k e = rw ((k p (first p (q ∷ []))).clause_same, (k q (second p q [])).clause_same) e
  shape clause (arrange p) k e = rw (k p (first p [])).clause_same e
  shape clause (drop_literal p i) k e = rw (k p (first p [])).clause_same e
  shape clause (take_apart p i kind None) k e = rw (k p (first p [])).clause_same (if_literal (literal_of earlier p i) (λ l h. no_logic_shape (clause_of earlier p) i l kind clause h) e)
  shape clause (take_apart p i kind (Some a)) k e = rw (k p (first p (a ∷ []))).clause_same (if_literal (literal_of earlier p i) (λ l h. logic_shape (clause_of earlier p) i a l kind clause (k a (second p a [])).abbreviation_same h) e)
  shape clause (bool_ext p i half) k e = rw (k p (first p [])).clause_same e
  shape clause (func_ext p i None) k e = rw (k p (first p [])).clause_same (if_literal (literal_of earlier p i) (λ l h. no_function_shape (clause_of earlier p) i l l.positive clause h) e)
  shape clause (func_ext p i (Some a)) k e = rw (k p (first p (a ∷ []))).clause_same (if_literal (literal_of earlier p i) (λ l h. function_shape (clause_of earlier p) i a l l.positive clause (k a (second p a [])).abbreviation_same h) e)
  shape clause (decompose p i) k e = rw (k p (first p [])).clause_same e
  shape clause (factor p i j) k e = rw (k p (first p [])).clause_same e
  shape clause _ k e = e

  pub numbered_accepted : (step : Line) → Known step.rule → ((s : ℕ) → LinesLackSymbol s earlier → LinesLackSymbol s later) → Accepts hypotheses earlier step → Accepts hypotheses later (numbered_line number step)
  numbered_accepted step k lacks a = record {
    parents = parents step.rule k a.parents;
    literals = literals step.rule k a.literals;
    place = place step.rule k a.place;
    types = record { clause_typed = a.types.clause_typed; rule_typed = types step.clause.variables step.rule k a.types.rule_typed };
    symbols = symbols step.clause step.rule k lacks a.symbols;
    shape = shape step.clause step.rule k a.shape;
  }
