-- Soundness: what the kernel accepts is derivable in Q0 with choice.
use Rattle.std.specs.Prelude.{ℕ, ◌≡◌, List, [], map, slice_get, Some}
use Rattle.leo_q0.specs.Terms.{SimpleType}
use Rattle.leo_q0.specs.Connectives.{false_term}
use Rattle.leo_q0.specs.Derivations.{Derives}
use Rattle.leo_terms.specs.Tree.{Tree}
use Rattle.leo_terms.specs.Decode.{decoded}
use Rattle.leo_terms.specs.Contents.{Contents, IsBank, type_at, symbol_type}
use Rattle.leo_clause.specs.declared.record.StepRecord.{StepRecord}
use Rattle.leo_kernel.specs.Steps.{Line, line_at}
use Rattle.leo_kernel.specs.Records.{AreStepsOf}
use Rattle.leo_kernel.specs.Acceptance.{AreAccepted}
use Rattle.leo_simulation.specs.Proper.{AreProper, AreHypotheses}
use Rattle.leo_simulation.specs.Abbreviations.{formula_after, LinesHaveSymbolTypes}

-- where the lines are accepted and one of them has no literals, falsity is derivable from the hypotheses
abbrev pub RefutationsDeriveFalsity : Type 0
RefutationsDeriveFalsity = (hypotheses : List Tree) (lines : List Line) → AreHypotheses hypotheses → AreProper lines → AreAccepted hypotheses lines →
    (n : ℕ) (line : Line) → slice_get lines n ≡ Some line → line.clause.literals ≡ [] → Derives (map (decoded 0) hypotheses) false_term

-- where each symbol has one type, what each accepted line says is derivable from the hypotheses, the symbols that lines abbreviate unfolded
abbrev pub LinesAreDerivable : Type 0
LinesAreDerivable = (hypotheses : List Tree) (lines : List Line) (types : ℕ → SimpleType) → AreHypotheses hypotheses → AreProper lines → LinesHaveSymbolTypes types lines → AreAccepted hypotheses lines →
    (n : ℕ) (line : Line) → slice_get lines n ≡ Some line → Derives (map (decoded 0) hypotheses) (formula_after lines line.clause)

-- the terms of a bank are well typed, and each of its symbols has one type: what the other laws ask of lines
abbrev pub BankLinesAreProper : Type 0
BankLinesAreProper = (c : Contents) (steps : List StepRecord) → IsBank c → AreStepsOf c steps →
    AreProper (map (line_at c) steps) × LinesHaveSymbolTypes (λ s. type_at c (symbol_type c s)) (map (line_at c) steps)
