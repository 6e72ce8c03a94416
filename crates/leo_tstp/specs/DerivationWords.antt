-- The words of a derivation.
use Rattle.std.specs.Prelude.{ℕ, ◌+◌, List, [], ◌∷◌, map, codes, if◌then◌else◌}
use Rattle.leo_clause.specs.declared.record.StepRecord.{StepRecord}
use Rattle.leo_kernel.specs.Steps.{Line, line_at}
use Rattle.leo_problem.specs.declared.roles.Role.{Role}
use Rattle.leo_problem.specs.declared.roles.Role.TheVariants as role
use Rattle.leo_problem.specs.declared.loaded.Problem.{Problem}
use Rattle.leo_problem.specs.Roles.{role_word}
use Rattle.leo_tstp.specs.Vocabulary.{Vocabulary}
use Rattle.leo_tstp.specs.Words.{file_text, name_text}
use Rattle.leo_tstp.specs.Derivations.{Given, given_at, is_used, words_of}
use Rattle.leo_tstp.specs.TermWords.{term_then}
use Rattle.leo_tstp.specs.LineWords.{hypothesis_word, lines_then}

-- where a hypothesis comes from
abbrev pub source_then : List ℕ → List ℕ → List (List ℕ) → List (List ℕ)
source_then file name rest = codes "file" ∷ codes "(" ∷ file_text file ∷ codes "," ∷ name_text name ∷ codes ")" ∷ rest

-- a hypothesis's number and role
abbrev pub given_then : ℕ → List ℕ → List (List ℕ) → List (List ℕ)
given_then n role rest = codes "thf" ∷ codes "(" ∷ hypothesis_word n ∷ codes "," ∷ role ∷ codes "," ∷ rest

-- hypothesis of that number, which stands in its file
abbrev pub assumption_then : Vocabulary → ℕ → Given → List (List ℕ) → List (List ℕ)
assumption_then v n h rest =
    given_then n (role_word h.role) (term_then v h.formula (codes "," ∷ source_then h.file h.name (codes ")" ∷ codes "." ∷ rest)))

-- where the negated conjecture comes from
abbrev pub negated_source_then : List ℕ → List ℕ → List (List ℕ) → List (List ℕ)
negated_source_then file name rest =
    codes "," ∷ codes "inference" ∷ codes "(" ∷ codes "negate" ∷ codes "," ∷ codes "[" ∷ codes "status" ∷ codes "(" ∷ codes "cth" ∷ codes ")" ∷ codes "]" ∷ codes "," ∷ codes "["
    ∷ source_then file name (codes "]" ∷ codes ")" ∷ codes ")" ∷ codes "." ∷ rest)

-- hypothesis of that number, the negated conjecture
abbrev pub negation_then : Vocabulary → ℕ → Given → List (List ℕ) → List (List ℕ)
negation_then v n h rest = given_then n (codes "negated_conjecture") (term_then v h.formula (negated_source_then h.file h.name rest))

abbrev pub hypothesis_by_then : Role → Vocabulary → ℕ → Given → List (List ℕ) → List (List ℕ)
hypothesis_by_then role.Conjecture v n h rest = negation_then v n h rest
hypothesis_by_then _ v n h rest = assumption_then v n h rest

-- hypothesis of that number
abbrev pub hypothesis_then : Vocabulary → ℕ → Given → List (List ℕ) → List (List ℕ)
hypothesis_then v n h rest = hypothesis_by_then h.role v n h rest

-- the hypotheses from a number on, of which only those stand there that lines take
abbrev pub hypotheses_then : Vocabulary → List Line → ℕ → List Given → List (List ℕ) → List (List ℕ)
hypotheses_then v lines n [] rest = rest
hypotheses_then v lines n (h ∷ hs) rest =
    if is_used lines n then hypothesis_then v n h (hypotheses_then v lines (n + 1) hs rest) else hypotheses_then v lines (n + 1) hs rest

abbrev pub derivation_words : Vocabulary → List Given → List Line → List (List ℕ)
derivation_words v hypotheses lines = hypotheses_then v lines 0 hypotheses (lines_then v 0 lines [])

-- the words of a derivation from the hypotheses of a problem
unfoldable pub printed_words : Problem → List StepRecord → List (List ℕ)
printed_words p lines = derivation_words (words_of p) (map (given_at p.bank) p.hyps) (map (line_at p.bank) lines)
