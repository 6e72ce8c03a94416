-- The text of a derivation.
use Rattle.std.specs.Prelude.{ℕ, ◌+◌, Bool, false, nat_eq, List, [], ◌∷◌, ◌++◌, map, codes, decimal, if◌then◌else◌}
use Rattle.std.specs.List.{list_any}
use Rattle.leo_terms.specs.Tree.{Tree}
use Rattle.leo_terms.specs.Contents.{Contents, tree_at, type_at, symbol_type}
use Rattle.leo_elab.specs.Table.{declared_in}
use Rattle.leo_clause.specs.declared.record.StepRecord.{StepRecord}
use Rattle.leo_kernel.specs.Steps.{StepRule, assume, Line, line_at}
use Rattle.leo_problem.specs.declared.roles.Role.{Role}
use Rattle.leo_problem.specs.declared.roles.Role.TheVariants as role
use Rattle.leo_problem.specs.declared.loaded.Hyp.{Hyp}
use Rattle.leo_problem.specs.declared.loaded.Problem.{Problem}
use Rattle.leo_problem.specs.Roles.{role_word}
use Rattle.leo_tstp.specs.Vocabulary.{Vocabulary, vocabulary, with_rule}
use Rattle.leo_tstp.specs.Words.{file_text, name_text}
use Rattle.leo_tstp.specs.TermTexts.{term_text}
use Rattle.leo_tstp.specs.StepTexts.{line_text}

-- ---- hypotheses

-- a hypothesis: its formula, and the file, the name and the role of its statement
pub record Given : Type 0 where
  pub formula : Tree
  pub file : List ℕ
  pub name : List ℕ
  pub role : Role

-- where a hypothesis comes from: the file, and the name of its statement there
unfoldable pub source_text : List ℕ → List ℕ → List ℕ
source_text file name = codes "file(" ++ (file_text file ++ (codes "," ++ (name_text name ++ codes ")")))

-- a hypothesis's number and role
unfoldable pub given_head : ℕ → List ℕ → List ℕ
given_head n role = codes "thf(h" ++ (decimal n ++ (codes "," ++ (role ++ codes ",")))

-- hypothesis of that number, which stands in its file
unfoldable pub assumption_text : Vocabulary → ℕ → Given → List ℕ
assumption_text v n h =
    given_head n (role_word h.role) ++ (term_text v h.formula ++ (codes "," ++ (source_text h.file h.name ++ codes ").\n")))

-- where the negated conjecture comes from
unfoldable pub negated_source : List ℕ → List ℕ → List ℕ
negated_source file name = codes ",inference(negate,[status(cth)],[" ++ (source_text file name ++ codes "])).\n")

-- hypothesis of that number, the negated conjecture
unfoldable pub negation_text : Vocabulary → ℕ → Given → List ℕ
negation_text v n h =
    given_head n (codes "negated_conjecture") ++ (term_text v h.formula ++ negated_source h.file h.name)

abbrev pub hypothesis_by : Role → Vocabulary → ℕ → Given → List ℕ
hypothesis_by role.Conjecture v n h = negation_text v n h
hypothesis_by _ v n h = assumption_text v n h

-- hypothesis of that number
abbrev pub hypothesis_text : Vocabulary → ℕ → Given → List ℕ
hypothesis_text v n h = hypothesis_by h.role v n h

-- whether a rule takes the hypothesis of that number
abbrev pub takes : ℕ → StepRule → Bool
takes n (assume h) = nat_eq n h
takes n _ = false

-- whether one of the lines does
abbrev pub is_used : List Line → ℕ → Bool
is_used lines n = list_any (λ l. takes n l.rule) lines

-- the hypotheses from a number on, of which only those stand there that lines take
abbrev pub hypotheses_text : Vocabulary → List Line → ℕ → List Given → List ℕ
hypotheses_text v lines n [] = []
hypotheses_text v lines n (h ∷ hs) = (if is_used lines n then hypothesis_text v n h else []) ++ hypotheses_text v lines (n + 1) hs

-- ---- lines

-- the lines from a number on
abbrev pub lines_text : Vocabulary → ℕ → List Line → List ℕ
lines_text v n [] = []
lines_text v n (l ∷ ls) = line_text (with_rule v l.rule) n l ++ lines_text (with_rule v l.rule) (n + 1) ls

-- ---- the whole

abbrev pub derivation_text : Vocabulary → List Given → List Line → List ℕ
derivation_text v hypotheses lines = hypotheses_text v lines 0 hypotheses ++ lines_text v 0 lines

-- ---- a derivation in the bank of a problem

abbrev pub given_at : Contents → Hyp → Given
given_at c h = record { formula = tree_at c h.term; file = h.file; name = h.name; role = h.role }

-- the words of a problem
abbrev pub words_of : Problem → Vocabulary
words_of p = vocabulary (declared_in p.bank p.names) (λ s. type_at p.bank (symbol_type p.bank s))

-- the text of a derivation from the hypotheses of a problem
unfoldable pub printed : Problem → List StepRecord → List ℕ
printed p lines = derivation_text (words_of p) (map (given_at p.bank) p.hyps) (map (line_at p.bank) lines)
