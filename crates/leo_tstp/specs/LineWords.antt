-- The words of rules and of lines, with those that stand behind them.
use Rattle.std.specs.Prelude.{ℕ, ◌+◌, List, [], ◌∷◌, ◌++◌, codes, decimal}
use Rattle.leo_terms.specs.Tree.{Tree}
use Rattle.leo_clause.specs.declared.record.Side.{Side}
use Rattle.leo_kernel.specs.Steps.{StepRule, assume, convert, inst, para, arrange, drop_literal, take_apart, bool_ext, func_ext, decompose, reflexivity, choose, factor, abbreviate, Line}
use Rattle.leo_tstp.specs.Vocabulary.{Vocabulary, with_rule}
use Rattle.leo_tstp.specs.StepTexts.{rule_word, status_word, side_word, half_word, kind_word}
use Rattle.leo_tstp.specs.Spelled.{line_head, typing_then}
use Rattle.leo_tstp.specs.RuleWords.{middle_then, end_then, no_parent_then, one_parent_then, two_parents_then, parent_and_then, one_literal_then, literal_and_then}
use Rattle.leo_tstp.specs.TermWords.{term_then}
use Rattle.leo_tstp.specs.ClauseWords.{clause_then}

-- ---- what a rule was applied to

-- numbers, each behind a comma
abbrev pub further_numbers_then : List ℕ → List (List ℕ) → List (List ℕ)
further_numbers_then [] rest = rest
further_numbers_then (n ∷ ns) rest = codes "," ∷ decimal n ∷ further_numbers_then ns rest

abbrev pub numbers_then : List ℕ → List (List ℕ) → List (List ℕ)
numbers_then [] rest = rest
numbers_then (n ∷ ns) rest = decimal n ∷ further_numbers_then ns rest

-- a literal and a side of it
abbrev pub place_then : ℕ → Side → List (List ℕ) → List (List ℕ)
place_then i side rest = decimal i ∷ codes "," ∷ side_word side ∷ rest

abbrev pub places_then : ℕ → Side → ℕ → Side → List ℕ → List (List ℕ) → List (List ℕ)
places_then i s j r path rest =
    codes "(" ∷ place_then i s (codes "," ∷ place_then j r (codes "," ∷ codes "[" ∷ numbers_then path (codes "]" ∷ codes ")" ∷ rest)))

-- a term that is put in
abbrev pub put_then : Vocabulary → Tree → List (List ℕ) → List (List ℕ)
put_then v t rest = codes "$thf" ∷ codes "(" ∷ term_then v t (codes ")" ∷ rest)

abbrev pub further_puts_then : Vocabulary → List Tree → List (List ℕ) → List (List ℕ)
further_puts_then v [] rest = rest
further_puts_then v (t ∷ ts) rest = codes "," ∷ put_then v t (further_puts_then v ts rest)

abbrev pub listed_puts_then : Vocabulary → List Tree → List (List ℕ) → List (List ℕ)
listed_puts_then v [] rest = rest
listed_puts_then v (t ∷ ts) rest = put_then v t (further_puts_then v ts rest)

abbrev pub puts_then : Vocabulary → List Tree → List (List ℕ) → List (List ℕ)
puts_then v sigma rest = codes "(" ∷ codes "[" ∷ listed_puts_then v sigma (codes "]" ∷ codes ")" ∷ rest)

-- a literal's number and a word in brackets
abbrev pub literal_with_then : ℕ → List ℕ → List (List ℕ) → List (List ℕ)
literal_with_then i text rest = literal_and_then i (text ∷ codes ")" ∷ rest)

abbrev pub evidence_then : Vocabulary → StepRule → List (List ℕ) → List (List ℕ)
evidence_then v (assume h) rest = one_literal_then h rest
evidence_then v (convert p) rest = rest
evidence_then v (inst p sigma) rest = puts_then v sigma rest
evidence_then v (para p i s q j r path) rest = places_then i s j r path rest
evidence_then v (arrange p) rest = rest
evidence_then v (drop_literal p i) rest = one_literal_then i rest
evidence_then v (take_apart p i kind a) rest = literal_with_then i (kind_word kind) rest
evidence_then v (bool_ext p i half) rest = literal_with_then i (half_word half) rest
evidence_then v (func_ext p i a) rest = one_literal_then i rest
evidence_then v (decompose p i) rest = one_literal_then i rest
evidence_then v reflexivity rest = rest
evidence_then v choose rest = rest
evidence_then v (factor p i j) rest = literal_with_then i (decimal j) rest
evidence_then v (abbreviate s) rest = rest

-- ---- what a line was made from

abbrev pub hypothesis_word : ℕ → List ℕ
hypothesis_word h = codes "h" ++ decimal h

-- the parents, with what stands before them and the end of the line
abbrev pub parents_then : StepRule → List (List ℕ) → List (List ℕ)
parents_then (assume h) rest = middle_then (hypothesis_word h ∷ end_then rest)
parents_then (convert p) rest = one_parent_then p rest
parents_then (inst p sigma) rest = one_parent_then p rest
parents_then (para p i s q j r path) rest = two_parents_then p q rest
parents_then (arrange p) rest = one_parent_then p rest
parents_then (drop_literal p i) rest = one_parent_then p rest
parents_then (take_apart p i kind a) rest = parent_and_then p a rest
parents_then (bool_ext p i half) rest = one_parent_then p rest
parents_then (func_ext p i a) rest = parent_and_then p a rest
parents_then (decompose p i) rest = one_parent_then p rest
parents_then reflexivity rest = no_parent_then rest
parents_then choose rest = no_parent_then rest
parents_then (factor p i j) rest = one_parent_then p rest
parents_then (abbreviate s) rest = no_parent_then rest

-- ---- rules and lines

-- the status of a line, by its word
abbrev pub status_then : List ℕ → List (List ℕ) → List (List ℕ)
status_then status rest = codes "," ∷ codes "[" ∷ codes "status" ∷ codes "(" ∷ status ∷ codes ")" ∷ codes "," ∷ codes "ev" ∷ rest

-- a rule with its status, what it was applied to, and its parents, up to the end of the line
abbrev pub rule_then : Vocabulary → StepRule → List (List ℕ) → List (List ℕ)
rule_then v r rest = rule_word r ∷ status_then (status_word r) (evidence_then v r (parents_then r rest))

-- the line of that number
abbrev pub step_then : Vocabulary → ℕ → Line → List (List ℕ) → List (List ℕ)
step_then v n l rest = line_head n ++ clause_then v l.clause (codes "," ∷ codes "inference" ∷ codes "(" ∷ rule_then v l.rule rest)

-- the name of the type statement of a symbol of that name
abbrev pub statement_word : List ℕ → List ℕ
statement_word name = name ++ codes "_type"

-- what stands before a line: the type statement of the symbol that it introduces
abbrev pub before_then : Vocabulary → StepRule → List (List ℕ) → List (List ℕ)
before_then v (abbreviate s) rest = typing_then v (statement_word (v.symbol_word s)) (v.symbol_word s) (v.symbol_type s) rest
before_then v _ rest = rest

-- a line, by the words with its own symbol
abbrev pub line_then : Vocabulary → ℕ → Line → List (List ℕ) → List (List ℕ)
line_then v n l rest = before_then v l.rule (step_then v n l rest)

-- the lines from a number on
abbrev pub lines_then : Vocabulary → ℕ → List Line → List (List ℕ) → List (List ℕ)
lines_then v n [] rest = rest
lines_then v n (l ∷ ls) rest = line_then (with_rule v l.rule) n l (lines_then (with_rule v l.rule) (n + 1) ls rest)
