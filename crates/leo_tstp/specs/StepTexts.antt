-- The texts of rules and of lines.
use Rattle.std.specs.Prelude.{ℕ, List, [], ◌++◌, codes, decimal, Option, Some, None}
use Rattle.leo_q0.specs.Terms.{SimpleType}
use Rattle.leo_terms.specs.Tree.{Tree}
use Rattle.leo_clause.specs.declared.record.Side.{Side}
use Rattle.leo_clause.specs.declared.record.Side.TheVariants.{Left, Right}
use Rattle.leo_clause.specs.declared.record.Half.{Half}
use Rattle.leo_clause.specs.declared.record.Half.TheVariants.{One, Two}
use Rattle.leo_clause.specs.declared.record.LogicKind.{LogicKind}
use Rattle.leo_clause.specs.declared.record.LogicKind.TheVariants as kind
use Rattle.leo_kernel.specs.Steps.{StepRule, assume, convert, inst, para, arrange, drop_literal, take_apart, bool_ext, func_ext, decompose, reflexivity, choose, factor, abbreviate, Line}
use Rattle.leo_tstp.specs.Vocabulary.{Vocabulary}
use Rattle.leo_tstp.specs.Words.{joined}
use Rattle.leo_tstp.specs.TermTexts.{type_text, term_text}
use Rattle.leo_tstp.specs.ClauseTexts.{clause_text}

abbrev pub rule_word : StepRule → List ℕ
rule_word (assume h) = codes "axiom"
rule_word (convert p) = codes "convert"
rule_word (inst p sigma) = codes "inst"
rule_word (para p i s q j r path) = codes "para"
rule_word (arrange p) = codes "arrange"
rule_word (drop_literal p i) = codes "drop"
rule_word (take_apart p i kind a) = codes "logic"
rule_word (bool_ext p i half) = codes "bool_ext"
rule_word (func_ext p i a) = codes "func_ext"
rule_word (decompose p i) = codes "decompose"
rule_word reflexivity = codes "refl"
rule_word choose = codes "choice"
rule_word (factor p i j) = codes "factor"
rule_word (abbreviate s) = codes "abbreviate"

-- a line follows from its parents, but for one that defines a new symbol
abbrev pub status_word : StepRule → List ℕ
status_word (abbreviate s) = codes "esa"
status_word _ = codes "thm"

abbrev pub side_word : Side → List ℕ
side_word Left = codes "left"
side_word Right = codes "right"

abbrev pub half_word : Half → List ℕ
half_word One = codes "1"
half_word Two = codes "2"

abbrev pub kind_word : LogicKind → List ℕ
kind_word kind.Not = codes "not"
kind_word kind.OrT = codes "or_t"
kind_word kind.OrF1 = codes "or_f1"
kind_word kind.OrF2 = codes "or_f2"
kind_word kind.AndT1 = codes "and_t1"
kind_word kind.AndT2 = codes "and_t2"
kind_word kind.AndF = codes "and_f"
kind_word kind.ImpT = codes "imp_t"
kind_word kind.ImpF1 = codes "imp_f1"
kind_word kind.ImpF2 = codes "imp_f2"
kind_word kind.EqT = codes "eq_t"
kind_word kind.EqF = codes "eq_f"
kind_word kind.Flip = codes "flip"
kind_word kind.AllT = codes "all_t"
kind_word kind.SomeF = codes "some_f"
kind_word kind.AllF = codes "all_f"
kind_word kind.SomeT = codes "some_t"

-- ---- what a rule was applied to

unfoldable pub one_number : ℕ → List ℕ
one_number n = codes "(" ++ (decimal n ++ codes ")")

-- a number, and something behind it
unfoldable pub number_and : ℕ → List ℕ → List ℕ
number_and n text = codes "(" ++ (decimal n ++ (codes "," ++ (text ++ codes ")")))

-- a literal and a side of it
unfoldable pub place_text : ℕ → Side → List ℕ
place_text i side = decimal i ++ (codes "," ++ side_word side)

unfoldable pub places_text : ℕ → Side → ℕ → Side → List ℕ → List ℕ
places_text i s j r path =
    codes "(" ++ (place_text i s ++ (codes "," ++ (place_text j r ++ (codes ",[" ++ (joined (codes ",") decimal path ++ codes "])")))))

-- a term that is put in
unfoldable pub put_text : Vocabulary → Tree → List ℕ
put_text v t = codes "$thf(" ++ (term_text v t ++ codes ")")

unfoldable pub puts_text : Vocabulary → List Tree → List ℕ
puts_text v sigma = codes "([" ++ (joined (codes ",") (put_text v) sigma ++ codes "])")

abbrev pub evidence_text : Vocabulary → StepRule → List ℕ
evidence_text v (assume h) = one_number h
evidence_text v (convert p) = []
evidence_text v (inst p sigma) = puts_text v sigma
evidence_text v (para p i s q j r path) = places_text i s j r path
evidence_text v (arrange p) = []
evidence_text v (drop_literal p i) = one_number i
evidence_text v (take_apart p i kind a) = number_and i (kind_word kind)
evidence_text v (bool_ext p i half) = number_and i (half_word half)
evidence_text v (func_ext p i a) = one_number i
evidence_text v (decompose p i) = one_number i
evidence_text v reflexivity = []
evidence_text v choose = []
evidence_text v (factor p i j) = number_and i (decimal j)
evidence_text v (abbreviate s) = []

-- ---- what a line was made from

unfoldable pub hypothesis_name : ℕ → List ℕ
hypothesis_name h = codes "h" ++ decimal h

unfoldable pub line_name : ℕ → List ℕ
line_name p = codes "l" ++ decimal p

-- two lines
unfoldable pub two_lines : ℕ → ℕ → List ℕ
two_lines p q = line_name p ++ (codes "," ++ line_name q)

-- a line, and that of an abbreviation where one is used
abbrev pub line_and : ℕ → Option ℕ → List ℕ
line_and p None = line_name p
line_and p (Some a) = two_lines p a

abbrev pub parents_text : StepRule → List ℕ
parents_text (assume h) = hypothesis_name h
parents_text (convert p) = line_name p
parents_text (inst p sigma) = line_name p
parents_text (para p i s q j r path) = two_lines p q
parents_text (arrange p) = line_name p
parents_text (drop_literal p i) = line_name p
parents_text (take_apart p i kind a) = line_and p a
parents_text (bool_ext p i half) = line_name p
parents_text (func_ext p i a) = line_and p a
parents_text (decompose p i) = line_name p
parents_text reflexivity = []
parents_text choose = []
parents_text (factor p i j) = line_name p
parents_text (abbreviate s) = []

-- ---- lines

-- the rule with its status and what it was applied to
unfoldable pub applied_rule : Vocabulary → StepRule → List ℕ
applied_rule v r = rule_word r ++ (codes ",[status(" ++ (status_word r ++ (codes "),ev" ++ evidence_text v r)))

-- where a line comes from
unfoldable pub inference_text : Vocabulary → StepRule → List ℕ
inference_text v r = codes ",inference(" ++ (applied_rule v r ++ (codes "],[" ++ (parents_text r ++ codes "])).\n")))

-- the line of that number
unfoldable pub step_text : Vocabulary → ℕ → Line → List ℕ
step_text v n l = codes "thf(l" ++ (decimal n ++ (codes ",plain," ++ (clause_text v l.clause ++ inference_text v l.rule)))

-- the type statement of a symbol, to its type
unfoldable pub typing_head : List ℕ → List ℕ
typing_head word = codes "thf(" ++ (word ++ (codes "_type,type," ++ (word ++ codes ": ")))

-- the type statement of a symbol of that type
unfoldable pub typing_as : Vocabulary → ℕ → SimpleType → List ℕ
typing_as v s a = typing_head (v.symbol_word s) ++ (type_text v a ++ codes ").\n")

abbrev pub typing_text : Vocabulary → ℕ → List ℕ
typing_text v s = typing_as v s (v.symbol_type s)

-- what stands before a line: the type statement of the symbol that it introduces
abbrev pub before_line : Vocabulary → StepRule → List ℕ
before_line v (abbreviate s) = typing_text v s
before_line v _ = []

-- a line, by the words with its own symbol
abbrev pub line_text : Vocabulary → ℕ → Line → List ℕ
line_text v n l = before_line v l.rule ++ step_text v n l
