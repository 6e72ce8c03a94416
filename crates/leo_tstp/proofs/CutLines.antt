-- Clauses, rules and lines are cut into their words.
use Rattle.std.proofs.Common.{ℕ, ◌≡◌, ◌+◌, Bool, true, false, List, [], ◌∷◌, ◌++◌, refl, sym, subst, append_assoc}
use Rattle.std.specs.Prelude.{codes, decimal, Option, Some, None}
use Rattle.std.specs.List.{flat_map}
use Rattle.leo_lex.specs.declared.mark.Mark.TheVariants as mark
use Rattle.leo_lex.specs.Bytes.{is_lower, is_word, is_digit}
use Rattle.leo_lex.specs.Forms.{Each, IsWord, IsDigits}
use Rattle.leo_lex.specs.Spells.{Spells}
use Rattle.leo_q0.specs.Terms.{SimpleType}
use Rattle.leo_terms.specs.Tree.{Tree}
use Rattle.leo_clause.specs.Trees.{Literal, ClauseTree}
use Rattle.leo_clause.specs.declared.record.Side.{Side}
use Rattle.leo_clause.specs.declared.record.Side.TheVariants.{Left, Right}
use Rattle.leo_clause.specs.declared.record.Half.{Half}
use Rattle.leo_clause.specs.declared.record.Half.TheVariants.{One, Two}
use Rattle.leo_clause.specs.declared.record.LogicKind.{LogicKind}
use Rattle.leo_clause.specs.declared.record.LogicKind.TheVariants as kind
use Rattle.leo_kernel.specs.Steps.{StepRule, assume, convert, inst, para, arrange, drop_literal, take_apart, bool_ext, func_ext, decompose, reflexivity, choose, factor, abbreviate, Line}
use Rattle.leo_tstp.specs.Vocabulary.{Vocabulary}
use Rattle.leo_tstp.specs.Words.{is_lower_word, in_brackets, joined}
use Rattle.leo_tstp.specs.TermTexts.{type_text, term_text, variable_name}
use Rattle.leo_tstp.specs.ClauseTexts.{declared_variable, further_variables, variables_text, equation_sign, literal_text, further_literal, further_literals, disjunction_text, literals_text, clause_text}
use Rattle.leo_tstp.specs.StepTexts.{rule_word, status_word, side_word, half_word, kind_word, one_number, number_and, place_text, places_text, put_text, puts_text, evidence_text, hypothesis_name, line_name, two_lines, line_and, parents_text, applied_rule, inference_text, step_text, typing_head, typing_as, before_line, line_text}
use Rattle.leo_tstp.specs.TermWords.{Then, between_then}
use Rattle.leo_tstp.specs.Spelled.{typing_then}
use Rattle.leo_tstp.specs.RuleWords.{line_word, middle_then, end_then, no_parent_then, one_parent_then, two_parents_then, parent_and_then, one_literal_then}
use Rattle.leo_tstp.specs.ClauseWords.{declared_then, further_variables_then, variables_then, equation_word, literal_then, further_literals_then, disjunction_then, literals_then, clause_then}
use Rattle.leo_tstp.specs.LineWords.{further_numbers_then, numbers_then, place_then, places_then, put_then, further_puts_then, listed_puts_then, puts_then, literal_with_then, evidence_then, hypothesis_word, parents_then, status_then, rule_then, step_then, statement_word, before_then, line_then}
use Rattle.leo_tstp.specs.Nameable.{Named, IsNamedType, AreNamedTypes, IsNamedTerm, AreNamedTerms, AreNamedLiterals, IsNamedClause}
use Rattle.leo_tstp.proofs.Cutting.{Tail, space, spaced, opens, closes, opens-list, closes-list, comma, dot, colon, line-end, IsWordText, put, number, lower, lower-word, dollar-word, numbered-lower, decimal-digits}
use Rattle.leo_tstp.proofs.CutTerms.{IsCut, HasWords, between-cut, type-cut, term-cut, variable-word, variable-is, falsity-cut}

-- the text is cut into the words that stand before others, and words end before it where they end behind it
pub record IsTail (text : List ℕ) (words : Then) : Type 0 where
  pub tail : (rest : List ℕ) (behind : List (List ℕ)) → Tail rest behind → Tail (text ++ rest) (words behind)

-- the text is cut into the words that stand before others, whatever stands behind it
pub record IsWhole (text : List ℕ) (words : Then) : Type 0 where
  pub whole : (rest : List ℕ) (behind : List (List ℕ)) → Spells rest behind → Spells (text ++ rest) (words behind)

nothing-tail : IsTail [] (λ behind. behind)
nothing-tail = record { tail = λ rest behind t. t }

-- a lower word that is given
pub fixed : (text : List ℕ) → is_lower_word text ≡ true → IsWordText text
fixed text e = lower text (lower-word text e)

-- ---- clauses

declared-text : (v : Vocabulary) (n : ℕ) (a : SimpleType) (rest : List ℕ) → declared_variable v n a ++ rest ≡ variable_name n ++ 58 ∷ 32 ∷ (type_text v a ++ rest)
unfolding declared_variable
declared-text v n a rest = simp append_assoc

variable-put : (n : ℕ) {rest : List ℕ} {behind : List (List ℕ)} → Tail rest behind → Spells (variable_name n ++ rest) ((codes "X" ++ decimal n) ∷ behind)
variable-put n {rest} {behind} t = subst (λ w. Spells (variable_name n ++ rest) (w ∷ behind)) (variable-is n) (put (variable-word n) t)

declared-cut : (n : Named) (v : Vocabulary) → HasWords n v → (i : ℕ) (a : SimpleType) → IsNamedType n a → IsCut (declared_variable v i a) (declared_then v i a)
declared-cut n v h i a k = record {
  cut = λ rest behind t. subst (λ b. Spells b (declared_then v i a behind)) (sym (declared-text v i a rest)) (variable-put i (colon ((type-cut n v h a k).cut rest behind t)));
}

further-tail : (n : Named) (v : Vocabulary) → HasWords n v → (i : ℕ) (others : List SimpleType) → AreNamedTypes n others → IsTail (further_variables v i others) (further_variables_then v i others)
further-tail n v h i [] k = nothing-tail
further-tail n v h i (a ∷ others) k = record {
  tail = λ rest behind t.
      let more = (further-tail n v h (i + 1) others k.1).tail rest behind t in
      let e : (codes "," ++ (declared_variable v i a ++ further_variables v (i + 1) others)) ++ rest ≡ 44 ∷ (declared_variable v i a ++ (further_variables v (i + 1) others ++ rest)) = simp append_assoc in
      subst (λ b. Tail b (further_variables_then v i (a ∷ others) behind)) (sym e) (comma ((declared-cut n v h i a k.0).cut _ _ more));
}

variables-whole : (n : Named) (v : Vocabulary) → HasWords n v → (types : List SimpleType) → AreNamedTypes n types → IsWhole (variables_text v types) (variables_then v types)
variables-whole n v h [] k = record { whole = λ rest behind s. s }
variables-whole n v h (a ∷ others) k = record {
  whole = λ rest behind s.
      let end = closes-list (space (colon s).spells).spells in
      let more = (further-tail n v h 1 others k.1).tail _ _ end in
      let e : (codes "! [" ++ (declared_variable v 0 a ++ (further_variables v 1 others ++ codes "] : "))) ++ rest
      ≡ codes "! " ++ (91 ∷ (declared_variable v 0 a ++ (further_variables v 1 others ++ 93 ∷ 32 ∷ 58 ∷ 32 ∷ rest))) = simp append_assoc in
      subst (λ b. Spells b (variables_then v (a ∷ others) behind)) (sym e) (spaced mark.ForAll (opens-list ((declared-cut n v h 0 a k.0).cut _ _ more)).spells);
}

literal-by : {left right : List ℕ} {f g : Then} (positive : Bool) → IsCut left f → IsCut right g
    → IsCut (in_brackets left (equation_sign positive) right) (between_then f (equation_word positive) g)
literal-by true h k = between-cut mark.Equal h k
literal-by false h k = between-cut mark.NotEqual h k

literal-cut : (n : Named) (v : Vocabulary) → HasWords n v → (l : Literal) → IsNamedTerm n l.left → IsNamedTerm n l.right → IsCut (literal_text v l) (literal_then v l)
literal-cut n v h l j k = literal-by l.positive (term-cut n v h l.left j) (term-cut n v h l.right k)

literals-tail : (n : Named) (v : Vocabulary) → HasWords n v → (ls : List Literal) → AreNamedLiterals n ls → IsTail (further_literals v ls) (further_literals_then v ls)
literals-tail n v h [] k = nothing-tail
literals-tail n v h (l ∷ ls) k = record {
  tail = λ rest behind t.
      let more = (literals-tail n v h ls k.2).tail rest behind t in
      let e : (further_literal v l ++ further_literals v ls) ++ rest ≡ 32 ∷ (codes "|" ++ 32 ∷ (literal_text v l ++ (further_literals v ls ++ rest))) = simp append_assoc in
      subst (λ b. Tail b (further_literals_then v (l ∷ ls) behind)) (sym e) (space (spaced mark.Or ((literal-cut n v h l k.0 k.1).cut _ _ more)));
}

disjunction-cut : (n : Named) (v : Vocabulary) → HasWords n v → (l : Literal) (ls : List Literal) → AreNamedLiterals n (l ∷ ls) → IsCut (disjunction_text v l ls) (disjunction_then v l ls)
disjunction-cut n v h l [] k = literal-cut n v h l k.0 k.1
disjunction-cut n v h l (m ∷ ms) k = record {
  cut = λ rest behind t.
      let more = (literals-tail n v h (m ∷ ms) k.2).tail _ _ (space (closes t.spells).spells) in
      let e : (codes "( " ++ (literal_text v l ++ (further_literals v (m ∷ ms) ++ codes " )"))) ++ rest
      ≡ 40 ∷ 32 ∷ (literal_text v l ++ (further_literals v (m ∷ ms) ++ 32 ∷ 41 ∷ rest)) = simp append_assoc in
      subst (λ b. Spells b (disjunction_then v l (m ∷ ms) behind)) (sym e) (opens (space ((literal-cut n v h l k.0 k.1).cut _ _ more)).spells).spells;
}

literals-cut : (n : Named) (v : Vocabulary) → HasWords n v → (ls : List Literal) → AreNamedLiterals n ls → IsCut (literals_text v ls) (literals_then v ls)
literals-cut n v h [] k = falsity-cut
literals-cut n v h (l ∷ ls) k = disjunction-cut n v h l ls k

pub clause-cut : (n : Named) (v : Vocabulary) → HasWords n v → (c : ClauseTree) → IsNamedClause n c → IsCut (clause_text v c) (clause_then v c)
clause-cut n v h c k = record {
  cut = λ rest behind t. subst (λ b. Spells b (clause_then v c behind)) (sym (append_assoc (variables_text v c.variables) (literals_text v c.literals) rest))
      ((variables-whole n v h c.variables k.0).whole _ _ ((literals-cut n v h c.literals k.1).cut rest behind t));
}

-- ---- what a rule was applied to

one-tail : (i : ℕ) → IsTail (one_number i) (one_literal_then i)
unfolding one_number
one-tail i = record {
  tail = λ rest behind t.
      let e : (codes "(" ++ (decimal i ++ codes ")")) ++ rest ≡ 40 ∷ (decimal i ++ 41 ∷ rest) = simp append_assoc in
      subst (λ b. Tail b (one_literal_then i behind)) (sym e) (opens (number (decimal-digits i) (closes t.spells)));
}

and-tail : (i : ℕ) (text : List ℕ) → IsCut text (λ behind. text ∷ behind) → IsTail (number_and i text) (literal_with_then i text)
unfolding number_and
and-tail i text h = record {
  tail = λ rest behind t.
      let e : (codes "(" ++ (decimal i ++ (codes "," ++ (text ++ codes ")")))) ++ rest ≡ 40 ∷ (decimal i ++ 44 ∷ (text ++ 41 ∷ rest)) = simp append_assoc in
      subst (λ b. Tail b (literal_with_then i text behind)) (sym e) (opens (number (decimal-digits i) (comma (h.cut _ _ (closes t.spells)))));
}

pub word-cut : {text : List ℕ} → IsWordText text → IsCut text (λ behind. text ∷ behind)
word-cut h = record { cut = λ rest behind t. put h t }

pub digits-cut : {text : List ℕ} → IsDigits text → IsCut text (λ behind. text ∷ behind)
digits-cut h = record { cut = λ rest behind t. number h t }

side-word : (s : Side) → IsWordText (side_word s)
unfolding is_lower_word is_lower is_word
side-word Left = fixed (codes "left") refl
side-word Right = fixed (codes "right") refl

half-digits : (h : Half) → IsDigits (half_word h)
unfolding is_digit
half-digits One = (refl, tt)
half-digits Two = (refl, tt)

kind-word : (k : LogicKind) → IsWordText (kind_word k)
unfolding is_lower_word is_lower is_word
kind-word kind.Not = fixed (codes "not") refl
kind-word kind.OrT = fixed (codes "or_t") refl
kind-word kind.OrF1 = fixed (codes "or_f1") refl
kind-word kind.OrF2 = fixed (codes "or_f2") refl
kind-word kind.AndT1 = fixed (codes "and_t1") refl
kind-word kind.AndT2 = fixed (codes "and_t2") refl
kind-word kind.AndF = fixed (codes "and_f") refl
kind-word kind.ImpT = fixed (codes "imp_t") refl
kind-word kind.ImpF1 = fixed (codes "imp_f1") refl
kind-word kind.ImpF2 = fixed (codes "imp_f2") refl
kind-word kind.EqT = fixed (codes "eq_t") refl
kind-word kind.EqF = fixed (codes "eq_f") refl
kind-word kind.Flip = fixed (codes "flip") refl
kind-word kind.AllT = fixed (codes "all_t") refl
kind-word kind.SomeF = fixed (codes "some_f") refl
kind-word kind.AllF = fixed (codes "all_f") refl
kind-word kind.SomeT = fixed (codes "some_t") refl

rule-word : (r : StepRule) → IsWordText (rule_word r)
unfolding is_lower_word is_lower is_word
rule-word (assume h) = fixed (codes "axiom") refl
rule-word (convert p) = fixed (codes "convert") refl
rule-word (inst p sigma) = fixed (codes "inst") refl
rule-word (para p i s q j r path) = fixed (codes "para") refl
rule-word (arrange p) = fixed (codes "arrange") refl
rule-word (drop_literal p i) = fixed (codes "drop") refl
rule-word (take_apart p i kind a) = fixed (codes "logic") refl
rule-word (bool_ext p i half) = fixed (codes "bool_ext") refl
rule-word (func_ext p i a) = fixed (codes "func_ext") refl
rule-word (decompose p i) = fixed (codes "decompose") refl
rule-word reflexivity = fixed (codes "refl") refl
rule-word choose = fixed (codes "choice") refl
rule-word (factor p i j) = fixed (codes "factor") refl
rule-word (abbreviate s) = fixed (codes "abbreviate") refl

theorem : IsWordText (codes "thm")
unfolding is_lower_word is_lower is_word
theorem = fixed (codes "thm") refl

status-word : (r : StepRule) → IsWordText (status_word r)
unfolding is_lower_word is_lower is_word
status-word (abbreviate s) = fixed (codes "esa") refl
status-word (assume h) = theorem
status-word (convert p) = theorem
status-word (inst p sigma) = theorem
status-word (para p i s q j r path) = theorem
status-word (arrange p) = theorem
status-word (drop_literal p i) = theorem
status-word (take_apart p i kind a) = theorem
status-word (bool_ext p i half) = theorem
status-word (func_ext p i a) = theorem
status-word (decompose p i) = theorem
status-word reflexivity = theorem
status-word choose = theorem
status-word (factor p i j) = theorem

place-cut : (i : ℕ) (s : Side) → IsCut (place_text i s) (place_then i s)
unfolding place_text
place-cut i s = record {
  cut = λ rest behind t.
      let e : (decimal i ++ (codes "," ++ side_word s)) ++ rest ≡ decimal i ++ 44 ∷ (side_word s ++ rest) = simp append_assoc in
      subst (λ b. Spells b (place_then i s behind)) (sym e) (number (decimal-digits i) (comma (put (side-word s) t)));
}

further-numbers-tail : (ns : List ℕ) → IsTail (flat_map (λ k. codes "," ++ decimal k) ns) (further_numbers_then ns)
further-numbers-tail [] = nothing-tail
further-numbers-tail (k ∷ ns) = record {
  tail = λ rest behind t.
      let more = (further-numbers-tail ns).tail rest behind t in
      let others : List ℕ = flat_map (λ i. codes "," ++ decimal i) ns in
      let e : ((codes "," ++ decimal k) ++ others) ++ rest ≡ 44 ∷ (decimal k ++ (others ++ rest)) = simp append_assoc in
      subst (λ b. Tail b (further_numbers_then (k ∷ ns) behind)) (sym e) (comma (number (decimal-digits k) more));
}

numbers-cut : (ns : List ℕ) → IsCut (joined (codes ",") decimal ns) (numbers_then ns)
numbers-cut [] = record { cut = λ rest behind t. t.spells }
numbers-cut (k ∷ ns) = record {
  cut = λ rest behind t.
      let others : List ℕ = flat_map (λ i. codes "," ++ decimal i) ns in
      subst (λ b. Spells b (numbers_then (k ∷ ns) behind)) (sym (append_assoc (decimal k) others rest)) (number (decimal-digits k) ((further-numbers-tail ns).tail rest behind t));
}

places-tail : (i : ℕ) (s : Side) (j : ℕ) (r : Side) (path : List ℕ) → IsTail (places_text i s j r path) (places_then i s j r path)
unfolding places_text
places-tail i s j r path = record {
  tail = λ rest behind t.
      let ns : List ℕ = joined (codes ",") decimal path in
      let e : (codes "(" ++ (place_text i s ++ (codes "," ++ (place_text j r ++ (codes ",[" ++ (ns ++ codes "])")))))) ++ rest
      ≡ 40 ∷ (place_text i s ++ 44 ∷ (place_text j r ++ 44 ∷ 91 ∷ (ns ++ 93 ∷ 41 ∷ rest))) = simp append_assoc in
      let inner = (numbers-cut path).cut _ _ (closes-list (closes t.spells).spells) in
      let second = (place-cut j r).cut _ _ (comma (opens-list inner).spells) in
      subst (λ b. Tail b (places_then i s j r path behind)) (sym e) (opens ((place-cut i s).cut _ _ (comma second)));
}

thf-word : IsWordText (codes "$thf")
unfolding is_lower is_word
thf-word = dollar-word (codes "thf") (refl, (refl, (refl, tt)))

put-cut : (n : Named) (v : Vocabulary) → HasWords n v → (x : Tree) → IsNamedTerm n x → IsCut (put_text v x) (put_then v x)
unfolding put_text
put-cut n v h x k = record {
  cut = λ rest behind t.
      let e : (codes "$thf(" ++ (term_text v x ++ codes ")")) ++ rest ≡ codes "$thf" ++ 40 ∷ (term_text v x ++ 41 ∷ rest) = simp append_assoc in
      subst (λ b. Spells b (put_then v x behind)) (sym e) (put thf-word (opens ((term-cut n v h x k).cut _ _ (closes t.spells))));
}

further-puts-tail : (n : Named) (v : Vocabulary) → HasWords n v → (xs : List Tree) → AreNamedTerms n xs → IsTail (flat_map (λ x. codes "," ++ put_text v x) xs) (further_puts_then v xs)
further-puts-tail n v h [] k = nothing-tail
further-puts-tail n v h (x ∷ xs) k = record {
  tail = λ rest behind t.
      let more = (further-puts-tail n v h xs k.1).tail rest behind t in
      let others : List ℕ = flat_map (λ y. codes "," ++ put_text v y) xs in
      let e : ((codes "," ++ put_text v x) ++ others) ++ rest ≡ 44 ∷ (put_text v x ++ (others ++ rest)) = simp append_assoc in
      subst (λ b. Tail b (further_puts_then v (x ∷ xs) behind)) (sym e) (comma ((put-cut n v h x k.0).cut _ _ more));
}

listed-cut : (n : Named) (v : Vocabulary) → HasWords n v → (xs : List Tree) → AreNamedTerms n xs → IsCut (joined (codes ",") (put_text v) xs) (listed_puts_then v xs)
listed-cut n v h [] k = record { cut = λ rest behind t. t.spells }
listed-cut n v h (x ∷ xs) k = record {
  cut = λ rest behind t.
      let others : List ℕ = flat_map (λ y. codes "," ++ put_text v y) xs in
      subst (λ b. Spells b (listed_puts_then v (x ∷ xs) behind)) (sym (append_assoc (put_text v x) others rest))
      ((put-cut n v h x k.0).cut _ _ ((further-puts-tail n v h xs k.1).tail rest behind t));
}

puts-tail : (n : Named) (v : Vocabulary) → HasWords n v → (sigma : List Tree) → AreNamedTerms n sigma → IsTail (puts_text v sigma) (puts_then v sigma)
unfolding puts_text
puts-tail n v h sigma k = record {
  tail = λ rest behind t.
      let xs : List ℕ = joined (codes ",") (put_text v) sigma in
      let e : (codes "([" ++ (xs ++ codes "])")) ++ rest ≡ 40 ∷ 91 ∷ (xs ++ 93 ∷ 41 ∷ rest) = simp append_assoc in
      subst (λ b. Tail b (puts_then v sigma behind)) (sym e) (opens (opens-list ((listed-cut n v h sigma k).cut _ _ (closes-list (closes t.spells).spells))).spells);
}

-- the terms of a rule have names
abbrev pub AreNamedPuts : Named → StepRule → Type 0
AreNamedPuts n (inst p sigma) = AreNamedTerms n sigma
AreNamedPuts n _ = Unit {0}

evidence-tail : (n : Named) (v : Vocabulary) → HasWords n v → (r : StepRule) → AreNamedPuts n r → IsTail (evidence_text v r) (evidence_then v r)
evidence-tail n v h (assume a) k = one-tail a
evidence-tail n v h (convert p) k = nothing-tail
evidence-tail n v h (inst p sigma) k = puts-tail n v h sigma k
evidence-tail n v h (para p i s q j r path) k = places-tail i s j r path
evidence-tail n v h (arrange p) k = nothing-tail
evidence-tail n v h (drop_literal p i) k = one-tail i
evidence-tail n v h (take_apart p i kind a) k = and-tail i (kind_word kind) (word-cut (kind-word kind))
evidence-tail n v h (bool_ext p i half) k = and-tail i (half_word half) (digits-cut (half-digits half))
evidence-tail n v h (func_ext p i a) k = one-tail i
evidence-tail n v h (decompose p i) k = one-tail i
evidence-tail n v h reflexivity k = nothing-tail
evidence-tail n v h choose k = nothing-tail
evidence-tail n v h (factor p i j) k = and-tail i (decimal j) (digits-cut (decimal-digits j))
evidence-tail n v h (abbreviate s) k = nothing-tail

-- ---- what a line was made from

end-tail : {rest : List ℕ} {behind : List (List ℕ)} → Spells rest behind → Tail (93 ∷ 41 ∷ 41 ∷ 46 ∷ 10 ∷ rest) (end_then behind)
end-tail s = closes-list (closes (closes (dot (line-end s))).spells).spells

middle-tail : {rest : List ℕ} {behind : List (List ℕ)} → Spells rest behind → Tail (93 ∷ 44 ∷ 91 ∷ rest) (middle_then behind)
middle-tail s = closes-list (comma (opens-list s).spells).spells

lower-h : is_lower 104 ≡ true
unfolding is_lower
lower-h = refl

lower-l : is_lower 108 ≡ true
unfolding is_lower
lower-l = refl

hypothesis-put : (h : ℕ) {rest : List ℕ} {behind : List (List ℕ)} → Tail rest behind → Spells (hypothesis_name h ++ rest) (hypothesis_word h ∷ behind)
unfolding hypothesis_name
hypothesis-put h t = put (numbered-lower 104 h lower-h) t

line-put : (p : ℕ) {rest : List ℕ} {behind : List (List ℕ)} → Tail rest behind → Spells (line_name p ++ rest) (line_word p ∷ behind)
unfolding line_name
line-put p t = put (numbered-lower 108 p lower-l) t

-- the parents of a line with what stands around them
abbrev around : List ℕ → List ℕ → List ℕ
around parents rest = 93 ∷ 44 ∷ 91 ∷ (parents ++ 93 ∷ 41 ∷ 41 ∷ 46 ∷ 10 ∷ rest)

none-tail : {rest : List ℕ} {behind : List (List ℕ)} → Spells rest behind → Tail (around [] rest) (no_parent_then behind)
none-tail s = middle-tail (end-tail s).spells

one-parent-tail : (p : ℕ) {rest : List ℕ} {behind : List (List ℕ)} → Spells rest behind → Tail (around (line_name p) rest) (one_parent_then p behind)
one-parent-tail p s = middle-tail (line-put p (end-tail s))

two-parents-tail : (p q : ℕ) {rest : List ℕ} {behind : List (List ℕ)} → Spells rest behind → Tail (around (two_lines p q) rest) (two_parents_then p q behind)
unfolding two_lines
two-parents-tail p q {rest} {behind} s =
    let end : List ℕ = 93 ∷ 41 ∷ 41 ∷ 46 ∷ 10 ∷ rest in
    let e : (line_name p ++ (codes "," ++ line_name q)) ++ end ≡ line_name p ++ 44 ∷ (line_name q ++ end) = simp append_assoc in
    let words : Spells (line_name p ++ 44 ∷ (line_name q ++ end)) (line_word p ∷ codes "," ∷ line_word q ∷ end_then behind) = line-put p (comma (line-put q (end-tail s))) in
    middle-tail (subst (λ b. Spells b (line_word p ∷ codes "," ∷ line_word q ∷ end_then behind)) (sym e) words)

parent-and-tail : (p : ℕ) (a : Option ℕ) {rest : List ℕ} {behind : List (List ℕ)} → Spells rest behind → Tail (around (line_and p a) rest) (parent_and_then p a behind)
parent-and-tail p None s = one-parent-tail p s
parent-and-tail p (Some q) s = two-parents-tail p q s

parents-tail : (r : StepRule) {rest : List ℕ} {behind : List (List ℕ)} → Spells rest behind → Tail (around (parents_text r) rest) (parents_then r behind)
parents-tail (assume h) s = middle-tail (hypothesis-put h (end-tail s))
parents-tail (convert p) s = one-parent-tail p s
parents-tail (inst p sigma) s = one-parent-tail p s
parents-tail (para p i t q j r path) s = two-parents-tail p q s
parents-tail (arrange p) s = one-parent-tail p s
parents-tail (drop_literal p i) s = one-parent-tail p s
parents-tail (take_apart p i kind a) s = parent-and-tail p a s
parents-tail (bool_ext p i half) s = one-parent-tail p s
parents-tail (func_ext p i a) s = parent-and-tail p a s
parents-tail (decompose p i) s = one-parent-tail p s
parents-tail reflexivity s = none-tail s
parents-tail choose s = none-tail s
parents-tail (factor p i j) s = one-parent-tail p s
parents-tail (abbreviate a) s = none-tail s

-- ---- rules and lines

inference-word : IsWordText (codes "inference")
unfolding is_lower_word is_lower is_word
inference-word = fixed (codes "inference") refl

status-name : IsWordText (codes "status")
unfolding is_lower_word is_lower is_word
status-name = fixed (codes "status") refl

evidence-name : IsWordText (codes "ev")
unfolding is_lower_word is_lower is_word
evidence-name = fixed (codes "ev") refl

status-tail : {word rest : List ℕ} {behind : List (List ℕ)} → IsWordText word → Tail rest behind
    → Tail (44 ∷ 91 ∷ (codes "status" ++ 40 ∷ (word ++ 41 ∷ 44 ∷ (codes "ev" ++ rest)))) (status_then word behind)
status-tail w t = comma (opens-list (put status-name (opens (put w (closes (comma (put evidence-name t)).spells))))).spells

rule-text : (v : Vocabulary) (r : StepRule) (rest : List ℕ) → inference_text v r ++ rest
    ≡ 44 ∷ (codes "inference" ++ 40 ∷ (rule_word r ++ 44 ∷ 91 ∷ (codes "status" ++ 40 ∷ (status_word r ++ 41 ∷ 44 ∷ (codes "ev" ++ (evidence_text v r ++ around (parents_text r) rest))))))
unfolding inference_text applied_rule
rule-text v r rest = simp append_assoc

inference-tail : (n : Named) (v : Vocabulary) → HasWords n v → (r : StepRule) → AreNamedPuts n r → {rest : List ℕ} {behind : List (List ℕ)} → Spells rest behind
    → Tail (inference_text v r ++ rest) (codes "," ∷ codes "inference" ∷ codes "(" ∷ rule_then v r behind)
inference-tail n v h r k {rest} {behind} s =
    let evidence = (evidence-tail n v h r k).tail _ _ (parents-tail r s) in
    let whole = comma (put inference-word (opens (put (rule-word r) (status-tail (status-word r) evidence)))) in
    subst (λ b. Tail b (codes "," ∷ codes "inference" ∷ codes "(" ∷ rule_then v r behind)) (sym (rule-text v r rest)) whole

statement-name : IsWordText (codes "thf")
unfolding is_lower_word is_lower is_word
statement-name = fixed (codes "thf") refl

plain-word : IsWordText (codes "plain")
unfolding is_lower_word is_lower is_word
plain-word = fixed (codes "plain") refl

type-word : IsWordText (codes "type")
unfolding is_lower_word is_lower is_word
type-word = fixed (codes "type") refl

line-text : (v : Vocabulary) (n : ℕ) (l : Line) (rest : List ℕ) → step_text v n l ++ rest
    ≡ codes "thf" ++ 40 ∷ ((108 ∷ decimal n) ++ 44 ∷ (codes "plain" ++ 44 ∷ (clause_text v l.clause ++ (inference_text v l.rule ++ rest))))
unfolding step_text
line-text v n l rest = simp append_assoc

-- the line of that number
step-whole : (n : Named) (v : Vocabulary) → HasWords n v → (i : ℕ) (l : Line) → IsNamedClause n l.clause → AreNamedPuts n l.rule → IsWhole (step_text v i l) (step_then v i l)
step-whole n v h i l k j = record {
  whole = λ rest behind s.
      let body = (clause-cut n v h l.clause k).cut _ _ (inference-tail n v h l.rule j s) in
      let head = put statement-name (opens (put (numbered-lower 108 i lower-l) (comma (put plain-word (comma body))))) in
      subst (λ b. Spells b (step_then v i l behind)) (sym (line-text v i l rest)) head;
}

-- ---- the type statement of a symbol

each-both : (test : ℕ → Bool) (bs cs : List ℕ) → Each test bs → Each test cs → Each test (bs ++ cs)
each-both test [] cs h k = k
each-both test (b ∷ bs) cs h k = (h.0, each-both test bs cs h.1 k)

-- a lower word that goes on
pub goes-on : (text more : List ℕ) → IsWord is_lower text → Each is_word more → IsWord is_lower (text ++ more)
goes-on [] more h k = absurd h
goes-on (b ∷ bs) more h k = (h.0, each-both is_word bs more h.1 k)

type-ending : Each is_word (codes "_type")
unfolding is_word
type-ending = (refl, (refl, (refl, (refl, (refl, tt)))))

typing-text : (v : Vocabulary) (s : ℕ) (a : SimpleType) (rest : List ℕ) → typing_as v s a ++ rest
    ≡ codes "thf" ++ 40 ∷ (statement_word (v.symbol_word s) ++ 44 ∷ (codes "type" ++ 44 ∷ (v.symbol_word s ++ 58 ∷ 32 ∷ (type_text v a ++ 41 ∷ 46 ∷ 10 ∷ rest))))
unfolding typing_as typing_head
typing-text v s a rest = simp append_assoc

typing-whole : (n : Named) (v : Vocabulary) → HasWords n v → (s : ℕ) (a : SimpleType) → IsWord is_lower (v.symbol_word s) → IsNamedType n a
    → IsWhole (typing_as v s a) (typing_then v (statement_word (v.symbol_word s)) (v.symbol_word s) a)
typing-whole n v h s a w k = record {
  whole = λ rest behind t.
      let ty = (type-cut n v h a k).cut _ _ (closes (dot (line-end t))) in
      let named = put (lower (v.symbol_word s) w) (colon ty) in
      let head = put statement-name (opens (put (lower (statement_word (v.symbol_word s)) (goes-on (v.symbol_word s) (codes "_type") w type-ending)) (comma (put type-word (comma named))))) in
      subst (λ b. Spells b (typing_then v (statement_word (v.symbol_word s)) (v.symbol_word s) a behind)) (sym (typing-text v s a rest)) head;
}

-- the symbol that a rule introduces has a lower word, and its type has a name
abbrev pub IsNewName : Named → Vocabulary → StepRule → Type 0
IsNewName n v (abbreviate s) = IsWord is_lower (v.symbol_word s) × IsNamedType n (v.symbol_type s)
IsNewName n v _ = Unit {0}

nothing-whole : IsWhole [] (λ behind. behind)
nothing-whole = record { whole = λ rest behind s. s }

before-whole : (n : Named) (v : Vocabulary) → HasWords n v → (r : StepRule) → IsNewName n v r → IsWhole (before_line v r) (before_then v r)
before-whole n v h (abbreviate s) k = typing-whole n v h s (v.symbol_type s) k.0 k.1
before-whole n v h (assume a) k = nothing-whole
before-whole n v h (convert p) k = nothing-whole
before-whole n v h (inst p sigma) k = nothing-whole
before-whole n v h (para p i s q j r path) k = nothing-whole
before-whole n v h (arrange p) k = nothing-whole
before-whole n v h (drop_literal p i) k = nothing-whole
before-whole n v h (take_apart p i kind a) k = nothing-whole
before-whole n v h (bool_ext p i half) k = nothing-whole
before-whole n v h (func_ext p i a) k = nothing-whole
before-whole n v h (decompose p i) k = nothing-whole
before-whole n v h reflexivity k = nothing-whole
before-whole n v h choose k = nothing-whole
before-whole n v h (factor p i j) k = nothing-whole

pub line-whole : (n : Named) (v : Vocabulary) → HasWords n v → (i : ℕ) (l : Line) → IsNamedClause n l.clause → AreNamedPuts n l.rule → IsNewName n v l.rule → IsWhole (line_text v i l) (line_then v i l)
line-whole n v h i l k j w = record {
  whole = λ rest behind s. subst (λ b. Spells b (line_then v i l behind)) (sym (append_assoc (before_line v l.rule) (step_text v i l) rest))
      ((before-whole n v h l.rule w).whole _ _ ((step-whole n v h i l k j).whole rest behind s));
}
