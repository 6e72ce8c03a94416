-- Derivations are cut into their words.
use Rattle.std.proofs.Common.{ℕ, zero, suc, ◌≡◌, ◌∙◌, ◌+◌, nat_eq, nat_le, ◌&&◌, Bool, true, false, cond, ◌||◌, List, [], ◌∷◌, ◌++◌, map, slice_get, Some, refl, sym, ap, subst, append_assoc, arith}
use Rattle.std.specs.Prelude.{codes, decimal, replicate}
use Rattle.std.specs.List.{list_any, list_all}
use Rattle.std.proofs.lemmas.Bool.{eqb-true, eq-eqb, true≢false}
use Rattle.leo_lex.specs.Bytes.{is_lower, is_word, is_digit}
use Rattle.leo_lex.specs.Forms.{Each, IsWord}
use Rattle.leo_lex.specs.Spells.{Spells, HasTokens}
use Rattle.leo_lex.proofs.Spelling.{has_tokens}
use Rattle.leo_terms.specs.Contents.{Contents, type_at, symbol_type, tree_at}
use Rattle.leo_elab.specs.Problem.{Declared}
use Rattle.leo_elab.specs.Table.{type_entry, constant_entry}
use Rattle.leo_clause.specs.declared.record.StepRecord.{StepRecord}
use Rattle.leo_kernel.specs.Steps.{StepRule, assume, convert, inst, para, arrange, drop_literal, take_apart, bool_ext, func_ext, decompose, reflexivity, choose, factor, abbreviate, Line, line_at}
use Rattle.leo_problem.specs.declared.roles.Role.{Role}
use Rattle.leo_problem.specs.declared.roles.Role.TheVariants as role
use Rattle.leo_problem.specs.declared.loaded.Hyp.{Hyp}
use Rattle.leo_problem.specs.declared.loaded.Problem.{Problem}
use Rattle.leo_problem.specs.Roles.{role_word}
use Rattle.leo_tstp.specs.Vocabulary.{Vocabulary, is_base, base_atom, symbol_atom, base_word_by, word_of, new_prefix, new_name, with_word, with_symbol, with_rule}
use Rattle.leo_tstp.specs.Words.{shown_byte, shown, is_lower_word, are_digits, in_quotes, name_text, file_text}
use Rattle.leo_tstp.specs.TermTexts.{term_text}
use Rattle.leo_tstp.specs.StepTexts.{line_text}
use Rattle.leo_tstp.specs.Derivations.{Given, given_at, source_text, given_head, assumption_text, negated_source, negation_text, hypothesis_by, hypothesis_text, takes, is_used, hypotheses_text, lines_text, words_of, printed}
use Rattle.leo_tstp.specs.Atoms.{is_shown, IsAtom, AreAtoms, AreNamesOfStatements, HasAtoms}
use Rattle.leo_tstp.specs.Nameable.{Named, named_in, is_named_symbol, IsNamedType, IsNamedTerm, IsNamedHypothesis, IsNamedRule, with_introduced, AreNamedLines, IsNameable}
use Rattle.leo_tstp.specs.LineWords.{lines_then}
use Rattle.leo_tstp.specs.DerivationWords.{source_then, given_then, assumption_then, negated_source_then, negation_then, hypothesis_by_then, hypothesis_then, hypotheses_then, derivation_words, printed_words}
use Rattle.leo_tstp.proofs.Cutting.{Tail, no_tail, opens, closes, opens-list, closes-list, comma, dot, line-end, IsWordText, put, lower, lower-word, all-each, dollar-word, numbered-lower, quoted, atom-word, decimal-word}
use Rattle.leo_tstp.proofs.CutTerms.{IsCut, HasWords, term-cut}
use Rattle.leo_tstp.proofs.CutLines.{IsWhole, word-cut, digits-cut, fixed, goes-on, AreNamedPuts, IsNewName, line-whole}

-- ---- what is known of the words before a line

pub record AreWordsOf (p : Problem) (introduced : List ℕ) (v : Vocabulary) : Type 0 where
  pub words : HasWords (named_in p introduced) v
  pub prefix : IsWord is_lower v.prefix
  pub types : (s : ℕ) → v.symbol_type s ≡ type_at p.bank (symbol_type p.bank s)

-- a new name is a word
pub new-word : (prefix : List ℕ) (n : ℕ) → IsWord is_lower prefix → IsWord is_lower (new_name prefix n)
new-word prefix n h = goes-on prefix (decimal n) h (decimal-word n)

pub eqb-turn : (a b : ℕ) → nat_eq a b ≡ false → nat_eq b a ≡ false
eqb-turn a b e = by (nat_eq b a) refl
  where
    by : (t : Bool) → nat_eq b a ≡ t → t ≡ false
    by false f = refl
    by true f = absurd (true≢false (sym (eq-eqb a b (sym (eqb-true b a f))) ∙ e))

same : (s : ℕ) → nat_eq s s ≡ true
same s = eq-eqb s s refl

-- a symbol more
new-symbol : (p : Problem) (introduced : List ℕ) (v : Vocabulary) (s k : ℕ) → AreWordsOf p introduced v → is_named_symbol p (s ∷ introduced) k ≡ true
    → IsWordText (with_word v.symbol_word s (new_name v.prefix v.introduced) k)
new-symbol p introduced v s k h e = by (nat_eq s k) refl
  where
    by : (t : Bool) → nat_eq s k ≡ t → IsWordText (cond t (new_name v.prefix v.introduced) (v.symbol_word k))
    by true f = lower _ (new-word v.prefix v.introduced h.prefix)
    by false f =
        let g : is_named_symbol p introduced k ≡ true = rw (eqb-turn s k f) at e in
        h.words.symbol_word k g

with-new : (p : Problem) (introduced : List ℕ) (v : Vocabulary) (s : ℕ) → AreWordsOf p introduced v → AreWordsOf p (s ∷ introduced) (with_symbol v s)
with-new p introduced v s h = record {
  words = record { base_word = h.words.base_word; symbol_word = λ k e. new-symbol p introduced v s k h e };
  prefix = h.prefix;
  types = h.types;
}

with-line : (p : Problem) (introduced : List ℕ) (v : Vocabulary) (r : StepRule) → AreWordsOf p introduced v → AreWordsOf p (with_introduced introduced r) (with_rule v r)
with-line p introduced v (abbreviate s) h = with-new p introduced v s h
with-line p introduced v (assume a) h = h
with-line p introduced v (convert q) h = h
with-line p introduced v (inst q sigma) h = h
with-line p introduced v (para q i s r j side path) h = h
with-line p introduced v (arrange q) h = h
with-line p introduced v (drop_literal q i) h = h
with-line p introduced v (take_apart q i kind a) h = h
with-line p introduced v (bool_ext q i half) h = h
with-line p introduced v (func_ext q i a) h = h
with-line p introduced v (decompose q i) h = h
with-line p introduced v reflexivity h = h
with-line p introduced v choose h = h
with-line p introduced v (factor q i j) h = h

-- ---- the words of a problem

-- the atom of a base type
base-atom : (c : Contents) (b : ℕ) (ps : List (List ℕ × ℕ)) → AreAtoms ps → list_any (λ e. is_base b (type_at c e.1)) ps ≡ true → IsWordText (word_of (base_atom b (map (type_entry c) ps)))
base-atom c b [] h e = absurd (cc)
base-atom c b (q ∷ ps) h e = by (is_base b (type_at c q.1)) e (base-atom c b ps h.1)
  where
    others : Bool
    others = list_any (λ e. is_base b (type_at c e.1)) ps

    by : (t : Bool) → (t || others) ≡ true → (others ≡ true → IsWordText (word_of (base_atom b (map (type_entry c) ps)))) → IsWordText (word_of (cond t (Some q.0) (base_atom b (map (type_entry c) ps))))
    by true f more = atom-word q.0 h.0
    by false f more = more f

symbol-atom : (c : Contents) (s : ℕ) (ps : List (List ℕ × ℕ)) → AreAtoms ps → list_any (λ e. nat_eq e.1 s) ps ≡ true → IsWordText (word_of (symbol_atom s (map (constant_entry c) ps)))
symbol-atom c s [] h e = absurd (cc)
symbol-atom c s (q ∷ ps) h e = by (nat_eq q.1 s) e (symbol-atom c s ps h.1)
  where
    others : Bool
    others = list_any (λ e. nat_eq e.1 s) ps

    by : (t : Bool) → (t || others) ≡ true → (others ≡ true → IsWordText (word_of (symbol_atom s (map (constant_entry c) ps)))) → IsWordText (word_of (cond t (Some q.0) (symbol_atom s (map (constant_entry c) ps))))
    by true f more = atom-word q.0 h.0
    by false f more = more f

truth-type : IsWordText (codes "$o")
unfolding is_lower
truth-type = dollar-word (codes "o") (refl, tt)

thing-type : IsWordText (codes "$i")
unfolding is_lower
thing-type = dollar-word (codes "i") (refl, tt)

base-by : (others : ℕ → List ℕ) (b : ℕ) (r : Bool) → (r ≡ true → IsWordText (others b)) → (nat_eq b 0 || (nat_eq b 1 || r)) ≡ true → IsWordText (base_word_by others b)
base-by others b r h e = by (nat_eq b 0) (nat_eq b 1) e
  where
    by : (s t : Bool) → (s || (t || r)) ≡ true → IsWordText (cond s (codes "$o") (cond t (codes "$i") (others b)))
    by true t f = truth-type
    by false true f = thing-type
    by false false f = h f

marks-word : (k : ℕ) → Each is_word (replicate k 95)
unfolding is_word
marks-word zero = tt
marks-word (suc k) = (refl, marks-word k)

leo-word : IsWord is_lower (codes "leo_")
unfolding is_lower is_word
leo-word = (refl, (refl, (refl, (refl, tt))))

pub prefix-word : (d : Declared) → IsWord is_lower (new_prefix d)
prefix-word d = goes-on (codes "leo_") _ leo-word (marks-word _)

pub words-of : (p : Problem) → HasAtoms p → AreWordsOf p [] (words_of p)
words-of p h = record {
  words = record {
    base_word = λ b e. base-by (λ k. word_of (base_atom k (map (type_entry p.bank) p.names.types))) b (list_any (λ e. is_base b (type_at p.bank e.1)) p.names.types) (λ f. base-atom p.bank b p.names.types h.types f) e;
    symbol_word = λ s e. symbol-atom p.bank s p.names.constants h.constants e;
  };
  prefix = prefix-word _;
  types = λ s. refl;
}

-- ---- lines

named-puts : (p : Problem) (n : Named) (r : StepRule) → IsNamedRule p n r → AreNamedPuts n r
named-puts p n (inst q sigma) k = k
named-puts p n (abbreviate s) k = tt
named-puts p n (assume a) k = tt
named-puts p n (convert q) k = tt
named-puts p n (para q i s r j side path) k = tt
named-puts p n (arrange q) k = tt
named-puts p n (drop_literal q i) k = tt
named-puts p n (take_apart q i kind a) k = tt
named-puts p n (bool_ext q i half) k = tt
named-puts p n (func_ext q i a) k = tt
named-puts p n (decompose q i) k = tt
named-puts p n reflexivity k = tt
named-puts p n choose k = tt
named-puts p n (factor q i j) k = tt

-- the name that a line gives
own-name : (v : Vocabulary) (s : ℕ) → IsWord is_lower v.prefix → IsWord is_lower ((with_symbol v s).symbol_word s)
own-name v s h = subst (λ b. IsWord is_lower (cond b (new_name v.prefix v.introduced) (v.symbol_word s))) (sym (same s)) (new-word v.prefix v.introduced h)

new-name : (p : Problem) (introduced : List ℕ) (v : Vocabulary) (n : Named) (r : StepRule) → AreWordsOf p introduced v → IsNamedRule p n r → IsNewName n (with_rule v r) r
new-name p introduced v n (abbreviate s) h k = (own-name v s h.prefix, subst (IsNamedType n) (sym (h.types s)) k)
new-name p introduced v n (inst q sigma) h k = tt
new-name p introduced v n (assume a) h k = tt
new-name p introduced v n (convert q) h k = tt
new-name p introduced v n (para q i s r j side path) h k = tt
new-name p introduced v n (arrange q) h k = tt
new-name p introduced v n (drop_literal q i) h k = tt
new-name p introduced v n (take_apart q i kind a) h k = tt
new-name p introduced v n (bool_ext q i half) h k = tt
new-name p introduced v n (func_ext q i a) h k = tt
new-name p introduced v n (decompose q i) h k = tt
new-name p introduced v n reflexivity h k = tt
new-name p introduced v n choose h k = tt
new-name p introduced v n (factor q i j) h k = tt

lines-whole : (p : Problem) (introduced : List ℕ) (v : Vocabulary) (i : ℕ) (ls : List Line) → AreWordsOf p introduced v → AreNamedLines p introduced ls → IsWhole (lines_text v i ls) (lines_then v i ls)
lines-whole p introduced v i [] h k = record { whole = λ rest behind s. s }
lines-whole p introduced v i (l ∷ ls) h k = record {
  whole = λ rest behind s.
      let w : Vocabulary = with_rule v l.rule in
      let all : AreWordsOf p (with_introduced introduced l.rule) w = with-line p introduced v l.rule h in
      let more = (lines-whole p (with_introduced introduced l.rule) w (i + 1) ls all k.1).whole rest behind s in
      let first = line-whole (named_in p (with_introduced introduced l.rule)) w all.words i l k.0.0 (named-puts p _ l.rule k.0.1) (new-name p introduced v _ l.rule h k.0.1) in
      subst (λ b. Spells b (lines_then v i (l ∷ ls) behind)) (sym (append_assoc (line_text w i l) (lines_text w (i + 1) ls) rest)) (first.whole _ _ more);
}

-- ---- hypotheses

-- the name of a statement
name-cut : (name : List ℕ) → IsAtom name → IsCut (name_text name) (λ behind. name_text name ∷ behind)
unfolding name_text are_digits
name-cut [] h = absurd h
name-cut (b ∷ bs) h = by (is_lower_word (b ∷ bs)) (list_all is_digit (b ∷ bs)) refl refl
  where
    by : (s t : Bool) → is_lower_word (b ∷ bs) ≡ s → list_all is_digit (b ∷ bs) ≡ t → IsCut (cond (s || t) (b ∷ bs) (in_quotes (b ∷ bs))) (λ behind. cond (s || t) (b ∷ bs) (in_quotes (b ∷ bs)) ∷ behind)
    by true t e f = word-cut (lower (b ∷ bs) (lower-word (b ∷ bs) e))
    by false true e f = digits-cut (all-each is_digit (b ∷ bs) f)
    by false false e f = word-cut (quoted (b ∷ bs) h)

shown-one : (b : ℕ) → is_shown (shown_byte b) ≡ true
shown-one b = by (nat_le 32 b && nat_le b 126) refl
  where
    by : (t : Bool) → (nat_le 32 b && nat_le b 126) ≡ t → is_shown (cond t b 63) ≡ true
    by true e = e
    by false e = refl

shown-each : (bs : List ℕ) → Each is_shown (shown bs)
shown-each [] = tt
shown-each (b ∷ bs) = (shown-one b, shown-each bs)

unknown-file : IsWordText (codes "'?'")
unfolding in_quotes
unknown-file = quoted (codes "?") (refl, tt)

file-word : (file : List ℕ) → IsWordText (file_text file)
unfolding file_text
file-word [] = unknown-file
file-word (b ∷ bs) = quoted (shown (b ∷ bs)) (shown-each (b ∷ bs))

lower-h : is_lower 104 ≡ true
unfolding is_lower
lower-h = refl

file-name : IsWordText (codes "file")
unfolding is_lower_word is_lower is_word
file-name = fixed (codes "file") refl

statement-name : IsWordText (codes "thf")
unfolding is_lower_word is_lower is_word
statement-name = fixed (codes "thf") refl

inference-name : IsWordText (codes "inference")
unfolding is_lower_word is_lower is_word
inference-name = fixed (codes "inference") refl

negate-name : IsWordText (codes "negate")
unfolding is_lower_word is_lower is_word
negate-name = fixed (codes "negate") refl

status-name : IsWordText (codes "status")
unfolding is_lower_word is_lower is_word
status-name = fixed (codes "status") refl

counter-name : IsWordText (codes "cth")
unfolding is_lower_word is_lower is_word
counter-name = fixed (codes "cth") refl

negated-name : IsWordText (codes "negated_conjecture")
unfolding is_lower_word is_lower is_word
negated-name = fixed (codes "negated_conjecture") refl

role-name : (r : Role) → IsWordText (role_word r)
unfolding is_lower_word is_lower is_word
role-name role.Axiom = fixed (codes "axiom") refl
role-name role.Hypothesis = fixed (codes "hypothesis") refl
role-name role.Definition = fixed (codes "definition") refl
role-name role.Assumption = fixed (codes "assumption") refl
role-name role.Lemma = fixed (codes "lemma") refl
role-name role.Theorem = fixed (codes "theorem") refl
role-name role.Corollary = fixed (codes "corollary") refl
role-name role.NegatedConjecture = fixed (codes "negated_conjecture") refl
role-name role.Conjecture = fixed (codes "conjecture") refl

source-text : (file name rest : List ℕ) → source_text file name ++ rest ≡ codes "file" ++ 40 ∷ (file_text file ++ 44 ∷ (name_text name ++ 41 ∷ rest))
unfolding source_text
source-text file name rest = simp append_assoc

source-whole : (file name : List ℕ) → IsAtom name → IsWhole (source_text file name) (source_then file name)
source-whole file name h = record {
  whole = λ rest behind s.
      let words = put file-name (opens (put (file-word file) (comma ((name-cut name h).cut _ _ (closes s))))) in
      subst (λ b. Spells b (source_then file name behind)) (sym (source-text file name rest)) words;
}

given-text : (n : ℕ) (role rest : List ℕ) → given_head n role ++ rest ≡ codes "thf" ++ 40 ∷ ((104 ∷ decimal n) ++ 44 ∷ (role ++ 44 ∷ rest))
unfolding given_head
given-text n role rest = simp append_assoc

given-whole : (n : ℕ) (role : List ℕ) → IsWordText role → IsWhole (given_head n role) (given_then n role)
given-whole n role h = record {
  whole = λ rest behind s.
      let words = put statement-name (opens (put (numbered-lower 104 n lower-h) (comma (put h (comma s))))) in
      subst (λ b. Spells b (given_then n role behind)) (sym (given-text n role rest)) words;
}

assumption-text : (v : Vocabulary) (n : ℕ) (h : Given) (rest : List ℕ) → assumption_text v n h ++ rest
    ≡ given_head n (role_word h.role) ++ (term_text v h.formula ++ 44 ∷ (source_text h.file h.name ++ 41 ∷ 46 ∷ 10 ∷ rest))
unfolding assumption_text
assumption-text v n h rest = simp append_assoc

assumption-whole : (m : Named) (v : Vocabulary) → HasWords m v → (n : ℕ) (h : Given) → IsNamedTerm m h.formula → IsAtom h.name → IsWhole (assumption_text v n h) (assumption_then v n h)
assumption-whole m v w n h k a = record {
  whole = λ rest behind s.
      let source = (source-whole h.file h.name a).whole _ _ (closes (dot (line-end s))).spells in
      let formula = (term-cut m v w h.formula k).cut _ _ (comma source) in
      subst (λ b. Spells b (assumption_then v n h behind)) (sym (assumption-text v n h rest)) ((given-whole n (role_word h.role) (role-name h.role)).whole _ _ formula);
}

negated-text : (file name rest : List ℕ) → negated_source file name ++ rest
    ≡ 44 ∷ (codes "inference" ++ 40 ∷ (codes "negate" ++ 44 ∷ 91 ∷ (codes "status" ++ 40 ∷ (codes "cth" ++ 41 ∷ 93 ∷ 44 ∷ 91 ∷ (source_text file name ++ 93 ∷ 41 ∷ 41 ∷ 46 ∷ 10 ∷ rest)))))
unfolding negated_source
negated-text file name rest = simp append_assoc

negated-tail : (file name rest : List ℕ) (behind : List (List ℕ)) → IsAtom name → Spells rest behind → Tail (negated_source file name ++ rest) (negated_source_then file name behind)
negated-tail file name rest behind a s =
    let end = closes-list (closes (closes (dot (line-end s))).spells).spells in
    let source = (source-whole file name a).whole _ _ end.spells in
    let status = put status-name (opens (put counter-name (closes (closes-list (comma (opens-list source).spells).spells).spells))) in
    let whole = comma (put inference-name (opens (put negate-name (comma (opens-list status).spells)))) in
    subst (λ b. Tail b (negated_source_then file name behind)) (sym (negated-text file name rest)) whole

negation-text : (v : Vocabulary) (n : ℕ) (h : Given) (rest : List ℕ) → negation_text v n h ++ rest
    ≡ given_head n (codes "negated_conjecture") ++ (term_text v h.formula ++ (negated_source h.file h.name ++ rest))
unfolding negation_text
negation-text v n h rest = simp append_assoc

negation-whole : (m : Named) (v : Vocabulary) → HasWords m v → (n : ℕ) (h : Given) → IsNamedTerm m h.formula → IsAtom h.name → IsWhole (negation_text v n h) (negation_then v n h)
negation-whole m v w n h k a = record {
  whole = λ rest behind s.
      let formula = (term-cut m v w h.formula k).cut _ _ (negated-tail h.file h.name rest behind a s) in
      subst (λ b. Spells b (negation_then v n h behind)) (sym (negation-text v n h rest)) ((given-whole n (codes "negated_conjecture") negated-name).whole _ _ formula);
}

hypothesis-by : (r : Role) (m : Named) (v : Vocabulary) → HasWords m v → (n : ℕ) (h : Given) → IsNamedTerm m h.formula → IsAtom h.name → IsWhole (hypothesis_by r v n h) (hypothesis_by_then r v n h)
hypothesis-by role.Conjecture m v w n h k a = negation-whole m v w n h k a
hypothesis-by role.Axiom m v w n h k a = assumption-whole m v w n h k a
hypothesis-by role.Hypothesis m v w n h k a = assumption-whole m v w n h k a
hypothesis-by role.Definition m v w n h k a = assumption-whole m v w n h k a
hypothesis-by role.Assumption m v w n h k a = assumption-whole m v w n h k a
hypothesis-by role.Lemma m v w n h k a = assumption-whole m v w n h k a
hypothesis-by role.Theorem m v w n h k a = assumption-whole m v w n h k a
hypothesis-by role.Corollary m v w n h k a = assumption-whole m v w n h k a
hypothesis-by role.NegatedConjecture m v w n h k a = assumption-whole m v w n h k a

-- the hypotheses from a number on that lines take have names
abbrev AreNamedFrom : Problem → List Line → ℕ → List Hyp → Type 0
AreNamedFrom p lines n hs = (k : ℕ) (h : Hyp) → slice_get hs k ≡ Some h → is_used lines (n + k) ≡ true → IsNamedTerm (named_in p []) (tree_at p.bank h.term)

hypotheses-whole : (p : Problem) (v : Vocabulary) → HasWords (named_in p []) v → (lines : List Line) (n : ℕ) (hs : List Hyp) → AreNamedFrom p lines n hs → AreNamesOfStatements hs
    → IsWhole (hypotheses_text v lines n (map (given_at p.bank) hs)) (hypotheses_then v lines n (map (given_at p.bank) hs))
hypotheses-whole p v w lines n [] k a = record { whole = λ rest behind s. s }
hypotheses-whole p v w lines n (h ∷ hs) k a = by (is_used lines n) refl (hypotheses-whole p v w lines (n + 1) hs later a.1)
  where
    given : Given
    given = given_at p.bank h

    later : AreNamedFrom p lines (n + 1) hs
    later j g e f =
        let place : n + 1 + j ≡ n + suc j = omega arith in
        k (suc j) g e (subst (λ i. is_used lines i ≡ true) place f)

    by : (t : Bool) → is_used lines n ≡ t → IsWhole (hypotheses_text v lines (n + 1) (map (given_at p.bank) hs)) (hypotheses_then v lines (n + 1) (map (given_at p.bank) hs))
        → IsWhole (cond t (hypothesis_text v n given) [] ++ hypotheses_text v lines (n + 1) (map (given_at p.bank) hs))
        (λ behind. cond t (hypothesis_then v n given (hypotheses_then v lines (n + 1) (map (given_at p.bank) hs) behind)) (hypotheses_then v lines (n + 1) (map (given_at p.bank) hs) behind))
    by false e more = more
    by true e more = record {
      whole = λ rest behind s.
          let here : n + 0 ≡ n = omega arith in
          let named = k 0 h refl (subst (λ i. is_used lines i ≡ true) (sym here) e) in
          subst (λ b. Spells b (hypothesis_then v n given (hypotheses_then v lines (n + 1) (map (given_at p.bank) hs) behind)))
          (sym (append_assoc (hypothesis_text v n given) (hypotheses_text v lines (n + 1) (map (given_at p.bank) hs)) rest))
          ((hypothesis-by h.role (named_in p []) v w n given named a.0).whole _ _ (more.whole rest behind s));
    }

-- ---- which hypotheses lines take

takes-named : (p : Problem) (n : Named) (r : StepRule) (k : ℕ) → IsNamedRule p n r → takes k r ≡ true → IsNamedHypothesis p k
takes-named p n (assume h) k i e = subst (IsNamedHypothesis p) (sym (eqb-true k h e)) i
takes-named p n (abbreviate s) k i e = absurd (cc)
takes-named p n (convert q) k i e = absurd (cc)
takes-named p n (inst q sigma) k i e = absurd (cc)
takes-named p n (para q i s r j side path) k m e = absurd (cc)
takes-named p n (arrange q) k i e = absurd (cc)
takes-named p n (drop_literal q i) k m e = absurd (cc)
takes-named p n (take_apart q i kind a) k m e = absurd (cc)
takes-named p n (bool_ext q i half) k m e = absurd (cc)
takes-named p n (func_ext q i a) k m e = absurd (cc)
takes-named p n (decompose q i) k m e = absurd (cc)
takes-named p n reflexivity k i e = absurd (cc)
takes-named p n choose k i e = absurd (cc)
takes-named p n (factor q i j) k m e = absurd (cc)

used-named : (p : Problem) (introduced : List ℕ) (ls : List Line) (k : ℕ) → AreNamedLines p introduced ls → is_used ls k ≡ true → IsNamedHypothesis p k
used-named p introduced [] k h e = absurd (cc)
used-named p introduced (l ∷ ls) k h e = by (takes k l.rule) refl e (used-named p (with_introduced introduced l.rule) ls k h.1)
  where
    by : (t : Bool) → takes k l.rule ≡ t → (t || is_used ls k) ≡ true → (is_used ls k ≡ true → IsNamedHypothesis p k) → IsNamedHypothesis p k
    by true f g more = takes-named p _ l.rule k h.0.1 f
    by false f g more = more g

given-named : (p : Problem) (lines : List Line) → AreNamedLines p [] lines → AreNamedFrom p lines 0 p.hyps
given-named p lines h k g e f =
    let place : 0 + k ≡ k = omega arith in
    let i = used-named p [] lines k h (subst (λ j. is_used lines j ≡ true) place f) in
    let same-one : i.hypothesis ≡ g = cc in
    subst (λ (y : Hyp). IsNamedTerm (named_in p []) (tree_at p.bank y.term)) same-one i.named

-- ---- the whole

append-nothing : (text : List ℕ) → text ++ [] ≡ text
append-nothing [] = refl
append-nothing (b ∷ bs) = ap (λ cs. b ∷ cs) (append-nothing bs)

derivation-cut : (p : Problem) (steps : List StepRecord) → HasAtoms p → IsNameable p steps → Spells (printed p steps) (printed_words p steps)
unfolding printed printed_words
derivation-cut p steps h k =
    let v : Vocabulary = words_of p in
    let lines : List Line = map (line_at p.bank) steps in
    let all = words-of p h in
    let more = (lines-whole p [] v 0 lines all k.lines).whole [] [] no_tail.spells in
    let whole = (hypotheses-whole p v all.words lines 0 p.hyps (given-named p lines k.lines) h.statements).whole _ _ more in
    subst (λ b. Spells (hypotheses_text v lines 0 (map (given_at p.bank) p.hyps) ++ b) (derivation_words v (map (given_at p.bank) p.hyps) lines)) (append-nothing (lines_text v 0 lines)) whole

pub printed-tokens : (p : Problem) (steps : List StepRecord) → HasAtoms p → IsNameable p steps → HasTokens (printed p steps) (printed_words p steps)
printed-tokens p steps h k = has_tokens (printed p steps) (printed_words p steps) (derivation-cut p steps h k)
