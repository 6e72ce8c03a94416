-- A problem is refused where a part of it is.
use Rattle.std.proofs.Common.{ℕ, ◌≡◌, ◌<◌, ◌≤◌, ◌+◌, ◌-◌, suc, zero, Bool, true, false, List, [], ◌∷◌, ◌++◌, length, refl, sym, ap, ◌∙◌, subst, arith, append_assoc, length-append}
use Rattle.std.specs.Prelude.{decimal, nat_lt, Result, Ok, Err, IfErr}
use Rattle.std.specs.List.{AllByRecursion, flat_map}
use Rattle.std.proofs.lemmas.List.{append-nil}
use Rattle.fo_text.specs.declared.refusal.Stop.{Stop}
use Rattle.fo_text.specs.declared.problem.FoSym.{FoSym}
use Rattle.fo_text.specs.declared.problem.FoClause.{FoClause}
use Rattle.fo_text.specs.declared.problem.FoProblem.{FoProblem}
use Rattle.fo_text.specs.Words.{most_number, newline}
use Rattle.fo_text.specs.Refusals.{Spells, Opens, Refuses, IsFirstBad}
use Rattle.fo_text.specs.Problems.{IsSymbol, IsClause, AreSyms, AreClauses, IsProblem}
use Rattle.fo_text.specs.Spellings.{field_text, symbol_text, clause_text, syms_word, clauses_word, turns_word, weight_word, sorts_word, end_word, syms_text, clauses_text, problem_text}
use Rattle.fo_text.specs.Pieces.{IsBetween, IsKeyword, keyword_text, AreMany}
use Rattle.fo_text.specs.Clauses.{most_if}
use Rattle.fo_text.specs.Texts.{IsProblemText}
use Rattle.fo_text.proofs.Lists.{append-cancel}
use Rattle.fo_text.proofs.Digits.{decimal-same}
use Rattle.fo_text.proofs.Composing.{IsCode, Begins, begins-first, begins-then, begins-code, refuses-then, refuses-iff, many-code, repeated, length-repeated, All-repeated, Stops-wider}
use Rattle.fo_text.proofs.SymbolLines.{symbol-code}
use Rattle.fo_text.proofs.ClauseReading.{clause-code, is_below, not_below}

pub if_err_apply : {T : Type 0} (P : Stop → Type 0) (A : Type 0) (r : Result T Stop) → A → IfErr r (λ e. A → P e) → IfErr r P
if_err_apply P A (Ok x) a h = h
if_err_apply P A (Err e) a h = h a

code-weaker : {X : Type 0} (P Q : X → Type 0) (tx : X → List ℕ) → IsCode Q tx → ((x : X) → P x → Q x) → IsCode P tx
code-weaker P Q tx c h = record { same = λ x y p q i j e. c.same x y p q (h x i) (h y j) e }

field_parts : (word : List ℕ) (n : ℕ) (p : List ℕ) → field_text word n ++ p ≡ word ++ (decimal n ++ newline ∷ p)
field_parts word n p = append_assoc word (decimal n ++ newline ∷ []) p ∙ ap (λ u. word ++ u) (append_assoc (decimal n) (newline ∷ []) p)

pub field-code : (word : List ℕ) (least most : ℕ) → most ≤ most_number → IsCode (IsBetween least most) (field_text word)
field-code word least most f = record { same = λ x y p q i j e. field_same word least most f x y p q i j e }
  where
    newline_same : (p q : List ℕ) → newline ∷ p ≡ newline ∷ q → p ≡ q
    newline_same p q e = cc

    field_same : (word : List ℕ) (least most : ℕ) → most ≤ most_number → (x y : ℕ) (p q : List ℕ) → IsBetween least most x → IsBetween least most y → field_text word x ++ p ≡ field_text word y ++ q → (x ≡ y) × (p ≡ q)
    field_same word least most f x y p q i j e =
        let one = i.1 in
        let two = j.1 in
        let s = decimal-same x y newline p q newline (omega arith) (omega arith) (omega arith) (omega arith) (append-cancel word (decimal x ++ newline ∷ p) (decimal y ++ newline ∷ q) (sym (field_parts word x p) ∙ e ∙ field_parts word y q)) in
        (s.0, newline_same p q s.1)

-- the symbols with their count
no_symbols : (ys : List FoSym) → AllByRecursion (IsSymbol 0) ys → length ys ≡ 0
no_symbols [] h = refl
no_symbols (y ∷ ys) h = absurd (let i = h.0 in let l : y.result < 0 = i.result in omega arith)

syms_below : (sorts : ℕ) (some : Bool) (ys : List FoSym) → (some ≡ false → sorts ≡ 0) → AreSyms sorts ys → length ys ≤ most_if some
syms_below sorts true ys f h = h.count
syms_below sorts false ys f h = let z = no_symbols ys (subst (λ u. AllByRecursion (IsSymbol u) ys) (f refl) h.each) in omega arith

abbrev constant_symbol : FoSym
constant_symbol = record { result = 0; args = [] }

some_syms : (sorts : ℕ) (some : Bool) (n : ℕ) → (some ≡ true → 0 < sorts) → n ≤ most_if some → (ys : List FoSym) × AreSyms sorts ys × (length ys ≡ n)
some_syms sorts true n t l =
    let e : length (repeated n constant_symbol) ≡ n = length-repeated n constant_symbol in
    (repeated n constant_symbol, record { count = omega arith; each = All-repeated (IsSymbol sorts) n constant_symbol (record { result = t refl; args = tt }) }, e)
some_syms sorts false zero t l = ([], record { count = omega arith; each = tt }, refl)
some_syms sorts false (suc n) t l = absurd (omega arith)

syms-begins : (sorts : ℕ) → Begins (AreSyms sorts) syms_text (flat_map symbol_text) (λ ys. length ys) (IsBetween 0 (most_if (nat_lt 0 sorts))) (field_text syms_word)
syms-begins sorts = record {
  part = λ ys h. (omega arith, syms_below sorts (nat_lt 0 sorts) ys (not_below sorts) h);
  text = λ ys. refl;
  some = λ n h. some_syms sorts (nat_lt 0 sorts) n (is_below sorts) h.1;
}

most_within : (some : Bool) → most_if some ≤ most_number
most_within true = omega arith
most_within false = omega arith

pub syms-count-stop : (sorts most : ℕ) (input : List ℕ) (left : ℕ) → most ≡ most_if (nat_lt 0 sorts)
    → Refuses (Spells (IsBetween 0 most) (field_text syms_word)) (Opens (IsBetween 0 most) (field_text syms_word)) input left → Refuses (Spells (AreSyms sorts) syms_text) (Opens (AreSyms sorts) syms_text) input left
syms-count-stop sorts most input left e r =
    begins-first (AreSyms sorts) syms_text (flat_map symbol_text) (λ ys. length ys) (IsBetween 0 (most_if (nat_lt 0 sorts))) (field_text syms_word) (syms-begins sorts) input left
    (subst (λ m. Refuses (Spells (IsBetween 0 m) (field_text syms_word)) (Opens (IsBetween 0 m) (field_text syms_word)) input left) e r)

pub syms-list-stop : (sorts most count : ℕ) (whole input : List ℕ) (left : ℕ) → most ≡ most_if (nat_lt 0 sorts) → count ≤ most → whole ≡ field_text syms_word count ++ input
    → Refuses (Spells (AreMany (IsSymbol sorts) count) (flat_map symbol_text)) (Opens (AreMany (IsSymbol sorts) count) (flat_map symbol_text)) input left → Refuses (Spells (AreSyms sorts) syms_text) (Opens (AreSyms sorts) syms_text) whole left
syms-list-stop sorts most count whole input left e l w r =
    let below : count ≤ most_if (nat_lt 0 sorts) = subst (λ u. count ≤ u) e l in
    let few = most_within (nat_lt 0 sorts) in
    begins-then (AreSyms sorts) syms_text (flat_map symbol_text) (λ ys. length ys) (IsBetween 0 (most_if (nat_lt 0 sorts))) (field_text syms_word) (syms-begins sorts) (field-code syms_word 0 (most_if (nat_lt 0 sorts)) few) count (omega arith, below) whole input left w
    (refuses-iff (AreMany (IsSymbol sorts) count) (λ ys. AreSyms sorts ys × (length ys ≡ count)) (flat_map symbol_text) input left (λ ys i. (record { count = (let n = i.0 in omega arith); each = i.1 }, i.0)) (λ ys i. (i.1, i.0.each)) r)

pub syms-code : (sorts : ℕ) → sorts ≤ most_number → IsCode (AreSyms sorts) syms_text
syms-code sorts f =
    begins-code (AreSyms sorts) syms_text (flat_map symbol_text) (λ ys. length ys) (IsBetween 0 (most_if (nat_lt 0 sorts))) (field_text syms_word) (syms-begins sorts) (field-code syms_word 0 (most_if (nat_lt 0 sorts)) (most_within (nat_lt 0 sorts)))
    (λ n h. code-weaker (λ ys. AreSyms sorts ys × (length ys ≡ n)) (AreMany (IsSymbol sorts) n) (flat_map symbol_text) (many-code (IsSymbol sorts) symbol_text (symbol-code sorts f) n) (λ ys i. (i.1, i.0.each)))

-- the clauses with their count
abbrev empty_clause : FoClause
empty_clause = record { vars = []; lits = [] }

empty_is : (sorts : ℕ) (syms : List FoSym) → IsClause sorts syms empty_clause
empty_is sorts syms = record { vars_count = omega arith; vars = tt; lits_count = omega arith; lits = tt }

some_clauses : (sorts : ℕ) (syms : List FoSym) (n : ℕ) → n ≤ most_number → (cs : List FoClause) × AreClauses sorts syms cs × (length cs ≡ n)
some_clauses sorts syms n l =
    let e : length (repeated n empty_clause) ≡ n = length-repeated n empty_clause in
    (repeated n empty_clause, record { count = omega arith; each = All-repeated (IsClause sorts syms) n empty_clause (empty_is sorts syms) }, e)

clauses-begins : (sorts : ℕ) (syms : List FoSym) → Begins (AreClauses sorts syms) clauses_text (flat_map clause_text) (λ cs. length cs) (IsBetween 0 most_number) (field_text clauses_word)
clauses-begins sorts syms = record {
  part = λ cs h. (omega arith, h.count);
  text = λ cs. refl;
  some = λ n h. some_clauses sorts syms n h.1;
}

pub clauses-count-stop : (sorts : ℕ) (syms : List FoSym) (input : List ℕ) (left : ℕ)
    → Refuses (Spells (IsBetween 0 most_number) (field_text clauses_word)) (Opens (IsBetween 0 most_number) (field_text clauses_word)) input left → Refuses (Spells (AreClauses sorts syms) clauses_text) (Opens (AreClauses sorts syms) clauses_text) input left
clauses-count-stop sorts syms input left r =
    begins-first (AreClauses sorts syms) clauses_text (flat_map clause_text) (λ cs. length cs) (IsBetween 0 most_number) (field_text clauses_word) (clauses-begins sorts syms) input left r

pub clauses-list-stop : (sorts : ℕ) (syms : List FoSym) (count : ℕ) (whole input : List ℕ) (left : ℕ) → count ≤ most_number → whole ≡ field_text clauses_word count ++ input
    → Refuses (Spells (AreMany (IsClause sorts syms) count) (flat_map clause_text)) (Opens (AreMany (IsClause sorts syms) count) (flat_map clause_text)) input left → Refuses (Spells (AreClauses sorts syms) clauses_text) (Opens (AreClauses sorts syms) clauses_text) whole left
clauses-list-stop sorts syms count whole input left l w r =
    begins-then (AreClauses sorts syms) clauses_text (flat_map clause_text) (λ cs. length cs) (IsBetween 0 most_number) (field_text clauses_word) (clauses-begins sorts syms) (field-code clauses_word 0 most_number (omega arith)) count (omega arith, l) whole input left w
    (refuses-iff (AreMany (IsClause sorts syms) count) (λ cs. AreClauses sorts syms cs × (length cs ≡ count)) (flat_map clause_text) input left (λ cs i. (record { count = (let n = i.0 in omega arith); each = i.1 }, i.0)) (λ cs i. (i.1, i.0.each)) r)

pub clauses-code : (sorts : ℕ) (syms : List FoSym) → sorts ≤ most_number → length syms ≤ most_number → IsCode (AreClauses sorts syms) clauses_text
clauses-code sorts syms f g =
    begins-code (AreClauses sorts syms) clauses_text (flat_map clause_text) (λ cs. length cs) (IsBetween 0 most_number) (field_text clauses_word) (clauses-begins sorts syms) (field-code clauses_word 0 most_number (omega arith))
    (λ n h. code-weaker (λ cs. AreClauses sorts syms cs × (length cs ≡ n)) (AreMany (IsClause sorts syms) n) (flat_map clause_text) (many-code (IsClause sorts syms) clause_text (clause-code sorts syms f (omega arith)) n) (λ cs i. (i.1, i.0.each)))

-- what is left of a problem's text behind its first parts
abbrev text_1 : FoProblem → List ℕ
text_1 p = field_text weight_word p.weight ++ (field_text sorts_word p.sorts ++ (syms_text p.syms ++ (clauses_text p.clauses ++ end_word)))

abbrev text_2 : FoProblem → List ℕ
text_2 p = field_text sorts_word p.sorts ++ (syms_text p.syms ++ (clauses_text p.clauses ++ end_word))

abbrev text_3 : FoProblem → List ℕ
text_3 p = syms_text p.syms ++ (clauses_text p.clauses ++ end_word)

abbrev text_4 : FoProblem → List ℕ
text_4 p = clauses_text p.clauses ++ end_word

abbrev text_5 : FoProblem → List ℕ
text_5 p = end_word

-- and the problems with those parts
abbrev With_1 : ℕ → FoProblem → Type 0
With_1 t p = IsProblem p × (p.turns ≡ t)

abbrev With_2 : ℕ → ℕ → FoProblem → Type 0
With_2 t w p = With_1 t p × (p.weight ≡ w)

abbrev With_3 : ℕ → ℕ → ℕ → FoProblem → Type 0
With_3 t w s p = With_2 t w p × (p.sorts ≡ s)

abbrev With_4 : ℕ → ℕ → ℕ → List FoSym → FoProblem → Type 0
With_4 t w s ys p = With_3 t w s p × (p.syms ≡ ys)

abbrev With_5 : ℕ → ℕ → ℕ → List FoSym → List FoClause → FoProblem → Type 0
With_5 t w s ys cs p = With_4 t w s ys p × (p.clauses ≡ cs)

abbrev made : ℕ → ℕ → ℕ → List FoSym → List FoClause → FoProblem
made t w s ys cs = record { turns = t; weight = w; sorts = s; syms = ys; clauses = cs }

pub problem_of : (t w s : ℕ) (ys : List FoSym) (cs : List FoClause) → IsBetween 1 most_number t → IsBetween 1 most_number w → s ≤ most_number → AreSyms s ys → AreClauses s ys cs → IsProblem (record { turns = t; weight = w; sorts = s; syms = ys; clauses = cs })
problem_of t w s ys cs ht hw hs hy hc = record { turns = ht; weight = hw; sorts = hs; syms_count = hy.count; syms = hy.each; clauses_count = hc.count; clauses = hc.each }

no_syms : (s : ℕ) → AreSyms s []
no_syms s = record { count = omega arith; each = tt }

no_clauses : (s : ℕ) (ys : List FoSym) → AreClauses s ys []
no_clauses s ys = record { count = omega arith; each = tt }

one_is : IsBetween 1 most_number 1
one_is = (omega arith, omega arith)

begins_0 : Begins IsProblem problem_text text_1 (λ p. p.turns) (IsBetween 1 most_number) (field_text turns_word)
begins_0 = record { part = λ p h. h.turns; text = λ p. refl; some = λ t h. (made t 1 0 [] [], problem_of t 1 0 [] [] h one_is (omega arith) (no_syms 0) (no_clauses 0 []), refl) }

begins_1 : (t : ℕ) → IsBetween 1 most_number t → Begins (With_1 t) text_1 text_2 (λ p. p.weight) (IsBetween 1 most_number) (field_text weight_word)
begins_1 t ht = record { part = λ p h. h.0.weight; text = λ p. refl; some = λ w h. (made t w 0 [] [], (problem_of t w 0 [] [] ht h (omega arith) (no_syms 0) (no_clauses 0 []), refl), refl) }

begins_2 : (t w : ℕ) → IsBetween 1 most_number t → IsBetween 1 most_number w → Begins (With_2 t w) text_2 text_3 (λ p. p.sorts) (IsBetween 0 most_number) (field_text sorts_word)
begins_2 t w ht hw = record { part = λ p h. (omega arith, h.0.0.sorts); text = λ p. refl; some = λ s h. (made t w s [] [], ((problem_of t w s [] [] ht hw h.1 (no_syms s) (no_clauses s []), refl), refl), refl) }

syms_of : (p : FoProblem) → IsProblem p → AreSyms p.sorts p.syms
syms_of p h = record { count = h.syms_count; each = h.syms }

clauses_of : (p : FoProblem) → IsProblem p → AreClauses p.sorts p.syms p.clauses
clauses_of p h = record { count = h.clauses_count; each = h.clauses }

begins_3 : (t w s : ℕ) → IsBetween 1 most_number t → IsBetween 1 most_number w → s ≤ most_number → Begins (With_3 t w s) text_3 text_4 (λ p. p.syms) (AreSyms s) syms_text
begins_3 t w s ht hw hs = record { part = λ p h. subst (λ u. AreSyms u p.syms) h.1 (syms_of p h.0.0.0); text = λ p. refl; some = λ ys h. (made t w s ys [], (((problem_of t w s ys [] ht hw hs h (no_clauses s ys), refl), refl), refl), refl) }

begins_4 : (t w s : ℕ) (ys : List FoSym) → IsBetween 1 most_number t → IsBetween 1 most_number w → s ≤ most_number → AreSyms s ys → Begins (With_4 t w s ys) text_4 text_5 (λ p. p.clauses) (AreClauses s ys) clauses_text
begins_4 t w s ys ht hw hs hy = record {
  part = λ p h. subst (λ u. AreClauses s u p.clauses) h.1 (subst (λ u. AreClauses u p.syms p.clauses) h.0.1 (clauses_of p h.0.0.0.0));
  text = λ p. refl;
  some = λ cs h. (made t w s ys cs, ((((problem_of t w s ys cs ht hw hs hy h, refl), refl), refl), refl), refl);
}

abbrev Stopped : {X : Type 0} → (X → Type 0) → (X → List ℕ) → List ℕ → ℕ → Type 0
Stopped P tx input left = Refuses (Spells P tx) (Opens P tx) input left

abbrev code_1 : (word : List ℕ) → IsCode (IsBetween 1 most_number) (field_text word)
code_1 word = field-code word 1 most_number (omega arith)

pub stop_0 : (input : List ℕ) (left : ℕ) → Stopped (IsBetween 1 most_number) (field_text turns_word) input left → Stopped IsProblem problem_text input left
stop_0 input left r = begins-first IsProblem problem_text text_1 (λ p. p.turns) (IsBetween 1 most_number) (field_text turns_word) begins_0 input left r

down_0 : (t : ℕ) → IsBetween 1 most_number t → (input one : List ℕ) (left : ℕ) → input ≡ field_text turns_word t ++ one → Stopped (With_1 t) text_1 one left → Stopped IsProblem problem_text input left
down_0 t ht input one left e r = begins-then IsProblem problem_text text_1 (λ p. p.turns) (IsBetween 1 most_number) (field_text turns_word) begins_0 (field-code turns_word 1 most_number (omega arith)) t ht input one left e r

down_1 : (t w : ℕ) → IsBetween 1 most_number t → IsBetween 1 most_number w → (one two : List ℕ) (left : ℕ) → one ≡ field_text weight_word w ++ two → Stopped (With_2 t w) text_2 two left → Stopped (With_1 t) text_1 one left
down_1 t w ht hw one two left e r = begins-then (With_1 t) text_1 text_2 (λ p. p.weight) (IsBetween 1 most_number) (field_text weight_word) (begins_1 t ht) (field-code weight_word 1 most_number (omega arith)) w hw one two left e r

down_2 : (t w s : ℕ) → IsBetween 1 most_number t → IsBetween 1 most_number w → s ≤ most_number → (two three : List ℕ) (left : ℕ) → two ≡ field_text sorts_word s ++ three → Stopped (With_3 t w s) text_3 three left → Stopped (With_2 t w) text_2 two left
down_2 t w s ht hw hs two three left e r = begins-then (With_2 t w) text_2 text_3 (λ p. p.sorts) (IsBetween 0 most_number) (field_text sorts_word) (begins_2 t w ht hw) (field-code sorts_word 0 most_number (omega arith)) s (omega arith, hs) two three left e r

down_3 : (t w s : ℕ) (ys : List FoSym) → IsBetween 1 most_number t → IsBetween 1 most_number w → s ≤ most_number → AreSyms s ys → (three four : List ℕ) (left : ℕ) → three ≡ syms_text ys ++ four → Stopped (With_4 t w s ys) text_4 four left → Stopped (With_3 t w s) text_3 three left
down_3 t w s ys ht hw hs hy three four left e r = begins-then (With_3 t w s) text_3 text_4 (λ p. p.syms) (AreSyms s) syms_text (begins_3 t w s ht hw hs) (syms-code s hs) ys hy three four left e r

down_4 : (t w s : ℕ) (ys : List FoSym) (cs : List FoClause) → IsBetween 1 most_number t → IsBetween 1 most_number w → s ≤ most_number → AreSyms s ys → AreClauses s ys cs → (four five : List ℕ) (left : ℕ) → four ≡ clauses_text cs ++ five → Stopped (With_5 t w s ys cs) text_5 five left → Stopped (With_4 t w s ys) text_4 four left
down_4 t w s ys cs ht hw hs hy hc four five left e r = begins-then (With_4 t w s ys) text_4 text_5 (λ p. p.clauses) (AreClauses s ys) clauses_text (begins_4 t w s ys ht hw hs hy) (clauses-code s ys hs hy.count) cs hc four five left e r

pub stop_1 : (t : ℕ) → IsBetween 1 most_number t → (input one : List ℕ) (left : ℕ) → input ≡ field_text turns_word t ++ one → Stopped (IsBetween 1 most_number) (field_text weight_word) one left → Stopped IsProblem problem_text input left
stop_1 t ht input one left e r = down_0 t ht input one left e (begins-first (With_1 t) text_1 text_2 (λ p. p.weight) (IsBetween 1 most_number) (field_text weight_word) (begins_1 t ht) one left r)

pub stop_2 : (t w : ℕ) → IsBetween 1 most_number t → IsBetween 1 most_number w → (input one two : List ℕ) (left : ℕ) → input ≡ field_text turns_word t ++ one → one ≡ field_text weight_word w ++ two → Stopped (IsBetween 0 most_number) (field_text sorts_word) two left → Stopped IsProblem problem_text input left
stop_2 t w ht hw input one two left e f r = down_0 t ht input one left e (down_1 t w ht hw one two left f (begins-first (With_2 t w) text_2 text_3 (λ p. p.sorts) (IsBetween 0 most_number) (field_text sorts_word) (begins_2 t w ht hw) two left r))

-- the first three lines of a text, and what is behind them
pub record Head (t w s : ℕ) (input three : List ℕ) : Type 0 where
  pub turns : IsBetween 1 most_number t
  pub weight : IsBetween 1 most_number w
  pub sorts : s ≤ most_number
  pub one : List ℕ
  pub two : List ℕ
  pub at_turns : input ≡ field_text turns_word t ++ one
  pub at_weight : one ≡ field_text weight_word w ++ two
  pub at_sorts : two ≡ field_text sorts_word s ++ three

pub down : (t w s : ℕ) (input three : List ℕ) (left : ℕ) → Head t w s input three → Stopped (With_3 t w s) text_3 three left → Stopped IsProblem problem_text input left
down t w s input three left h r = down_0 t h.turns input h.one left h.at_turns (down_1 t w h.turns h.weight h.one h.two left h.at_weight (down_2 t w s h.turns h.weight h.sorts h.two three left h.at_sorts r))

pub stop_3 : (t w s : ℕ) (input three : List ℕ) (left : ℕ) → Head t w s input three → Stopped (AreSyms s) syms_text three left → Stopped IsProblem problem_text input left
stop_3 t w s input three left h r = down t w s input three left h (begins-first (With_3 t w s) text_3 text_4 (λ p. p.syms) (AreSyms s) syms_text (begins_3 t w s h.turns h.weight h.sorts) three left r)

pub stop_4 : (t w s : ℕ) (ys : List FoSym) (input three four : List ℕ) (left : ℕ) → Head t w s input three → AreSyms s ys → three ≡ syms_text ys ++ four → Stopped (AreClauses s ys) clauses_text four left → Stopped IsProblem problem_text input left
stop_4 t w s ys input three four left h hy e r = down t w s input three left h (down_3 t w s ys h.turns h.weight h.sorts hy three four left e (begins-first (With_4 t w s ys) text_4 text_5 (λ p. p.clauses) (AreClauses s ys) clauses_text (begins_4 t w s ys h.turns h.weight h.sorts hy) four left r))

pub stop_5 : (t w s : ℕ) (ys : List FoSym) (cs : List FoClause) (input three four five : List ℕ) (left : ℕ) → Head t w s input three → AreSyms s ys → AreClauses s ys cs → three ≡ syms_text ys ++ four → four ≡ clauses_text cs ++ five → Stopped IsKeyword (keyword_text end_word) five left → Stopped IsProblem problem_text input left
stop_5 t w s ys cs input three four five left h hy hc e f r =
    down t w s input three left h (down_3 t w s ys h.turns h.weight h.sorts hy three four left e (down_4 t w s ys cs h.turns h.weight h.sorts hy hc four five left f
    (refuses-then (With_5 t w s ys cs) text_5 IsKeyword (keyword_text end_word) [] five left
    (λ u i. ([], (made t w s ys cs, (((((problem_of t w s ys cs h.turns h.weight h.sorts hy hc, refl), refl), refl), refl), refl), append-nil end_word)))
    (λ z o. (tt, tt, o.2, o.3)) r)))

pub problem_read : (t w s : ℕ) (ys : List FoSym) (cs : List FoClause) (input three four five rest : List ℕ) → Head t w s input three → three ≡ syms_text ys ++ four → four ≡ clauses_text cs ++ five → five ≡ end_word ++ rest → input ≡ problem_text (record { turns = t; weight = w; sorts = s; syms = ys; clauses = cs }) ++ rest
problem_read t w s ys cs input three four five rest h e f g =
    let a : three ≡ text_3 (made t w s ys cs) ++ rest = e ∙ ap (λ u. syms_text ys ++ u) (f ∙ ap (λ u. clauses_text cs ++ u) g ∙ sym (append_assoc (clauses_text cs) end_word rest)) ∙ sym (append_assoc (syms_text ys) (clauses_text cs ++ end_word) rest) in
    let b : h.two ≡ text_2 (made t w s ys cs) ++ rest = h.at_sorts ∙ ap (λ u. field_text sorts_word s ++ u) a ∙ sym (append_assoc (field_text sorts_word s) (text_3 (made t w s ys cs)) rest) in
    let d : h.one ≡ text_1 (made t w s ys cs) ++ rest = h.at_weight ∙ ap (λ u. field_text weight_word w ++ u) b ∙ sym (append_assoc (field_text weight_word w) (text_2 (made t w s ys cs)) rest) in
    h.at_turns ∙ ap (λ u. field_text turns_word t ++ u) d ∙ sym (append_assoc (field_text turns_word t) (text_1 (made t w s ys cs)) rest)

same_problem : (x y : FoProblem) → x.turns ≡ y.turns → x.weight ≡ y.weight → x.sorts ≡ y.sorts → x.syms ≡ y.syms → x.clauses ≡ y.clauses → x ≡ y
same_problem x y a b c d e =
    let one : x ≡ made y.turns x.weight x.sorts x.syms x.clauses = ap (λ u. made u x.weight x.sorts x.syms x.clauses) a in
    let two : made y.turns x.weight x.sorts x.syms x.clauses ≡ made y.turns y.weight x.sorts x.syms x.clauses = ap (λ u. made y.turns u x.sorts x.syms x.clauses) b in
    let three : made y.turns y.weight x.sorts x.syms x.clauses ≡ made y.turns y.weight y.sorts x.syms x.clauses = ap (λ u. made y.turns y.weight u x.syms x.clauses) c in
    let four : made y.turns y.weight y.sorts x.syms x.clauses ≡ made y.turns y.weight y.sorts y.syms x.clauses = ap (λ u. made y.turns y.weight y.sorts u x.clauses) d in
    one ∙ two ∙ three ∙ four ∙ ap (λ u. made y.turns y.weight y.sorts y.syms u) e

code_5 : (t w s : ℕ) (ys : List FoSym) (cs : List FoClause) → IsCode (With_5 t w s ys cs) text_5
code_5 t w s ys cs = record { same = λ x y p q i j e. (same_problem x y (i.0.0.0.0.1 ∙ sym j.0.0.0.0.1) (i.0.0.0.1 ∙ sym j.0.0.0.1) (i.0.0.1 ∙ sym j.0.0.1) (i.0.1 ∙ sym j.0.1) (i.1 ∙ sym j.1), append-cancel end_word p q e) }

pub problem-code : IsCode IsProblem problem_text
problem-code =
    begins-code IsProblem problem_text text_1 (λ p. p.turns) (IsBetween 1 most_number) (field_text turns_word) begins_0 (field-code turns_word 1 most_number (omega arith)) (λ t ht.
    begins-code (With_1 t) text_1 text_2 (λ p. p.weight) (IsBetween 1 most_number) (field_text weight_word) (begins_1 t ht) (field-code weight_word 1 most_number (omega arith)) (λ w hw.
    begins-code (With_2 t w) text_2 text_3 (λ p. p.sorts) (IsBetween 0 most_number) (field_text sorts_word) (begins_2 t w ht hw) (field-code sorts_word 0 most_number (omega arith)) (λ s hs.
    begins-code (With_3 t w s) text_3 text_4 (λ p. p.syms) (AreSyms s) syms_text (begins_3 t w s ht hw hs.1) (syms-code s hs.1) (λ ys hy.
    begins-code (With_4 t w s ys) text_4 text_5 (λ p. p.clauses) (AreClauses s ys) clauses_text (begins_4 t w s ys ht hw hs.1 hy) (clauses-code s ys hs.1 hy.count) (λ cs hc. code_5 t w s ys cs)))))

pub problems_same : (p q : FoProblem) → IsProblem p → IsProblem q → problem_text p ≡ problem_text q → p ≡ q
problems_same p q i j e = (problem-code.same p q [] [] i j (ap (λ u. u ++ []) e)).0

-- from the bytes that are left to the number of the first bad byte
pub first_bad : (input : List ℕ) (left : ℕ) → Refuses (Spells IsProblem problem_text) (Opens IsProblem problem_text) input left → IsFirstBad IsProblemText input (length input - left)
first_bad input left r =
    let l : length input ≡ length r.before + length r.after = ap length r.input_is ∙ length-append r.before r.after in
    let k : left ≡ length r.after = r.left_is in
    record {
      before = r.before;
      after = r.after;
      input_is = r.input_is;
      byte_is = omega arith;
      rest = r.rest;
      goes_on = r.goes_on;
      stops = Stops-wider (λ z. Opens IsProblem problem_text (r.before ++ z)) (λ z. IsProblemText (r.before ++ z)) r.after (λ z o. (o.0, o.1, [], o.2 ∙ sym (append-nil (problem_text o.0)))) r.stops;
    }

pub left_within : (input : List ℕ) (left : ℕ) → Refuses (Spells IsProblem problem_text) (Opens IsProblem problem_text) input left → left ≤ length input
left_within input left r =
    let l : length input ≡ length r.before + length r.after = ap length r.input_is ∙ length-append r.before r.after in
    let k : left ≡ length r.after = r.left_is in
    omega arith

nothing_more : (p : FoProblem) → IsProblem p → (b : ℕ) (z : List ℕ) → IsProblemText (problem_text p ++ b ∷ z) → ⊥
nothing_more p i b z o =
    let s = problem-code.same p o.0 (b ∷ z) [] i o.1 (o.2 ∙ sym (append-nil (problem_text o.0))) in
    never b z s.1
  where
    never : (b : ℕ) (z : List ℕ) → b ∷ z ≡ [] → ⊥
    never b z e = cc

pub trailing : (input : List ℕ) (p : FoProblem) (rest : List ℕ) → IsProblem p → input ≡ problem_text p ++ rest → (rest ≡ [] → ⊥) → IsFirstBad IsProblemText input (length input - length rest)
trailing input p [] i e n = absurd (n refl)
trailing input p (b ∷ bs) i e n =
    let l : length input ≡ length (problem_text p) + length (b ∷ bs) = ap length e ∙ length-append (problem_text p) (b ∷ bs) in
    record { before = problem_text p; after = b ∷ bs; input_is = e; byte_is = omega arith; rest = []; goes_on = (p, i, append-nil (problem_text p)); stops = λ z o. nothing_more p i b z o }
