-- Generated texts are short.
use Rattle.std.proofs.Common.{ℕ, zero, suc, ◌≡◌, ◌≤◌, ◌+◌, ◌*◌, ◌∙◌, ap, List, [], ◌∷◌, ◌++◌, length, codes, decimal, arith, length-append}
use Rattle.std.specs.List.{concat}
use Rattle.std.proofs.lemmas.Fmt.{length-decimal-le}
use Rattle.leo_problem.specs.Generating.{typing_line, implication_line, axiom_line, conjecture_line, typings, implications, generated_text}

-- a number of at most 100,000 has at most six digits
short-number : (n : ℕ) → n ≤ 100000 → length (decimal n) ≤ 6
short-number n h = length-decimal-le 6 n (omega arith) (omega arith) (omega arith)

before-end : (a b : List ℕ) → length (a ++ (b ++ [])) ≡ length a + length b
before-end a b = grind (arith, length-append)

three : (a b c : List ℕ) → length (concat (a ∷ b ∷ c ∷ [])) ≡ length a + (length b + length c)
three a b c = length-append a (b ++ (c ++ [])) ∙ ap (λ n. length a + n) (before-end b c)

five : (a b c d e : List ℕ) → length (concat (a ∷ b ∷ c ∷ d ∷ e ∷ [])) ≡ length a + (length b + (length c + (length d + length e)))
five a b c d e = length-append a (concat (b ∷ c ∷ d ∷ e ∷ [])) ∙ ap (λ n. length a + n) (length-append b (concat (c ∷ d ∷ e ∷ [])) ∙ ap (λ n. length b + n) (three c d e))

seven : (a b c d e f g : List ℕ) → length (concat (a ∷ b ∷ c ∷ d ∷ e ∷ f ∷ g ∷ [])) ≡ length a + (length b + (length c + (length d + (length e + (length f + length g)))))
seven a b c d e f g = length-append a (concat (b ∷ c ∷ d ∷ e ∷ f ∷ g ∷ [])) ∙ ap (λ n. length a + n) (length-append b (concat (c ∷ d ∷ e ∷ f ∷ g ∷ [])) ∙ ap (λ n. length b + n) (five c d e f g))

short-typing : (i : ℕ) → i ≤ 100000 → length (typing_line i) ≤ 31
unfolding typing_line
short-typing i h =
    let d = short-number i h in
    rw (five (codes "thf(t") (decimal i) (codes ",type,p") (decimal i) (codes ": $o).\n")) (omega arith)

short-implication : (i : ℕ) → suc i ≤ 100000 → length (implication_line i) ≤ 43
unfolding implication_line
short-implication i h =
    let d = short-number i (omega arith) in
    let e = short-number (suc i) h in
    rw (seven (codes "thf(i") (decimal (suc i)) (codes ",axiom,( p") (decimal i) (codes " => p") (decimal (suc i)) (codes " )).\n")) (omega arith)

short-axiom : length axiom_line ≤ 17
unfolding axiom_line
short-axiom = omega arith

short-conjecture : (n : ℕ) → n ≤ 100000 → length (conjecture_line n) ≤ 27
unfolding conjecture_line
short-conjecture n h =
    let d = short-number n h in
    rw (three (codes "thf(c,conjecture,p") (decimal n) (codes ").\n")) (omega arith)

short-typings : (n : ℕ) → n ≤ 100001 → length (typings n) ≤ 31 * n
short-typings zero h = omega arith
short-typings (suc i) h =
    let line = short-typing i (omega arith) in
    let before = short-typings i (omega arith) in
    rw (length-append (typings i) (typing_line i)) (omega arith)

short-implications : (n : ℕ) → n ≤ 100000 → length (implications n) ≤ 43 * n
short-implications zero h = omega arith
short-implications (suc i) h =
    let line = short-implication i h in
    let before = short-implications i (omega arith) in
    rw (length-append (implications i) (implication_line i)) (omega arith)

four : (a b c d : List ℕ) → length (a ++ b ++ c ++ d) ≡ length a + (length b + (length c + length d))
four a b c d = grind (arith, length-append)

-- a file may be as long
pub short-text : (n : ℕ) → n ≤ 100000 → length (generated_text n) ≤ 16777216
unfolding generated_text
short-text n h =
    let t = short-typings (suc n) (omega arith) in
    let a = short-axiom in
    let i = short-implications n h in
    let c = short-conjecture n h in
    rw (four (typings (suc n)) axiom_line (implications n) (conjecture_line n)) (omega arith)
