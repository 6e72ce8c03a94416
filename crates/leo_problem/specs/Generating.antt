-- Names that stand for a generated text, and these texts.
use Rattle.std.specs.Prelude.{◌≡◌, ℕ, zero, suc, ◌≤◌, List, [], ◌∷◌, ◌++◌, codes, decimal}
use Rattle.std.specs.List.{concat}

-- the name stands for the generated text of that number
pub record IsGenerator (name : List ℕ) (n : ℕ) : Type 0 where
  pub spelled : name ≡ codes "gen:" ++ decimal n
  pub least : 1 ≤ n
  pub most : n ≤ 100000

-- the name stands for no generated text
abbrev pub IsFileName : List ℕ → Type 0
IsFileName name = (n : ℕ) → ¬ IsGenerator name n

-- the symbol of that number is a truth value
unfoldable pub typing_line : ℕ → List ℕ
typing_line i = concat (codes "thf(t" ∷ decimal i ∷ codes ",type,p" ∷ decimal i ∷ codes ": $o).\n" ∷ [])

-- the symbol of a number implies that of the next
unfoldable pub implication_line : ℕ → List ℕ
implication_line i = concat (codes "thf(i" ∷ decimal (suc i) ∷ codes ",axiom,( p" ∷ decimal i ∷ codes " => p" ∷ decimal (suc i) ∷ codes " )).\n" ∷ [])

-- the first symbol holds
unfoldable pub axiom_line : List ℕ
axiom_line = codes "thf(a,axiom,p0).\n"

-- the symbol of that number is to be proved
unfoldable pub conjecture_line : ℕ → List ℕ
conjecture_line n = concat (codes "thf(c,conjecture,p" ∷ decimal n ∷ codes ").\n" ∷ [])

-- the symbols of the numbers below n
abbrev pub typings : ℕ → List ℕ
typings zero = []
typings (suc i) = typings i ++ typing_line i

-- the first n implications
abbrev pub implications : ℕ → List ℕ
implications zero = []
implications (suc i) = implications i ++ implication_line i

-- the generated text of that number: p0 holds, each of p0, p1, .. implies the next, and pn is to be proved
unfoldable pub generated_text : ℕ → List ℕ
generated_text n = typings (suc n) ++ axiom_line ++ implications n ++ conjecture_line n
