-- The words of types, binders' variables and type statements, with those that stand behind them.
use Rattle.std.specs.Prelude.{ℕ, List, [], ◌∷◌, ◌++◌, codes, decimal}
use Rattle.leo_q0.specs.Terms.{SimpleType, base, arrow}
use Rattle.leo_tstp.specs.Vocabulary.{Vocabulary}

abbrev pub type_then : Vocabulary → SimpleType → List (List ℕ) → List (List ℕ)
type_then v (base b) rest = v.base_word b ∷ rest
type_then v (arrow a b) rest = codes "(" ∷ type_then v a (codes ">" ∷ type_then v b (codes ")" ∷ rest))

-- the variable of a binder under so many lambdas, with its type
abbrev pub binder_then : Vocabulary → ℕ → SimpleType → List (List ℕ) → List (List ℕ)
binder_then v depth a rest = codes "[" ∷ (codes "Y" ++ decimal depth) ∷ codes ":" ∷ type_then v a (codes "]" ∷ codes ":" ∷ rest)

-- the head of a line
abbrev pub line_head : ℕ → List (List ℕ)
line_head n = codes "thf" ∷ codes "(" ∷ (codes "l" ++ decimal n) ∷ codes "," ∷ codes "plain" ∷ codes "," ∷ []

-- the type statement of a symbol of that name
abbrev pub typing_then : Vocabulary → List ℕ → List ℕ → SimpleType → List (List ℕ) → List (List ℕ)
typing_then v statement name a rest =
    codes "thf" ∷ codes "(" ∷ statement ∷ codes "," ∷ codes "type" ∷ codes "," ∷ name ∷ codes ":" ∷ type_then v a (codes ")" ∷ codes "." ∷ rest)
