-- The words of base types and of symbols.
use Rattle.std.specs.Prelude.{ℕ, ◌+◌, Bool, false, nat_eq, List, [], ◌∷◌, ◌++◌, length, max, drop, codes, decimal, replicate, Option, Some, None, if◌then◌else◌}
use Rattle.std.specs.List.{take_while, starts_with}
use Rattle.leo_q0.specs.Terms.{SimpleType, base, arrow}
use Rattle.leo_elab.specs.Problem.{Declared, Constant}
use Rattle.leo_kernel.specs.Steps.{StepRule, abbreviate}
use Rattle.leo_tstp.specs.Words.{atom_text}

-- the words of base types and of symbols, by number; the types of symbols; and how the names of abbreviations begin, of
-- which so many are in use
pub record Vocabulary : Type 0 where
  pub base_word : ℕ → List ℕ
  pub symbol_word : ℕ → List ℕ
  pub symbol_type : ℕ → SimpleType
  pub prefix : List ℕ
  pub introduced : ℕ

-- ---- the declared atoms

abbrev pub is_base : ℕ → SimpleType → Bool
is_base b (base n) = nat_eq n b
is_base b (arrow x y) = false

-- the first atom that is declared as the base type
abbrev pub base_atom : ℕ → List (List ℕ × SimpleType) → Option (List ℕ)
base_atom b [] = None
base_atom b (p ∷ ps) = if is_base b p.1 then Some p.0 else base_atom b ps

-- the first atom that is declared as the symbol
abbrev pub symbol_atom : ℕ → List (List ℕ × Constant) → Option (List ℕ)
symbol_atom s [] = None
symbol_atom s (p ∷ ps) = if nat_eq p.1.number s then Some p.0 else symbol_atom s ps

-- nothing where there is no atom
abbrev pub word_of : Option (List ℕ) → List ℕ
word_of None = []
word_of (Some atom) = atom_text atom

-- `$o` and `$i` are the first two base types
abbrev pub base_word_by : (ℕ → List ℕ) → ℕ → List ℕ
base_word_by others b = if nat_eq b 0 then codes "$o" else (if nat_eq b 1 then codes "$i" else others b)

-- ---- the names of abbreviations

-- how many `_` stand at the beginning
unfoldable pub marks : List ℕ → ℕ
marks text = length (take_while (λ b. nat_eq b 95) text)

-- how many `_` stand behind `leo` at the beginning of an atom
unfoldable pub marks_in : List ℕ → ℕ
marks_in atom = if starts_with nat_eq atom (codes "leo") then marks (drop 3 atom) else 0

-- the most of them
abbrev pub most_marks : {A : Type 0} → List (List ℕ × A) → ℕ
most_marks [] = 0
most_marks (p ∷ ps) = max (marks_in p.0) (most_marks ps)

-- the first of `leo_`, `leo__` and so on with which no atom begins: it has one more `_` than any atom has there
abbrev pub new_prefix : Declared → List ℕ
new_prefix d = codes "leo_" ++ replicate (max (most_marks d.types) (most_marks d.constants)) 95

abbrev pub new_name : List ℕ → ℕ → List ℕ
new_name prefix n = prefix ++ decimal n

-- ---- the words of a problem, and of what stands behind a line

-- the words of the declared atoms, where symbols have these types
abbrev pub vocabulary : Declared → (ℕ → SimpleType) → Vocabulary
vocabulary d types = record {
  base_word = base_word_by (λ b. word_of (base_atom b d.types));
  symbol_word = λ s. word_of (symbol_atom s d.constants);
  symbol_type = types;
  prefix = new_prefix d;
  introduced = 0;
}

-- the words with one for a symbol
abbrev pub with_word : (ℕ → List ℕ) → ℕ → List ℕ → ℕ → List ℕ
with_word words s word k = if nat_eq s k then word else words k

-- the words with a new name for a symbol
abbrev pub with_symbol : Vocabulary → ℕ → Vocabulary
with_symbol v s = record {
  base_word = v.base_word;
  symbol_word = with_word v.symbol_word s (new_name v.prefix v.introduced);
  symbol_type = v.symbol_type;
  prefix = v.prefix;
  introduced = v.introduced + 1;
}

-- a line that abbreviates names its symbol anew
abbrev pub with_rule : Vocabulary → StepRule → Vocabulary
with_rule v (abbreviate s) = with_symbol v s
with_rule v _ = v
