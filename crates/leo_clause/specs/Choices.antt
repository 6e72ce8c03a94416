-- Choice symbols, and how the list of a bank reads.
use Rattle.std.specs.Prelude.{ℕ, ◌≡◌, ◌<◌, List, length, map, slice_get, Some}
use Rattle.leo_terms.specs.Tree.{Tree, symbol, type_of}
use Rattle.leo_terms.specs.Contents.{Contents, symbol_type, tree_at, type_number}
use Rattle.leo_clause.specs.declared.choices.Abbr.{Abbr}

-- a symbol, by its number, and the term that it stands for
pub record Choice : Type 0 where
  pub number : ℕ
  pub term : Tree

-- the symbol as a term
abbrev pub symbol_of : Choice → Tree
symbol_of k = symbol k.number (type_of k.term)

abbrev pub choice_at : Contents → ℕ × ℕ → Choice
choice_at c k = record { number = k.0; term = tree_at c k.1 }

abbrev pub choices_at : Contents → Abbr → List Choice
choices_at c a = map (choice_at c) a.items

-- the numbers are numbers of the bank, and the term has its symbol's type
pub record IsChoiceOf (c : Contents) (k : ℕ × ℕ) : Type 0 where
  pub symbol_within : k.0 < length c.symbols
  pub term_within : k.1 < length c.terms
  pub typed : symbol_type c k.0 ≡ type_number c k.1

abbrev pub AreChoicesOf : Contents → List (ℕ × ℕ) → Type 0
AreChoicesOf c ks = (n : ℕ) (k : ℕ × ℕ) → slice_get ks n ≡ Some k → IsChoiceOf c k
