-- The types and symbols of a bank that the places of a text's types and symbols stand for. For private contracts.
use Rattle.std.specs.Prelude.{ℕ, ◌≡◌, ◌<◌, List, length, slice_get, Some}
use Rattle.leo_q0.specs.Terms.{SimpleType, base, arrow}
use Rattle.leo_terms.specs.Contents.{Contents, type_at, symbol_type}
use Rattle.leo_tstp.specs.declared.reading.trees.TypeNode.{TypeNode}
use Rattle.leo_tstp.specs.declared.reading.trees.TypeNode.TheVariants as node
use Rattle.leo_tstp.specs.declared.reading.lexicon.Lexicon.{Lexicon}
use Rattle.leo_tstp.specs.declared.building.numbers.Numbers.{Numbers}
use Rattle.leo_tstp.specs.Vocabulary.{Vocabulary}
use Rattle.leo_tstp.specs.Built.{IsNumbering}
use Rattle.leo_tstp.specs.Places.{IsPlace, word_place}
use Rattle.leo_tstp.specs.TermPlaces.{symbol_place}

-- the place of a base type's word is one of a base type of the bank, which is that one
pub record HasBase (ns : List TypeNode) (c : Contents) (n : Numbers) (b p : ℕ) : Type 0 where
  pub place : ℕ
  pub node_is : slice_get ns p ≡ Some (node.Base place)
  pub number : ℕ
  pub number_at : slice_get n.bases.items place ≡ Some number
  pub type_is : type_at c number ≡ base b

-- the number of a base type's place
pub record IsBaseNumber (c : Contents) (n : Numbers) (k t : ℕ) : Type 0 where
  pub number : ℕ
  pub number_at : slice_get n.bases.items k ≡ Some number
  pub type_is : type_at c t ≡ type_at c number

-- the number of a type of functions between two earlier ones
pub record IsArrowNumber (c : Contents) (n : Numbers) (q r t : ℕ) : Type 0 where
  pub from : ℕ
  pub from_at : slice_get n.types.items q ≡ Some from
  pub to : ℕ
  pub to_at : slice_get n.types.items r ≡ Some to
  pub type_is : type_at c t ≡ arrow (type_at c from) (type_at c to)

abbrev pub IsNodeNumber : Contents → Numbers → TypeNode → ℕ → Type 0
IsNodeNumber c n (node.Base k) t = IsBaseNumber c n k t
IsNodeNumber c n (node.Arrow q r) t = IsArrowNumber c n q r t

-- a type that has its number stands for what its place does
pub record HasNode (ns : List TypeNode) (c : Contents) (n : Numbers) (p t : ℕ) : Type 0 where
  pub node : TypeNode
  pub node_is : slice_get ns p ≡ Some node
  pub number_is : IsNodeNumber c n node t

-- the place of a symbol's word has the number of that symbol in the bank
pub record HasSymbol (l : Lexicon) (ns : List TypeNode) (v : Vocabulary) (c : Contents) (n : Numbers) (f : ℕ → ℕ) (s q : ℕ) : Type 0 where
  pub number_at : slice_get n.symbols.items q ≡ Some (f s)
  pub ty : ℕ
  pub ty_at : slice_get l.symbol_types.items q ≡ Some ty
  pub place : IsPlace v l ns (type_at c (symbol_type c (f s))) ty

-- the numbers are those of what the places stand for, where each symbol of the words has the number by `f` in the bank
pub record IsNumberingOf (v : Vocabulary) (l : Lexicon) (ns : List TypeNode) (c : Contents) (n : Numbers) (f : ℕ → ℕ) : Type 0 where
  pub within : IsNumbering c n
  pub bases : (b p : ℕ) → word_place l (v.base_word b) ≡ Some p → HasBase ns c n b p
  pub types : (p t : ℕ) → slice_get n.types.items p ≡ Some t → HasNode ns c n p t
  pub symbols : (s q : ℕ) → symbol_place l (v.symbol_word s) ≡ Some q → HasSymbol l ns v c n f s q
