-- The words of base types and symbols as the printer keeps them. For private contracts.
use Rattle.std.specs.Prelude.{ℕ, nat_eq, List, []}
use Rattle.std.specs.Option.{option_map_or}
use Rattle.indexmap.specs.IndexMap.{get}
use Rattle.leo_terms.specs.Contents.{Contents, type_at, symbol_type}
use Rattle.leo_tstp.specs.declared.namer.Namer.{Namer}
use Rattle.leo_tstp.specs.Vocabulary.{Vocabulary, base_word_by}

abbrev pub base_in : Namer → ℕ → List ℕ
base_in n b = option_map_or (λ w. w.items) (get nat_eq n.bases b) []

abbrev pub symbol_in : Namer → ℕ → List ℕ
symbol_in n s = option_map_or (λ w. w.items) (get nat_eq n.symbols s) []

-- the words that a printer writes, where the symbols are those of a bank
abbrev pub words_in : Contents → Namer → Vocabulary
words_in c n = record {
  base_word = base_word_by (base_in n);
  symbol_word = symbol_in n;
  symbol_type = λ s. type_at c (symbol_type c s);
  prefix = n.prefix.items;
  introduced = n.introduced;
}
