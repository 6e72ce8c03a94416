use Rattle.std.proofs.Common.{ℕ, ◌≡◌, nat_eq, [], map, drop, ◌≤◌, length}
use Rattle.std.specs.Option.{option_map_or}
use Rattle.indexmap.specs.IndexMap.{get}
use Rattle.leo_elab.specs.Table.{constant_entry}
use Rattle.leo_tstp.specs.Vocabulary.{symbol_atom, word_of}
use Rattle.leo_tstp.proofs.namer.symbol_words.Given as goal

abbrev pub invariant-loop-place : goal.invariant-loop-place
invariant-loop-place l =
    ((k : ℕ) → option_map_or (λ w. w.items) (get nat_eq l.symbols k) [] ≡ word_of (symbol_atom k (map (constant_entry l.bank) (drop l.place l.names.constants))))
    × (l.place ≤ length l.names.constants)

abbrev pub decreases-loop-place : goal.decreases-loop-place
decreases-loop-place l = l.place
