use Rattle.std.proofs.Common.{ℕ, ◌≡◌, nat_eq, [], map, drop, ◌≤◌, length}
use Rattle.std.specs.Option.{option_map_or}
use Rattle.indexmap.specs.IndexMap.{get}
use Rattle.leo_elab.specs.Table.{type_entry}
use Rattle.leo_tstp.specs.Vocabulary.{base_atom, word_of}
use Rattle.leo_tstp.proofs.namer.base_words.Given as goal

abbrev pub invariant-loop-place : goal.invariant-loop-place
invariant-loop-place l =
    ((k : ℕ) → option_map_or (λ w. w.items) (get nat_eq l.bases k) [] ≡ word_of (base_atom k (map (type_entry l.bank) (drop l.place l.names.types))))
    × (l.place ≤ length l.names.types)

abbrev pub decreases-loop-place : goal.decreases-loop-place
decreases-loop-place l = l.place
