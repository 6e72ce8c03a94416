-- The lines of the checker.
use Rattle.std.specs.Prelude.{ℕ, List, [], ◌∷◌, codes, decimal}
use Rattle.leo_kernel.specs.declared.reason.Reason.{Reason}
use Rattle.leo_kernel.specs.declared.reason.Reason.TheVariants.{Parent, Literal, Place, Types, Symbol, Shape, NoEmpty}
use Rattle.leo_top.specs.Lines.{line}

-- the word for a reason
abbrev pub reason_word : Reason → List ℕ
reason_word Parent = codes "parent"
reason_word Literal = codes "literal"
reason_word Place = codes "place"
reason_word Types = codes "types"
reason_word Symbol = codes "symbol"
reason_word Shape = codes "shape"
reason_word NoEmpty = codes "noempty"

-- the derivation is accepted
unfoldable pub accepted_line : List ℕ
accepted_line = line (codes "accepted" ∷ [])

-- a line of it is refused
unfoldable pub refused_line : ℕ → Reason → List ℕ
refused_line n reason = line (codes "refused at line l" ∷ decimal n ∷ codes ": " ∷ reason_word reason ∷ [])

-- the text does not go on as that of a derivation
unfoldable pub stopped_line : ℕ → List ℕ
stopped_line byte = line (codes "refused at byte " ∷ decimal byte ∷ [])

-- a file cannot be read
unfoldable pub fault_line : List ℕ
fault_line = line (codes "read fault" ∷ [])

-- the words are no command
unfoldable pub usage_line : List ℕ
usage_line = line (codes "usage" ∷ [])

-- no memory was found
unfoldable pub memory_line : List ℕ
memory_line = line (codes "no memory" ∷ [])
