-- Types and symbols that were met in a bank that grows.
use Rattle.std.proofs.Common.{ℕ, zero, suc, ◌≡◌, ◌<◌, List, [], ◌∷◌, length, slice_get, Some}
use Rattle.leo_terms.specs.Contents.{Contents, Extends}
use Rattle.leo_elab.specs.Table.{AreConstantsIn}
use Rattle.leo_tstp.specs.declared.reading.lexicon.Known.{Known}
use Rattle.leo_tstp.specs.Known.{IsKnown}
use Rattle.leo_tstp.proofs.Built.{types-grow, symbols-grow}

pub constants-in : (c : Contents) (ps : List (List ℕ × ℕ)) → AreConstantsIn c ps → (place : ℕ) (p : List ℕ × ℕ) → slice_get ps place ≡ Some p → p.1 < length c.symbols
constants-in c [] h place p e = absurd cc
constants-in c (q ∷ ps) h zero p e = let f : q ≡ p = cc in rw (← f) h.0
constants-in c (q ∷ ps) h (suc place) p e = constants-in c ps h.1 place p e

pub known-kept : {c d : Contents} → Extends c d → {k : Known} → IsKnown c k → IsKnown d k
known-kept e {k} h = record { bases = types-grow e k.bases.items h.bases; symbols = symbols-grow e k.symbols.items h.symbols }
