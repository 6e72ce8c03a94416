-- What is read of a source: all up to and with the first line that is exactly `end`, within a limit.
use Rattle.std.specs.Prelude.{ℕ, ◌≡◌, ◌<◌, ◌≤◌, ◌⊎◌, Bool, true, List, ◌++◌, length, take, Option, codes}
use Rattle.std.specs.Option.{option_map}
use Rattle.fo_prove.specs.declared.reading.Piece.{Piece}
use Rattle.fo_prove.specs.declared.reading.Piece.TheVariants.{Given, Ended}
use Rattle.fo_prove.specs.declared.reading.Unread.{Unread}
use Rattle.fo_prove.specs.declared.reading.Unread.TheVariants.{Fault, Memory}

-- 64 MiB
abbrev pub most_read : ℕ
most_read = 67108864

-- the last line of the text is exactly `end`
abbrev pub EndsText : List ℕ → Type 0
EndsText z = (z ≡ codes "end\n") ⊎ ((before : List ℕ) × (z ≡ before ++ codes "\nend\n"))

-- the text has no line that is exactly `end`
abbrev pub HasNoEnd : List ℕ → Type 0
HasNoEnd z = (n : ℕ) → EndsText (take n z) → ⊥

-- of the bytes that a source gave this is read: those up to and with the first such line; where there is none, all, and
-- then the source has ended, or the limit is reached
pub data IsFront (gave : List ℕ) (has_ended : Bool) : List ℕ → Type 0 where
  to_the_line : {text : List ℕ} (behind : List ℕ) → gave ≡ text ++ behind → EndsText text → ((n : ℕ) → n < length text → EndsText (take n text) → ⊥) → IsFront gave has_ended text
  whole : HasNoEnd gave → (has_ended ≡ true) ⊎ (length gave ≡ most_read) → IsFront gave has_ended gave

-- the text is read of a source that told so much before and after, where it tells
pub record IsRead (before now : Option (List ℕ)) (has_ended : Bool) (text : List ℕ) : Type 0 where
  pub gave : List ℕ
  pub told : now ≡ option_map (λ bytes. bytes ++ gave) before
  pub front : IsFront gave has_ended text

-- no front of at most so many bytes ends with such a line
abbrev pub HasNoEndUpTo : ℕ → List ℕ → Type 0
HasNoEndUpTo bound z = (n : ℕ) → n ≤ bound → EndsText (take n z) → ⊥

-- the source gave a piece, which was appended
pub record IsAppended (most : ℕ) (told_before told_now : Option (List ℕ)) (before now : List ℕ) : Type 0 where
  pub bytes : List ℕ
  pub some : 0 < length bytes
  pub within : length bytes ≤ most
  pub told : told_now ≡ option_map (λ gave. gave ++ bytes) told_before
  pub appended : now ≡ before ++ bytes

-- the source has ended
pub record IsAtEnd (told_before told_now : Option (List ℕ)) (has_ended : Bool) (before now : List ℕ) : Type 0 where
  pub ended : has_ended ≡ true
  pub told : told_now ≡ told_before
  pub same : now ≡ before

abbrev pub IsPiece : Piece → ℕ → Option (List ℕ) → Option (List ℕ) → Bool → List ℕ → List ℕ → Type 0
IsPiece Given most told_before told_now has_ended before now = IsAppended most told_before told_now before now
IsPiece Ended most told_before told_now has_ended before now = IsAtEnd told_before told_now has_ended before now

-- the fact holds if the source failed
abbrev pub IfFailed : Type 0 → Unread → Type 0
IfFailed P Fault = P
IfFailed P Memory = Unit {0}

-- so much was given since
abbrev pub IsGivenSo : Option (List ℕ) → Option (List ℕ) → List ℕ → Type 0
IsGivenSo before now gave = now ≡ option_map (λ bytes. bytes ++ gave) before
