-- What the traits of the outside say of their answers and of their counts of faults.
use Rattle.std.specs.Prelude.{◌≡◌, ℕ, ◌+◌, ◌-◌, ◌^◌, ◌≤◌, min, Bool, true, false, List, ◌++◌, length, Option, IfSome}
use Rattle.leo_edge.specs.declared.outside.Fetched.{Fetched}
use Rattle.leo_edge.specs.declared.outside.Fetched.TheVariants.{Got, Long, Failed, Memory}
use Rattle.leo_edge.specs.declared.outside.Put.{Put}
use Rattle.leo_edge.specs.declared.outside.Put.TheVariants as put
use Rattle.leo_edge.specs.declared.outside.Next.{Next}
use Rattle.leo_edge.specs.declared.outside.Next.TheVariants as next

-- the count has risen, or stands at the last value of 64 bits
abbrev pub HasRisen : ℕ → ℕ → Type 0
HasRisen before now = min (before + 1) (2 ^ 64 - 1) ≤ now

-- bytes within the limit were appended, which are the whole content, where it is told
pub record Appends (before now : List ℕ) (limit : ℕ) (told : Option (List ℕ)) : Type 0 where
  pub bytes : List ℕ
  pub appended : now ≡ before ++ bytes
  pub within : length bytes ≤ limit
  pub is_told : IfSome told (λ whole. bytes ≡ whole)

-- the fact holds if the content was got
abbrev pub OnGot : Fetched → Type 0 → Type 0
OnGot Got P = P
OnGot Long P = Unit {0}
OnGot Failed P = Unit {0}
OnGot Memory P = Unit {0}

-- the fact holds unless the content was got
abbrev pub UnlessGot : Fetched → Type 0 → Type 0
UnlessGot Got P = Unit {0}
UnlessGot Long P = P
UnlessGot Failed P = P
UnlessGot Memory P = P

-- the fact holds if the content was too long
abbrev pub OnLong : Fetched → Type 0 → Type 0
OnLong Got P = Unit {0}
OnLong Long P = P
OnLong Failed P = Unit {0}
OnLong Memory P = Unit {0}

-- the fact holds if the fetch failed
abbrev pub OnFailed : Fetched → Type 0 → Type 0
OnFailed Got P = Unit {0}
OnFailed Long P = Unit {0}
OnFailed Failed P = P
OnFailed Memory P = Unit {0}

-- the fact holds unless the fetch failed
abbrev pub UnlessFailed : Fetched → Type 0 → Type 0
UnlessFailed Got P = P
UnlessFailed Long P = P
UnlessFailed Failed P = Unit {0}
UnlessFailed Memory P = P

-- the fact holds of the number of bytes that were taken
abbrev pub IfTook : Put → (ℕ → Type 0) → Type 0
IfTook (put.Took n) P = P n
IfTook put.Failed P = Unit {0}

-- the fact holds if none was taken
abbrev pub OnNoneTaken : Put → Type 0 → Type 0
OnNoneTaken (put.Took n) P = Unit {0}
OnNoneTaken put.Failed P = P

-- the fact holds of the number of bytes that were given
abbrev pub IfGiven : Next → (ℕ → Type 0) → Type 0
IfGiven (next.Got n) P = P n
IfGiven next.End P = Unit {0}
IfGiven next.Failed P = Unit {0}

-- the fact holds unless bytes were given
abbrev pub UnlessGiven : Next → Type 0 → Type 0
UnlessGiven (next.Got n) P = Unit {0}
UnlessGiven next.End P = P
UnlessGiven next.Failed P = P

-- the fact holds if the source failed
abbrev pub OnNextFailed : Next → Type 0 → Type 0
OnNextFailed (next.Got n) P = Unit {0}
OnNextFailed next.End P = Unit {0}
OnNextFailed next.Failed P = P

-- the answer says that there are no more bytes
abbrev pub is_end : Next → Bool
is_end (next.Got n) = false
is_end next.End = true
is_end next.Failed = false
