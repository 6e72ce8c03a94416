-- How much is read.
use Rattle.std.specs.Prelude.{ℕ, ◌-◌, min}

-- how many bytes the next file may have, where the files before it have so many: 16 MiB, and all together 64 MiB
abbrev pub room_for : ℕ → ℕ
room_for bytes = min 16777216 (67108864 - bytes)
