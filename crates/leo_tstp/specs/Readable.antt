-- Words that are read as names of symbols. For private contracts.
use Rattle.std.specs.Prelude.{ℕ, ◌≡◌, Bool, true, false, ◌||◌, nat_eq, List, [], ◌∷◌}
use Rattle.leo_lex.specs.Bytes.{is_lower, single_quote}

-- a letter from `a` to `z`, or a quote
abbrev pub begins_name : ℕ → Bool
begins_name b = is_lower b || nat_eq b single_quote

abbrev pub has_first : (ℕ → Bool) → List ℕ → Bool
has_first test [] = false
has_first test (b ∷ bs) = test b

-- the word is no bracket, no sign, no variable and none with a `$`
pub record IsReadableWord (w : List ℕ) : Type 0 where
  pub begins : has_first begins_name w ≡ true
