-- Words of the texts of derivations: quotes, brackets, and lists with something between.
use Rattle.std.specs.Prelude.{ℕ, Bool, false, ◌&&◌, ◌||◌, nat_le, nat_eq, List, [], ◌∷◌, ◌++◌, map, codes, if◌then◌else◌}
use Rattle.std.specs.List.{flat_map, list_all}
use Rattle.leo_lex.specs.Bytes.{is_lower, is_word, is_digit, single_quote}

-- a byte of a file's name as it is shown: `?` outside 32 to 126
abbrev pub shown_byte : ℕ → ℕ
shown_byte b = if nat_le 32 b && nat_le b 126 then b else 63

abbrev pub shown : List ℕ → List ℕ
shown name = map shown_byte name

-- a byte in quotes: `'` and `\` stand behind a `\`
abbrev pub escaped : ℕ → List ℕ
escaped b = if nat_eq b 39 || nat_eq b 92 then 92 ∷ b ∷ [] else b ∷ []

-- whether this is a lower word: a letter from `a` to `z`, and then letters, digits and `_`
unfoldable pub is_lower_word : List ℕ → Bool
is_lower_word [] = false
is_lower_word (b ∷ bs) = is_lower b && list_all is_word bs

-- whether this is one digit or more
unfoldable pub are_digits : List ℕ → Bool
are_digits [] = false
are_digits (b ∷ bs) = list_all is_digit (b ∷ bs)

-- bytes between quotes, with their escapes
unfoldable pub in_quotes : List ℕ → List ℕ
in_quotes bytes = single_quote ∷ (flat_map escaped bytes ++ single_quote ∷ [])

-- an atom: bare where it is a lower word
unfoldable pub atom_text : List ℕ → List ℕ
atom_text atom = if is_lower_word atom then atom else in_quotes atom

-- the name of a statement: bare where it is a lower word or digits
unfoldable pub name_text : List ℕ → List ℕ
name_text name = if is_lower_word name || are_digits name then name else in_quotes name

-- a file's name: always in quotes, and `'?'` where it is empty
unfoldable pub file_text : List ℕ → List ℕ
file_text [] = codes "'?'"
file_text (b ∷ bs) = in_quotes (shown (b ∷ bs))

-- two texts in brackets with a sign between
unfoldable pub in_brackets : List ℕ → List ℕ → List ℕ → List ℕ
in_brackets first sign second = codes "( " ++ (first ++ (sign ++ (second ++ codes " )")))

-- a text in brackets behind a sign
unfoldable pub behind_sign : List ℕ → List ℕ → List ℕ
behind_sign sign text = codes "( " ++ (sign ++ (text ++ codes " )"))

-- the texts of items, with a mark between
abbrev pub joined : {A : Type 0} → List ℕ → (A → List ℕ) → List A → List ℕ
joined mark text [] = []
joined mark text (x ∷ xs) = text x ++ flat_map (λ y. mark ++ text y) xs
