-- The names of an include, one after the other.
use Rattle.std.proofs.Common.{◌≡◌, ℕ, Bool, true, false, cond, List, [], ◌∷◌, ◌++◌, refl, ap, sym, ◌∙◌, append_assoc}
use Rattle.std.specs.Prelude.{Ok, Err, Option, Some, None}
use Rattle.leo_lex.specs.declared.mark.Mark.TheVariants.{Comma}
use Rattle.leo_syntax.specs.declared.refusal.ReadRefusal.{ReadRefusal}
use Rattle.leo_syntax.specs.Lexemes.{Lexeme, Ahead, is_mark, name_of}
use Rattle.leo_syntax.specs.Grammar.{sees}
use Rattle.leo_syntax.specs.Reading as read
use Rattle.leo_syntax.specs.Reading.{Read, and_then, read_said, rest}

-- ---- what is behind a name

behind_by : (end : ℕ) (name : List ℕ) (m : Lexeme) (ms : Ahead) (t : Bool)
    → and_then (cond t (read.names end ms) (Ok ([], m ∷ ms))) (λ others after. Ok (name ∷ others, after)) ≡ cond t (and_then (read.names end ms) (λ others after. Ok (name ∷ others, after))) (Ok (name ∷ [], m ∷ ms))
behind_by end name m ms true = refl
behind_by end name m ms false = refl

behind : (end : ℕ) (name : List ℕ) (ls : Ahead) → and_then (read.further_names end ls) (λ others after. Ok (name ∷ others, after)) ≡ cond (sees Comma ls) (and_then (read.names end (rest ls)) (λ others after. Ok (name ∷ others, after))) (Ok (name ∷ [], ls))
unfolding read.names sees rest
behind end name [] = refl
behind end name (m ∷ ms) = behind_by end name m ms (is_mark Comma m)

next_by : (end : ℕ) (l : Lexeme) (ls : Ahead) (o : Option (List ℕ))
    → and_then (read.found o end (l ∷ ls)) (λ name _. and_then (read.further_names end ls) (λ others after. Ok (name ∷ others, after)))
    ≡ and_then (read.found o end (l ∷ ls)) (λ name l1. cond (sees Comma l1) (and_then (read.names end (rest l1)) (λ others after. Ok (name ∷ others, after))) (Ok (name ∷ [], l1)))
unfolding rest
next_by end l ls (Some name) = behind end name ls
next_by end l ls None = refl

pub names_next : (end : ℕ) (ls : Ahead) → read.names end ls ≡ read.names_with end (read.names end) ls
unfolding read.names read.said_at read.refusal_at
names_next end [] = refl
names_next end (l ∷ ls) = next_by end l ls (name_of l)

-- ---- the loop

abbrev pub prefixed : List (List ℕ) → Read (List (List ℕ)) → Read (List (List ℕ))
prefixed found r = and_then r (λ names after. Ok (found ++ names, after))

-- what was read up to a place
abbrev pub Going : ℕ → Ahead → Ahead → List (List ℕ) → Type 0
Going end start ls found = read.names end start ≡ prefixed found (read.names end ls)

pub going_start : (end : ℕ) (ls : Ahead) → Going end ls ls []
going_start end ls = itself (read.names end ls)
  where
    itself : (r : Read (List (List ℕ))) → r ≡ prefixed [] r
    itself (Ok p) = refl
    itself (Err e) = refl

refused_by : (end : ℕ) (ls : Ahead) (e : ReadRefusal) → read_said name_of end ls ≡ Err e → read.names end ls ≡ Err e
refused_by end ls e r = rw (names_next end ls, r) refl

last_by : (end : ℕ) (ls l1 : Ahead) (name : List ℕ) → read_said name_of end ls ≡ Ok (name, l1) → sees Comma l1 ≡ false → read.names end ls ≡ Ok (name ∷ [], l1)
last_by end ls l1 name r c = rw (names_next end ls, r, c) refl

step_by : (end : ℕ) (ls l1 : Ahead) (name : List ℕ) → read_said name_of end ls ≡ Ok (name, l1) → sees Comma l1 ≡ true → read.names end ls ≡ and_then (read.names end (rest l1)) (λ others after. Ok (name ∷ others, after))
step_by end ls l1 name r c = names_next end ls ∙ rw (r, c) refl

pub going_refused : (end : ℕ) (start ls : Ahead) (found : List (List ℕ)) (e : ReadRefusal) → read_said name_of end ls ≡ Err e → Going end start ls found → read.names end start ≡ Err e
going_refused end start ls found e r h = h ∙ ap (prefixed found) (refused_by end ls e r)

pub going_last : (end : ℕ) (start ls l1 : Ahead) (found : List (List ℕ)) (name : List ℕ) → read_said name_of end ls ≡ Ok (name, l1) → sees Comma l1 ≡ false → Going end start ls found → read.names end start ≡ Ok (found ++ name ∷ [], l1)
going_last end start ls l1 found name r c h = h ∙ ap (prefixed found) (last_by end ls l1 name r c)

regroup : (found : List (List ℕ)) (name : List ℕ) (r : Read (List (List ℕ))) → prefixed found (and_then r (λ others after. Ok (name ∷ others, after))) ≡ prefixed (found ++ name ∷ []) r
regroup found name (Ok p) = ap (λ xs. Ok (xs, p.1)) (sym (append_assoc found (name ∷ []) p.0))
regroup found name (Err e) = refl

pub going_step : (end : ℕ) (start ls l1 next : Ahead) (found : List (List ℕ)) (name : List ℕ) → read_said name_of end ls ≡ Ok (name, l1) → sees Comma l1 ≡ true → next ≡ rest l1 → Going end start ls found → Going end start next (found ++ name ∷ [])
going_step end start ls l1 next found name r c e h = rw e (h ∙ ap (prefixed found) (step_by end ls l1 name r c) ∙ regroup found name (read.names end (rest l1)))
