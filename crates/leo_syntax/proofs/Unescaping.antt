-- Quoted texts, read from left to right.
use Rattle.std.proofs.Common.{◌≡◌, ℕ, ◌+◌, ◌<◌, ◌≤◌, Bool, true, false, List, [], ◌∷◌, ◌++◌, length, drop, get_or, refl, ap, sym, ◌∙◌, append_assoc, append-nil, add-one, arith}
use Rattle.std.specs.Prelude.{◌==◌}
use Rattle.std.proofs.Math.Seq.{drop-cons}
use Rattle.std.proofs.Math.ListN.{drop_of_length-le}
use Rattle.std.proofs.lemmas.Bool.Decides.{nat_tests}
use Rattle.leo_syntax.specs.Lexemes.{unescaped}

next_is : (text : List ℕ) (i : ℕ) → i < length text → drop i text ≡ get_or text i 0 ∷ drop (i + 1) text
next_is text i h = rw add-one (drop-cons text i 0 h)

pub passed : (text found whole : List ℕ) (i : ℕ) (e : Bool) → i < length text → e ≡ false → get_or text i 0 ≡ 92 → found ++ unescaped e (drop i text) ≡ whole → found ++ unescaped true (drop (i + 1) text) ≡ whole
passed text found whole i e h f b k = sym (ap (λ x. found ++ x) (ap (unescaped e) (next_is text i h) ∙ rw (f, b) refl)) ∙ k

kept : (text found whole : List ℕ) (i : ℕ) (e : Bool) → unescaped e (drop i text) ≡ get_or text i 0 ∷ unescaped false (drop (i + 1) text) → found ++ unescaped e (drop i text) ≡ whole → (found ++ get_or text i 0 ∷ []) ++ unescaped false (drop (i + 1) text) ≡ whole
kept text found whole i e r k = append_assoc found (get_or text i 0 ∷ []) (unescaped false (drop (i + 1) text)) ∙ ap (λ x. found ++ x) (sym r) ∙ k

pub kept_escaped : (text found whole : List ℕ) (i : ℕ) (e : Bool) → i < length text → e ≡ true → found ++ unescaped e (drop i text) ≡ whole → (found ++ get_or text i 0 ∷ []) ++ unescaped false (drop (i + 1) text) ≡ whole
kept_escaped text found whole i e h f k = kept text found whole i e (ap (unescaped e) (next_is text i h) ∙ rw f refl) k

pub kept_plain : (text found whole : List ℕ) (i : ℕ) (e : Bool) → i < length text → e ≡ false → (get_or text i 0 ≡ 92 → ⊥) → found ++ unescaped e (drop i text) ≡ whole → (found ++ get_or text i 0 ∷ []) ++ unescaped false (drop (i + 1) text) ≡ whole
kept_plain text found whole i e h f n k =
    let b : (get_or text i 0 == 92) ≡ false = grind (arith, nat_tests) in
    kept text found whole i e (ap (unescaped e) (next_is text i h) ∙ rw (f, b) refl) k

pub all_passed : (text found whole : List ℕ) (i : ℕ) (e : Bool) → length text ≤ i → found ++ unescaped e (drop i text) ≡ whole → found ≡ whole
all_passed text found whole i e h k = sym (append-nil found) ∙ ap (λ x. found ++ x) (sym (ap (unescaped e) (drop_of_length-le text h) ∙ nothing e)) ∙ k
  where
    nothing : (e : Bool) → unescaped e [] ≡ []
    nothing true = refl
    nothing false = refl
