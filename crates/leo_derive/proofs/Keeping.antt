-- Lines that are kept, one after the other.
use Rattle.std.proofs.Common.{ℕ, zero, suc, ◌≡◌, ◌∙◌, ◌⊎◌, ◌+◌, ◌<◌, Bool, true, false, List, [], ◌∷◌, ◌++◌, length, drop, get_or, refl, sym, ap, subst, arith, inl, inr, append_assoc, append-nil}
use Rattle.std.specs.Prelude.{slice_get, Some, None, if◌then◌else◌}
use Rattle.leo_kernel.specs.Steps.{StepRule, assume, convert, inst, para, arrange, drop_literal, take_apart, bool_ext, func_ext, decompose, reflexivity, choose, factor, abbreviate, Line}
use Rattle.leo_derive.specs.Resting.{named}
use Rattle.leo_derive.specs.Pruning.{kept_before, numbered_rule, numbered_line, kept_lines}
use Rattle.leo_derive.specs.Marking.{AreNumbersBelow}

-- a rule has the same new numbers by two numberings that agree on the lines that it names
module _ (f g : ℕ → ℕ) (at : ℕ) (agree : (n : ℕ) → n < at → f n ≡ g n) where
  rule_agrees : (r : StepRule) → AreNumbersBelow at (named r) → numbered_rule f r ≡ numbered_rule g r
  rule_agrees (assume h) b = refl
  rule_agrees (convert p) b = rw (agree p b.0) refl
  rule_agrees (inst p sigma) b = rw (agree p b.0) refl
  rule_agrees (para p i s q j r path) b = rw (agree p b.0, agree q b.1.0) refl
  rule_agrees (arrange p) b = rw (agree p b.0) refl
  rule_agrees (drop_literal p i) b = rw (agree p b.0) refl
  rule_agrees (take_apart p i kind None) b = rw (agree p b.0) refl
  rule_agrees (take_apart p i kind (Some a)) b = rw (agree p b.0, agree a b.1.0) refl
  rule_agrees (bool_ext p i half) b = rw (agree p b.0) refl
  rule_agrees (func_ext p i None) b = rw (agree p b.0) refl
  rule_agrees (func_ext p i (Some a)) b = rw (agree p b.0, agree a b.1.0) refl
  rule_agrees (decompose p i) b = rw (agree p b.0) refl
  rule_agrees reflexivity b = refl
  rule_agrees choose b = refl
  rule_agrees (factor p i j) b = rw (agree p b.0) refl
  rule_agrees (abbreviate s) b = refl

  line_agrees : (l : Line) → AreNumbersBelow at (named l.rule) → numbered_line f l ≡ numbered_line g l
  line_agrees l b = rw (rule_agrees l.rule b) refl

-- ---- numbers

front_get : (xs : List ℕ) (x n : ℕ) → n < length xs → get_or (xs ++ x ∷ []) n 0 ≡ get_or xs n 0
front_get [] x n o = absurd (omega (arith, o))
front_get (y ∷ ys) x zero o = refl
front_get (y ∷ ys) x (suc n) o = front_get ys x n (omega (arith, o))

end_get : (xs : List ℕ) (x n : ℕ) → n ≡ length xs → get_or (xs ++ x ∷ []) n 0 ≡ x
end_get [] x n e = rw e refl
end_get (y ∷ ys) x zero e = absurd (omega (arith, e))
end_get (y ∷ ys) x (suc n) e = end_get ys x n (omega (arith, e))

pub below_or : (n at : ℕ) → n < at + 1 → (n < at) ⊎ (n ≡ at)
below_or zero zero o = inr refl
below_or zero (suc at) o = inl (omega arith)
below_or (suc n) zero o = absurd (omega (arith, o))
below_or (suc n) (suc at) o = elim (below_or n at (omega (arith, o))) [ inl h ↦ inl (omega (arith, h)) | inr h ↦ inr (ap suc h) ]

module _ (keeps : ℕ → Bool) (at : ℕ) (numbers : List ℕ) (place : ℕ) (many : length numbers ≡ at) (before : (n : ℕ) → n < at → get_or numbers n 0 ≡ kept_before keeps n) (here : place ≡ kept_before keeps at) where
  pub numbers_next : (n : ℕ) → n < at + 1 → get_or (numbers ++ place ∷ []) n 0 ≡ kept_before keeps n
  numbers_next n o = elim (below_or n at o) [
    | inl h ↦ front_get numbers place n (rw many h) ∙ before n h
    | inr h ↦ end_get numbers place n (rw many h) ∙ here ∙ ap (kept_before keeps) (sym h)
  ]

pub numbers_length : (numbers : List ℕ) (place at : ℕ) → length numbers ≡ at → length (numbers ++ place ∷ []) ≡ at + 1
numbers_length [] place at e = omega (arith, e)
numbers_length (n ∷ ns) place zero e = absurd (omega (arith, e))
numbers_length (n ∷ ns) place (suc at) e = let f = numbers_length ns place at (omega (arith, e)) in omega (arith, f)

-- ---- lines

drop_line : (ls : List Line) (i : ℕ) (l : Line) → slice_get ls i ≡ Some l → drop i ls ≡ l ∷ drop (i + 1) ls
drop_line [] i l e = absurd cc
drop_line (x ∷ xs) zero l e = let f : x ≡ l = cc in rw f refl
drop_line (x ∷ xs) (suc i) l e = let n : suc i + 1 ≡ suc (i + 1) = omega arith in rw n (drop_line xs i l e)

length_append_one : (xs : List Line) (l : Line) → length (xs ++ l ∷ []) ≡ suc (length xs)
length_append_one [] l = refl
length_append_one (x ∷ xs) l = ap suc (length_append_one xs l)

module _ (keeps : ℕ → Bool) (at : ℕ) (lines : List Line) (l : Line) (stands : slice_get lines at ≡ Some l) (number : ℕ → ℕ) (agree : (n : ℕ) → n < at → number n ≡ kept_before keeps n) (below : AreNumbersBelow at (named l.rule)) where
  next_by : (b : Bool) → keeps at ≡ b → (found new whole : List Line) → new ≡ found ++ (if b then numbered_line number l ∷ [] else []) → length found ≡ kept_before keeps at → found ++ kept_lines keeps at (drop at lines) ≡ whole
      → (length new ≡ kept_before keeps (at + 1)) × (new ++ kept_lines keeps (at + 1) (drop (at + 1) lines) ≡ whole)
  next_by true k found new whole e m w =
      let same = line_agrees number (kept_before keeps) at agree l below in
      let n : at + 1 ≡ suc at = omega arith in
      let count : kept_before keeps (suc at) ≡ suc (kept_before keeps at) = rw k refl in
      let front : found ++ (numbered_line (kept_before keeps) l ∷ kept_lines keeps (suc at) (drop (at + 1) lines)) ≡ whole = by_lines k (drop_line lines at l stands) w in (
        rw (e, n, count) (length_append_one found (numbered_line number l) ∙ ap suc m),
        rw (e, same) (append_assoc found (numbered_line (kept_before keeps) l ∷ []) (kept_lines keeps (at + 1) (drop (at + 1) lines)) ∙ subst (λ x. found ++ (numbered_line (kept_before keeps) l ∷ kept_lines keeps x (drop (at + 1) lines)) ≡ whole) (sym n) front),
      )
    where
      by_lines : keeps at ≡ true → drop at lines ≡ l ∷ drop (at + 1) lines → found ++ kept_lines keeps at (drop at lines) ≡ whole → found ++ (numbered_line (kept_before keeps) l ∷ kept_lines keeps (suc at) (drop (at + 1) lines)) ≡ whole
      by_lines k d w = let f = rw d at w in rw k at f
  next_by false k found new whole e m w =
      let n : at + 1 ≡ suc at = omega arith in
      let count : kept_before keeps (suc at) ≡ kept_before keeps at = rw k refl in
      let d = drop_line lines at l stands in
      let f = rw d at w in
      let front : found ++ kept_lines keeps (suc at) (drop (at + 1) lines) ≡ whole = rw k at f in
      (rw (e, n, count, append-nil found) m, rw (e, append-nil found) (subst (λ x. found ++ kept_lines keeps x (drop (at + 1) lines) ≡ whole) (sym n) front))

  pub kept_next : (b : Bool) → b ≡ keeps at → (found new whole : List Line) → new ≡ found ++ (if b then numbered_line number l ∷ [] else []) → length found ≡ kept_before keeps at → found ++ kept_lines keeps at (drop at lines) ≡ whole
      → (length new ≡ kept_before keeps (at + 1)) × (new ++ kept_lines keeps (at + 1) (drop (at + 1) lines) ≡ whole)
  kept_next b e = next_by b (sym e)
