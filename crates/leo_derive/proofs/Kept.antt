-- Lines that are kept, and their new numbers.
use Rattle.std.proofs.Common.{◌≡◌, ℕ, zero, suc, ◌+◌, ◌≤◌, Bool, true, false, cond, List, [], ◌∷◌, length, take, refl, ap, ◌∙◌, arith}
use Rattle.std.specs.Prelude.{slice_get, Some}
use Rattle.leo_kernel.specs.Steps.{Line}
use Rattle.leo_derive.specs.Pruning.{kept_before, numbered_line, kept_lines}

module _ (keeps : ℕ → Bool) where
  abbrev number : ℕ → ℕ
  number = kept_before keeps

  abbrev renumbered : Line → Line
  renumbered = numbered_line (kept_before keeps)

  step_by : (n : ℕ) (b : Bool) → kept_before keeps n ≤ cond b (suc (kept_before keeps n)) (kept_before keeps n)
  step_by n true = omega arith
  step_by n false = omega arith

  step_more : (n : ℕ) → kept_before keeps n ≤ kept_before keeps (suc n)
  step_more n = step_by n (keeps n)

  pub rises : (m n : ℕ) → kept_before keeps m ≤ kept_before keeps (m + n)
  rises m zero = let e : m + 0 ≡ m = omega arith in rw e (omega arith)
  rises m (suc n) = let e : m + suc n ≡ suc (m + n) = omega arith in rw e (omega (arith, rises m n, step_more (m + n)))

  pub step_kept : (n : ℕ) → keeps n ≡ true → kept_before keeps (suc n) ≡ suc (kept_before keeps n)
  step_kept n e = rw e refl

  pub step_passed : (n : ℕ) → keeps n ≡ false → kept_before keeps (suc n) ≡ kept_before keeps n
  step_passed n e = rw e refl

  -- a line that is kept stands under its new number
  pub kept_get : (ls : List Line) (start i j : ℕ) (l : Line) → slice_get ls i ≡ Some l → keeps (start + i) ≡ true → j + kept_before keeps start ≡ kept_before keeps (start + i) → slice_get (kept_lines keeps start ls) j ≡ Some (renumbered l)
  kept_get [] start i j l g k e = absurd cc
  kept_get (x ∷ xs) start zero j l g k e =
      let s : start + 0 ≡ start = omega arith in
      let k0 : keeps start ≡ true = rw s at k in
      let j0 : j ≡ 0 = let f = rw s at e in omega (arith, f) in
      let same : x ≡ l = cc in
      rw (k0, j0, same) refl
  kept_get (x ∷ xs) start (suc i) j l g k e = by (λ m f. kept_get xs (suc start) i m l g (rw s at k) f) (keeps start) refl j e
    where
      s : start + suc i ≡ suc start + i
      s = omega arith

      by : ((m : ℕ) → m + kept_before keeps (suc start) ≡ kept_before keeps (suc start + i) → slice_get (kept_lines keeps (suc start) xs) m ≡ Some (renumbered l)) → (b : Bool) → keeps start ≡ b → (j : ℕ) → j + kept_before keeps start ≡ kept_before keeps (start + suc i) → slice_get (cond b (renumbered x ∷ kept_lines keeps (suc start) xs) (kept_lines keeps (suc start) xs)) j ≡ Some (renumbered l)
      by rec false h j e = rec j (rw (step_passed start h) (e ∙ ap (kept_before keeps) s))
      by rec true h zero e = (let f = rises (suc start) i in let q = step_kept start h in let r = e ∙ ap (kept_before keeps) s in absurd (omega (arith, f, q, r)))
      by rec true h (suc j) e = rec j (let q = step_kept start h in let r = e ∙ ap (kept_before keeps) s in omega (arith, q, r))

  pub record Origin (ls : List Line) (start j : ℕ) (step : Line) : Type 0 where
    pub place : ℕ
    pub line : Line
    pub line_is : slice_get ls place ≡ Some line
    pub kept : keeps (start + place) ≡ true
    pub step_is : step ≡ renumbered line
    pub number_is : j + kept_before keeps start ≡ kept_before keeps (start + place)

  origin_next : (x : Line) (xs : List Line) (start j k : ℕ) (step : Line) → Origin xs (suc start) j step → k + kept_before keeps start ≡ j + kept_before keeps (suc start) → Origin (x ∷ xs) start k step
  origin_next x xs start j k step o e =
      let s : start + suc o.place ≡ suc start + o.place = omega arith in
      record { place = suc o.place; line = o.line; line_is = o.line_is; kept = rw s o.kept; step_is = o.step_is; number_is = rw s (e ∙ o.number_is) }

  -- what stands among the kept lines was one of the lines
  pub kept_origin : (ls : List Line) (start j : ℕ) (step : Line) → slice_get (kept_lines keeps start ls) j ≡ Some step → Origin ls start j step
  kept_origin [] start j step g = absurd cc
  kept_origin (x ∷ xs) start j step g = by (λ m f. kept_origin xs (suc start) m step f) (keeps start) refl j g
    where
      by : ((m : ℕ) → slice_get (kept_lines keeps (suc start) xs) m ≡ Some step → Origin xs (suc start) m step) → (b : Bool) → keeps start ≡ b → (j : ℕ) → slice_get (cond b (renumbered x ∷ kept_lines keeps (suc start) xs) (kept_lines keeps (suc start) xs)) j ≡ Some step → Origin (x ∷ xs) start j step
      by rec false h j g = origin_next x xs start j j step (rec j g) (rw (step_passed start h) refl)
      by rec true h zero g = (let s : start + 0 ≡ start = omega arith in record { place = 0; line = x; line_is = refl; kept = rw s h; step_is = cc; number_is = rw s (omega arith) })
      by rec true h (suc j) g = origin_next x xs start j (suc j) step (rec j g) (let q = step_kept start h in omega (arith, q))

  -- the kept lines before a kept line are those among the lines before it
  pub kept_take : (ls : List Line) (start i j : ℕ) → i ≤ length ls → j + kept_before keeps start ≡ kept_before keeps (start + i) → take j (kept_lines keeps start ls) ≡ kept_lines keeps start (take i ls)
  kept_take ls start zero j o e = let s : start + 0 ≡ start = omega arith in let f = rw s at e in let z : j ≡ 0 = omega (arith, f) in rw z refl
  kept_take [] start (suc i) j o e = absurd (omega (arith, o))
  kept_take (x ∷ xs) start (suc i) j o e = by (λ m f. kept_take xs (suc start) i m (omega (arith, o)) f) (keeps start) refl j e
    where
      s : start + suc i ≡ suc start + i
      s = omega arith

      by : ((m : ℕ) → m + kept_before keeps (suc start) ≡ kept_before keeps (suc start + i) → take m (kept_lines keeps (suc start) xs) ≡ kept_lines keeps (suc start) (take i xs)) → (b : Bool) → keeps start ≡ b → (j : ℕ) → j + kept_before keeps start ≡ kept_before keeps (start + suc i)
          → take j (cond b (renumbered x ∷ kept_lines keeps (suc start) xs) (kept_lines keeps (suc start) xs)) ≡ cond b (renumbered x ∷ kept_lines keeps (suc start) (take i xs)) (kept_lines keeps (suc start) (take i xs))
      by rec false h j e = rec j (rw (step_passed start h) (e ∙ ap (kept_before keeps) s))
      by rec true h zero e = (let f = rises (suc start) i in let q = step_kept start h in let r = e ∙ ap (kept_before keeps) s in absurd (omega (arith, f, q, r)))
      by rec true h (suc j) e = ap (λ ys. renumbered x ∷ ys) (rec j (let q = step_kept start h in let r = e ∙ ap (kept_before keeps) s in omega (arith, q, r)))
