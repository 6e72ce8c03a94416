-- With which prefixes atoms begin.
use Rattle.std.proofs.Common.{ℕ, zero, suc, nat_eq, ◌≡◌, ◌∙◌, ◌+◌, ◌<◌, ◌≤◌, Bool, true, false, cond, ◌&&◌, List, [], ◌∷◌, ◌++◌, length, drop, max, refl, sym, arith, inl, inr}
use Rattle.std.specs.Prelude.{codes, replicate}
use Rattle.std.specs.List.{starts_with, prefix_len}
use Rattle.std.proofs.lemmas.Bool.{eqb-true, eq-eqb, false≢true, cases_lt}
use Rattle.std.proofs.lemmas.List.Folds.{length-prefix_len}
use Rattle.leo_elab.specs.Problem.{Declared}
use Rattle.leo_tstp.specs.Vocabulary.{marks, marks_in, most_marks, new_prefix}
use Rattle.leo_tstp.specs.Laws.{prefix_with, IsFree, IsTaken, IsFirstFree}

abbrev run : List ℕ → ℕ
run xs = prefix_len (λ b. nat_eq b 95) xs

marks-run : (xs : List ℕ) → marks xs ≡ run xs
unfolding marks
marks-run xs = length-prefix_len (λ b. nat_eq b 95) xs

-- so many marks stand at the beginning as are asked for
full : (k : ℕ) (xs : List ℕ) → k ≤ run xs → starts_with nat_eq xs (replicate k 95) ≡ true
full zero xs l = refl
full (suc k) [] l = absurd (let h : suc k ≤ 0 = l in omega arith)
full (suc k) (x ∷ xs) l = by (nat_eq x 95) refl l (full k xs)
  where
    by : (b : Bool) → nat_eq x 95 ≡ b → suc k ≤ cond b (1 + run xs) 0 → (k ≤ run xs → starts_with nat_eq xs (replicate k 95) ≡ true) → starts_with nat_eq (x ∷ xs) (replicate (suc k) 95) ≡ true
    by true e h rec = rw (eq-eqb 95 x (sym (eqb-true x 95 e))) (rec (omega arith))
    by false e h rec = absurd (omega arith)

-- fewer do
short : (k : ℕ) (xs : List ℕ) → run xs < k → starts_with nat_eq xs (replicate k 95) ≡ false
short zero xs l = absurd (omega arith)
short (suc k) [] l = refl
short (suc k) (x ∷ xs) l = by (nat_eq x 95) refl l (short k xs)
  where
    other : (b : Bool) (r : Bool) → nat_eq 95 x ≡ b → nat_eq x 95 ≡ false → (b && r) ≡ false
    other false r e f = refl
    other true r e f = absurd (false≢true (sym f ∙ eq-eqb x 95 (sym (eqb-true 95 x e))))

    by : (b : Bool) → nat_eq x 95 ≡ b → cond b (1 + run xs) 0 < suc k → (run xs < k → starts_with nat_eq xs (replicate k 95) ≡ false) → starts_with nat_eq (x ∷ xs) (replicate (suc k) 95) ≡ false
    by true e h rec = rw (eq-eqb 95 x (sym (eqb-true x 95 e))) (rec (omega arith))
    by false e h rec = other (nat_eq 95 x) _ refl e

-- a beginning in two parts
both : (a r s t : Bool) → r ≡ (s && t) → (a && r) ≡ ((a && s) && t)
both true r s t e = e
both false r s t e = refl

parts : (xs p q : List ℕ) → starts_with nat_eq xs (p ++ q) ≡ (starts_with nat_eq xs p && starts_with nat_eq (drop (length p) xs) q)
parts xs [] q = refl
parts [] (y ∷ p) q = refl
parts (x ∷ xs) (y ∷ p) q = both (nat_eq y x) _ _ _ (parts xs p q)

begins : (atom : List ℕ) (m : ℕ) → starts_with nat_eq atom (prefix_with m) ≡ (starts_with nat_eq atom (codes "leo") && starts_with nat_eq (drop 3 atom) (replicate (suc m) 95))
begins atom m = parts atom (codes "leo") (replicate (suc m) 95)

-- which prefixes an atom begins with
taken : (atom : List ℕ) (m : ℕ) → m < marks_in atom → starts_with nat_eq atom (prefix_with m) ≡ true
unfolding marks_in
taken atom m l = by (starts_with nat_eq atom (codes "leo")) refl l
  where
    by : (b : Bool) → starts_with nat_eq atom (codes "leo") ≡ b → m < cond b (marks (drop 3 atom)) 0 → starts_with nat_eq atom (prefix_with m) ≡ true
    by true e h = begins atom m ∙ rw e (full (suc m) (drop 3 atom) (omega (arith, marks-run (drop 3 atom))))
    by false e h = absurd (omega arith)

free : (atom : List ℕ) (m : ℕ) → marks_in atom ≤ m → starts_with nat_eq atom (prefix_with m) ≡ false
unfolding marks_in
free atom m l = by (starts_with nat_eq atom (codes "leo")) refl l
  where
    by : (b : Bool) → starts_with nat_eq atom (codes "leo") ≡ b → cond b (marks (drop 3 atom)) 0 ≤ m → starts_with nat_eq atom (prefix_with m) ≡ false
    by true e h = begins atom m ∙ rw e (short (suc m) (drop 3 atom) (omega (arith, marks-run (drop 3 atom))))
    by false e h = begins atom m ∙ rw e refl

-- and atoms
all-free : {A : Type 0} (ps : List (List ℕ × A)) (m : ℕ) → most_marks ps ≤ m → IsFree (prefix_with m) ps
all-free [] m l = tt
all-free (p ∷ ps) m l = let h : max (marks_in p.0) (most_marks ps) ≤ m = l in (free p.0 m (omega arith), all-free ps m (omega arith))

one-taken : {A : Type 0} (ps : List (List ℕ × A)) (m : ℕ) → m < most_marks ps → IsTaken (prefix_with m) ps
one-taken [] m l = absurd (let h : m < 0 = l in omega arith)
one-taken (p ∷ ps) m l = let h : m < max (marks_in p.0) (most_marks ps) = l in elim (cases_lt m (marks_in p.0)) [
  | inl a ↦ inl (taken p.0 m a)
  | inr a ↦ inr (one-taken ps m (omega arith))
]

pub first-free : (d : Declared) → IsFirstFree d (new_prefix d)
first-free d = record {
  marks = max (most_marks d.types) (most_marks d.constants);
  prefix_is = refl;
  no_type = all-free d.types _ (omega arith);
  no_constant = all-free d.constants _ (omega arith);
  first = λ m l. elim (cases_lt m (most_marks d.types)) [
    | inl a ↦ inl (one-taken d.types m a)
    | inr a ↦ inr (one-taken d.constants m (omega arith))
  ];
}
