-- The decimal text of a number.
use Rattle.std.proofs.Common.{ℕ, ◌≡◌, ◌<◌, ◌≤◌, ◌+◌, ◌-◌, ◌*◌, ◌/◌, ◌%◌, ◌^◌, suc, zero, List, [], ◌∷◌, ◌++◌, refl, sym, ap, ◌∙◌, subst, arith}
use Rattle.std.specs.Prelude.{decimal}
use Rattle.std.specs.List.{AllByRecursion}
use Rattle.std.proofs.lemmas.List.{append-nil}
use Rattle.std.proofs.Common.{inl, inr}
use Rattle.std.proofs.lemmas.Fmt.{decimal_by_steps, decimal_step, decimal_injective}
use Rattle.fo_text.proofs.Lists.{either_front, All-append, All-back}

abbrev pub IsDigit : ℕ → Type 0
IsDigit b = (48 ≤ b) × (b ≤ 57)

-- the number that digits write behind a number
abbrev pub value : ℕ → List ℕ → ℕ
value n [] = n
value n (b ∷ bs) = value (10 * n + (b - 48)) bs

pub value-append : (n : ℕ) (xs ys : List ℕ) → value n (xs ++ ys) ≡ value (value n xs) ys
value-append n [] ys = refl
value-append n (x ∷ xs) ys = value-append (10 * n + (x - 48)) xs ys

pub value-le : (n : ℕ) (bs : List ℕ) → n ≤ value n bs
value-le n [] = omega arith
value-le n (b ∷ bs) = let h = value-le (10 * n + (b - 48)) bs in omega arith

-- the text of a number: digits, of which the first is 0 only where it is the last
pub record IsDecimal (n : ℕ) (ds : List ℕ) : Type 0 where
  pub digits : AllByRecursion IsDigit ds
  pub value_is : value 0 ds ≡ n
  pub first : ℕ
  pub others : List ℕ
  pub first_is : ds ≡ first ∷ others
  pub alone : first ≡ 48 → others ≡ []

one : (n : ℕ) → n < 10 → IsDecimal n ((48 + n) ∷ [])
one n l = record { digits = ((omega arith, omega arith), tt); value_is = omega arith; first = 48 + n; others = []; first_is = refl; alone = λ _. refl }

more : (n : ℕ) (ds : List ℕ) → 10 ≤ n → IsDecimal (n / 10) ds → IsDecimal n (ds ++ ((48 + n % 10) ∷ []))
more n ds l d = record {
  digits = All-append IsDigit ds ((48 + n % 10) ∷ []) d.digits ((omega arith, omega arith), tt);
  value_is = value-append 0 ds ((48 + n % 10) ∷ []) ∙ (let v : value 0 ds ≡ n / 10 = d.value_is in omega arith);
  first = d.first;
  others = d.others ++ ((48 + n % 10) ∷ []);
  first_is = ap (λ z. z ++ ((48 + n % 10) ∷ [])) d.first_is;
  alone = λ z. absurd (
      let none : d.others ≡ [] = d.alone z in
      let whole : ds ≡ 48 ∷ [] = d.first_is ∙ ap (λ u. u ∷ d.others) z ∙ ap (λ u. 48 ∷ u) none in
      let v : value 0 ds ≡ 0 = ap (value 0) whole in
      let w : value 0 ds ≡ n / 10 = d.value_is in
      omega arith);
}

pub decimal-is : (n : ℕ) → n < 2 ^ 64 → IsDecimal n (decimal n)
decimal-is n l = decimal_by_steps IsDecimal one more n l

pub decimal-more : (v d : ℕ) → 0 < v → d ≤ 9 → 10 * v + d < 2 ^ 64 → decimal (10 * v + d) ≡ decimal v ++ ((48 + d) ∷ [])
decimal-more v d p l f =
    let q : (10 * v + d) / 10 ≡ v = omega arith in
    let r : (10 * v + d) % 10 ≡ d = omega arith in
    decimal_step (10 * v + d) (omega arith) f ∙ ap (λ u. decimal u ++ ((48 + (10 * v + d) % 10) ∷ [])) q ∙ ap (λ u. decimal v ++ ((48 + u) ∷ [])) r

-- a number that goes on behind the text of another with one more digit is at least so large
pub decimal-extends : (m v b : ℕ) (ys : List ℕ) → m < 2 ^ 64 → v < 2 ^ 64 → decimal m ≡ decimal v ++ b ∷ ys → (0 < v) × IsDigit b × (10 * v + (b - 48) ≤ m)
decimal-extends m v b ys fm fv e =
    let dm = decimal-is m fm in
    let dv = decimal-is v fv in
    let behind : AllByRecursion IsDigit (b ∷ ys) = All-back IsDigit (decimal v) (b ∷ ys) (subst (AllByRecursion IsDigit) e dm.digits) in
    let split : value 0 (decimal v ++ b ∷ ys) ≡ value (value 0 (decimal v)) (b ∷ ys) = value-append 0 (decimal v) (b ∷ ys) in
    let whole : m ≡ value (10 * v + (b - 48)) ys = sym dm.value_is ∙ ap (value 0) e ∙ split ∙ ap (λ u. value u (b ∷ ys)) dv.value_is in
    let large = value-le (10 * v + (b - 48)) ys in
    let front : decimal m ≡ dv.first ∷ (dv.others ++ b ∷ ys) = e ∙ ap (λ u. u ++ b ∷ ys) dv.first_is in
    let same_first : dm.first ≡ dv.first = (let k : dm.first ∷ dm.others ≡ dv.first ∷ (dv.others ++ b ∷ ys) = sym dm.first_is ∙ front in cc) in
    let same_others : dm.others ≡ dv.others ++ b ∷ ys = (let k : dm.first ∷ dm.others ≡ dv.first ∷ (dv.others ++ b ∷ ys) = sym dm.first_is ∙ front in cc) in
    (positive m v b ys dm.first dm.others dv.first dv.others dm.alone same_first same_others (dv.value_is) dv.first_is dv.digits, behind.0, omega arith)
  where
    nonempty : (xs ys : List ℕ) (b : ℕ) → [] ≡ xs ++ b ∷ ys → ⊥
    nonempty [] ys b e = cc
    nonempty (x ∷ xs) ys b e = cc

    positive : (m v b : ℕ) (ys : List ℕ) (f : ℕ) (os : List ℕ) (g : ℕ) (ps : List ℕ) → (f ≡ 48 → os ≡ []) → f ≡ g → os ≡ ps ++ b ∷ ys → value 0 (decimal v) ≡ v → decimal v ≡ g ∷ ps → AllByRecursion IsDigit (decimal v) → 0 < v
    positive m v b ys f os g ps alone sf so vi fi di =
        let w : value 0 (g ∷ ps) ≡ v = sym (ap (value 0) fi) ∙ vi in
        let d : AllByRecursion IsDigit (g ∷ ps) = subst (AllByRecursion IsDigit) fi di in
        let from = value-le (10 * 0 + (g - 48)) ps in
        let large : g - 48 ≤ value 0 (g ∷ ps) = omega (arith, from) in
        let other : f ≡ 48 → ⊥ = λ z. nonempty ps ys b (sym (alone z) ∙ so) in
        let low = d.0.0 in
        cases v w large low other
      where
        cases : (v : ℕ) → value 0 (g ∷ ps) ≡ v → g - 48 ≤ value 0 (g ∷ ps) → 48 ≤ g → (f ≡ 48 → ⊥) → 0 < v
        cases zero w large low other = absurd (other (let s : f ≡ g = sf in omega arith))
        cases (suc n) w large low other = omega arith

-- two numbers with bytes behind them that are no digits
pub decimal-same : (m n c : ℕ) (p q : List ℕ) (d : ℕ) → m < 2 ^ 64 → n < 2 ^ 64 → c < 48 → d < 48 → decimal m ++ c ∷ p ≡ decimal n ++ d ∷ q → (m ≡ n) × (c ∷ p ≡ d ∷ q)
decimal-same m n c p q d fm fn lc ld e =
    elim (either_front (decimal m) (decimal n) (c ∷ p) (d ∷ q) e) [
      | inl w ↦ left w.0 w.1 w.2
      | inr w ↦ absurd (let x = decimal-extends m n w.0 w.1 fm fn w.2 in let b : w.0 ≡ d = (let k : d ∷ q ≡ w.0 ∷ (w.1 ++ c ∷ p) = w.3 in cc) in let low = x.1.0 in omega arith)
    ]
  where
    left : (r : List ℕ) → decimal n ≡ decimal m ++ r → c ∷ p ≡ r ++ d ∷ q → (m ≡ n) × (c ∷ p ≡ d ∷ q)
    left [] h k = (sym (decimal_injective n m fn fm (h ∙ append-nil (decimal m))), k)
    left (b ∷ r) h k = absurd (let x = decimal-extends n m b r fn fm h in let s : c ≡ b = cc in let low = x.1.0 in omega arith)
