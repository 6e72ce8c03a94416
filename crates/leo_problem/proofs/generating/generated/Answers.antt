use Rattle.std.proofs.Common.{◌≡◌, ◌≤◌, ◌∙◌, ap, refl, ℕ, List, drop, arith, sym, true, false, decimal, Ok}
use Rattle.std.specs.Prelude.{Result}
use Rattle.std.proofs.lemmas.Fmt.{parse-decimal}
use Rattle.std.specs.Str.{bytes_eq}
use Rattle.std.proofs.lemmas.Slice.Eq.{bytes_eq-Decides}
use Rattle.std.specs.Str.Parse.{ParsesUnsigned}
use Rattle.leo_problem.specs.Generating.{IsGenerator}
use Rattle.leo_problem.proofs.generating.generated.Goals as goal
use Rattle.leo_problem.proofs.generating.generated.Goals.{else-eq-via-then-eq+then-number-ge1+else-number-le-MOST_GENERATED, else-eq-via-then-eq+else-number-ge1, else-eq-via-else-eq}

-- what stands behind the first four bytes
behind : (name digits : List ℕ) (skipped n : ℕ) → skipped ≡ 4 → digits ≡ drop skipped name → IsGenerator name n → digits ≡ decimal n
behind name digits skipped n four rest is = rw (rest, four, is.spelled) refl

reads : {E : Type 0} (name digits : List ℕ) (n : ℕ) (r : Result ℕ E) → IsGenerator name n → digits ≡ decimal n → ParsesUnsigned 32 10 digits r → r ≡ Ok n
reads name digits n r is e parses =
    let most = is.most in
    parse-decimal 32 n digits r (omega arith) (omega arith) e parses

pub returns-in_default : goal.returns-in_default
returns-in_default c = λ n is.
    let k = c.in_ok-digits.ensures.cases in
    let e = behind c.args.name.now c.in_ok-digits.digits.now k.0 n k.1.0 k.2 is in
    c.in_default.not-Ok n (reads c.args.name.now c.in_ok-digits.digits.now n c.parse.result is e c.parse.ensures.value.0)

pub returns-else-eq : goal.returns-else-eq
returns-else-eq c = λ n is.
    let k = c.in_ok-digits.ensures.cases in
    let d = behind c.args.name.now c.in_ok-digits.digits.now k.0 n k.1.0 k.2 is in
    let e : Ok n ≡ Ok c.in-Ok.number = sym (reads c.args.name.now c.in_ok-digits.digits.now n c.parse.result is d c.parse.ensures.value.0) ∙ c.in-Ok.is in
    let same : n ≡ c.in-Ok.number = cc in
    let from : 1 ≤ n = is.least in
    let to : n ≤ 100000 = is.most in
    elim c.else-eq.branch [
      | else-eq-via-then-eq+then-number-ge1+else-number-le-MOST_GENERATED w ↦ let high = w.if-number-le-MOST_GENERATED in absurd (omega arith)
      | else-eq-via-then-eq+else-number-ge1 w ↦ let low = w.if-number-ge1 in absurd (omega arith)
      | else-eq-via-else-eq w ↦
          let shown : c.format.result.now ≡ c.in_ok-digits.digits.now = c.format.ensures.text ∙ sym (d ∙ ap decimal same) in
          let yes : bytes_eq c.format.result.now c.in_ok-digits.digits.now ≡ true = (bytes_eq-Decides c.format.result.now c.in_ok-digits.digits.now).1 shown in
          let no : false ≡ bytes_eq c.format.result.now c.in_ok-digits.digits.now = w.if-eq.ensures in
          cc
    ]
