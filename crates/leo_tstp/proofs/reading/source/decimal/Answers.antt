use Rattle.std.proofs.Common.{◌≡◌, ◌<◌, ◌^◌, ◌∙◌, ap, sym, ℕ, List, true, false, decimal, Ok, Some}
use Rattle.std.specs.Prelude.{Result}
use Rattle.std.specs.Str.{bytes_eq}
use Rattle.std.specs.Str.Parse.{ParsesUnsigned}
use Rattle.std.proofs.lemmas.Fmt.{parse-decimal, IsAscii-decimal}
use Rattle.std.proofs.lemmas.Str.{IsUtf8-from_ascii}
use Rattle.std.proofs.lemmas.Slice.Eq.{bytes_eq-Decides}
use Rattle.leo_tstp.proofs.reading.source.decimal.Goals as goal

reads : {E : Type 0} (text digits : List ℕ) (n : ℕ) (r : Result ℕ E) → n < 2 ^ 64 → text ≡ decimal n → digits ≡ text → ParsesUnsigned 64 10 digits r → r ≡ Ok n
reads text digits n r small e same parses = parse-decimal 64 n digits r small small (same ∙ e) parses

pub returns-in_default : goal.returns-in_default
returns-in_default c = λ n small e. absurd (c.in_default.ensures.cases.0 (IsUtf8-from_ascii c.args.text.now (rw e (IsAscii-decimal n small))))

pub returns-in_default-parse : goal.returns-in_default-parse
returns-in_default-parse c = λ n small e. absurd (c.in_default-parse.not-Ok n (reads c.args.text.now _ n c.parse.result small e c.in-Ok.ensures.cases.0 c.parse.ensures.value.0))

pub returns-then-eq : goal.returns-then-eq
returns-then-eq c = λ n small e.
    let r : c.parse.result ≡ Ok n = reads c.args.text.now _ n c.parse.result small e c.in-Ok.ensures.cases.0 c.parse.ensures.value.0 in
    let k : Ok c.in-Ok-parse.number ≡ Ok n = sym c.in-Ok-parse.is ∙ r in
    let same : c.in-Ok-parse.number ≡ n = cc in
    ap Some same

pub returns-else-eq : goal.returns-else-eq
returns-else-eq c = λ n small e.
    let r : c.parse.result ≡ Ok n = reads c.args.text.now _ n c.parse.result small e c.in-Ok.ensures.cases.0 c.parse.ensures.value.0 in
    let k : Ok c.in-Ok-parse.number ≡ Ok n = sym c.in-Ok-parse.is ∙ r in
    let same : c.in-Ok-parse.number ≡ n = cc in
    let shown : c.format.result.now ≡ c.in-Ok.digits.now = c.format.ensures.text ∙ (ap decimal same ∙ sym (c.in-Ok.ensures.cases.0 ∙ e)) in
    let yes : bytes_eq c.format.result.now c.in-Ok.digits.now ≡ true = (bytes_eq-Decides c.format.result.now c.in-Ok.digits.now).1 shown in
    let no : false ≡ bytes_eq c.format.result.now c.in-Ok.digits.now = c.if-eq.ensures in
    absurd (cc)
