use Rattle.std.proofs.Common.{◌≡◌, ◌≤◌, ◌<◌, ◌^◌, ◌∙◌, ap, ℕ, List, rules, arith, sym, true, false, decimal, Ok}
use Rattle.std.specs.Prelude.{Result}
use Rattle.std.proofs.lemmas.Fmt.{parse-decimal}
use Rattle.std.specs.Str.{bytes_eq}
use Rattle.std.proofs.lemmas.Slice.Eq.{bytes_eq-Decides}
use Rattle.std.specs.Str.Parse.{ParsesUnsigned}
use Rattle.leo_command.specs.Commands.{IsNumberWord}
use Rattle.leo_command.proofs.numbers.number.Goals as goal
use Rattle.leo_command.proofs.numbers.number.Goals.{else-eq-via-then-eq+then-least-number+else-number-most, else-eq-via-then-eq+else-least-number, else-eq-via-else-eq}

reads : {E : Type 0} (word : List ℕ) (least most n : ℕ) (r : Result ℕ E) → most < 2 ^ 32 → IsNumberWord word least most n → ParsesUnsigned 32 10 word r → r ≡ Ok n
reads word least most n r few is parses =
    let high : n ≤ most = is.to in
    parse-decimal 32 n word r (omega arith) (omega arith) is.word_is parses

pub returns-in_default : goal.returns-in_default
returns-in_default c = λ n is. c.in_default.not-Ok n (reads c.args.word.now c.args.least c.args.most n c.parse.result (search rules) is c.parse.ensures.value.0)

pub returns-else-eq : goal.returns-else-eq
returns-else-eq c = λ n is.
    let e : Ok n ≡ Ok c.in-Ok.number = sym (reads c.args.word.now c.args.least c.args.most n c.parse.result (search rules) is c.parse.ensures.value.0) ∙ c.in-Ok.is in
    let same : n ≡ c.in-Ok.number = cc in
    let from : c.args.least ≤ n = is.from in
    let to : n ≤ c.args.most = is.to in
    elim c.else-eq.branch [
      | else-eq-via-then-eq+then-least-number+else-number-most w ↦ let high = w.if-number-most in absurd (omega arith)
      | else-eq-via-then-eq+else-least-number w ↦ let low = w.if-least-number in absurd (omega arith)
      | else-eq-via-else-eq w ↦
          let shown : c.format.result.now ≡ c.args.word.now = c.format.ensures.text ∙ sym (is.word_is ∙ ap decimal same) in
          let yes : bytes_eq c.format.result.now c.args.word.now ≡ true = (bytes_eq-Decides c.format.result.now c.args.word.now).1 shown in
          let no : false ≡ bytes_eq c.format.result.now c.args.word.now = w.if-eq.ensures in
          cc
    ]
