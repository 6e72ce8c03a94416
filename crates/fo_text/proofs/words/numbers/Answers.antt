use Rattle.std.proofs.lemmas.Result.{err_from_is_err_and}
use Rattle.fo_text.proofs.Composing.{stop-behind}
use Rattle.std.specs.Prelude.{decimal}
use Rattle.fo_text.specs.Words.{most_number}
use Rattle.fo_text.specs.Numbers.{IsNumberWord, number_word}
use Rattle.fo_text.specs.declared.number.Ends.TheVariants.{DotOrLine}
use Rattle.fo_text.specs.AnswerSpellings.{path_text}
use Rattle.fo_text.specs.AnswerReads.{IsPath}
use Rattle.fo_text.proofs.NumberedLines.{line_so_far}
use Rattle.fo_text.proofs.AnswerPieces.{path-first, path-next}
use Rattle.fo_text.proofs.words.numbers.Goals as goal

pub returns-in_err-first-clause-refused : goal.returns-in_err-first-clause-refused
returns-in_err-first-clause-refused c =
    let p = err_from_is_err_and c.from_residual.result c.from_residual.ensures.1 in
    rw (p.1, p.2) (stop-behind IsPath path_text (IsNumberWord 0 most_number DotOrLine) number_word c.args.input.now c.args.input.now (λ k r. path-first c.args.input.now k c.requires r) c.in_err-first.field-0.0 c.in_err-first.ensures.refused)

pub returns-in_err-argument-clause-refused : goal.returns-in_err-argument-clause-refused
returns-in_err-argument-clause-refused c =
    let p = err_from_is_err_and c.from_residual-in_err-argument.result c.from_residual-in_err-argument.ensures.1 in
    let n = c.in_ok-first.first in
    let i = c.loop-tail.invariant in
    rw (p.1, p.2) (stop-behind IsPath path_text (IsNumberWord 0 most_number DotOrLine) number_word c.args.input.now c.in-Some.tail.now
    (λ k r. path-next n i.0 c.args.input.now c.in-Some.tail.now k c.requires c.in_ok-first.ensures.read.not_above i.3 (line_so_far 46 decimal n i.0 c.in-Some.tail.now c.args.input.now c.loop-tail.rest.now i.2 c.in-Some.ensures) r)
    c.in_err-argument.field-0.0 c.in_err-argument.ensures.refused)
