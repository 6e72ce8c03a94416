use Rattle.std.proofs.lemmas.Result.{err_from_is_err_and}
use Rattle.fo_text.proofs.Composing.{stop-behind}
use Rattle.std.proofs.Common.{◌++◌}
use Rattle.fo_text.specs.Words.{most_number}
use Rattle.fo_text.specs.Numbers.{IsNumberWord, number_word}
use Rattle.fo_text.specs.declared.number.Ends.TheVariants.{SpaceOrLine}
use Rattle.fo_text.specs.Answers.{IsWord}
use Rattle.fo_text.specs.AnswerSpellings.{word_text, inst_word}
use Rattle.fo_text.specs.AnswerReads.{IsItem, item_text, IsEnded, ended_text}
use Rattle.fo_text.proofs.NumberedLines.{line_so_far}
use Rattle.fo_text.proofs.AnswerPieces.{instance-first, instance-next}
use Rattle.fo_text.proofs.AnswerReading.{inst-stop}
use Rattle.fo_text.proofs.steps.instance.Goals as goal

pub returns-in_err-parent-clause-refused : goal.returns-in_err-parent-clause-refused
returns-in_err-parent-clause-refused c =
    let p = err_from_is_err_and c.from_residual.result c.from_residual.ensures.1 in
    rw (p.1, p.2) (stop-behind IsItem item_text (IsNumberWord 0 most_number SpaceOrLine) number_word (inst_word ++ c.args.input.now) c.args.input.now (λ k r. inst-stop c.args.input.now k (instance-first c.args.input.now k r)) c.in_err-parent.field-0.0 c.in_err-parent.ensures.refused)

pub returns-in_err-found-clause-refused : goal.returns-in_err-found-clause-refused
returns-in_err-found-clause-refused c =
    let p = err_from_is_err_and c.from_residual-in_err-found.result c.from_residual-in_err-found.ensures.1 in
    let n = c.in_ok-parent.parent in
    let l = c.loop-tail in
    rw (p.1, p.2) (stop-behind IsItem item_text (IsEnded 32 IsWord) (ended_text word_text) (inst_word ++ c.args.input.now) c.in-Some.tail.now
    (λ k r. inst-stop c.args.input.now k (instance-next n l.words c.args.input.now c.in-Some.tail.now k c.in_ok-parent.ensures.read.not_above l.invariant.1 (line_so_far 32 word_text n l.words c.in-Some.tail.now c.args.input.now l.rest.now l.invariant.0 c.in-Some.ensures) r))
    c.in_err-found.field-0.0 c.in_err-found.ensures.refused)
