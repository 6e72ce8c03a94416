use Rattle.std.proofs.lemmas.Result.{err_from_is_err_and}
use Rattle.fo_text.proofs.Composing.{stop-behind}
use Rattle.fo_text.specs.AnswerSpellings.{path_text, para_word}
use Rattle.fo_text.specs.AnswerReads.{IsItem, item_text, IsPlace, place_word, IsPath}
use Rattle.std.proofs.Common.{◌++◌}
use Rattle.fo_text.proofs.AnswerReading.{para-first, para-second, para-third}
use Rattle.fo_text.proofs.steps.paramodulation.Goals as goal

pub returns-in_err-from-clause-refused : goal.returns-in_err-from-clause-refused
returns-in_err-from-clause-refused c =
    let p = err_from_is_err_and c.from_residual.result c.from_residual.ensures.1 in
    rw (p.1, p.2) (stop-behind IsItem item_text IsPlace place_word (para_word ++ c.args.input.now) c.args.input.now (λ k r. para-first c.args.input.now k r) c.in_err-from.field-0.0 c.in_err-from.ensures.refused)

pub returns-in_err-target-clause-refused : goal.returns-in_err-target-clause-refused
returns-in_err-target-clause-refused c =
    let p = err_from_is_err_and c.from_residual-in_err-target.result c.from_residual-in_err-target.ensures.1 in
    let a = c.in_ok-from in
    rw (p.1, p.2) (stop-behind IsItem item_text IsPlace place_word (para_word ++ c.args.input.now) a.one.now (λ k r. para-second a.from c.args.input.now a.one.now k a.ensures.read.0 a.ensures.read.1 r) c.in_err-target.field-0.0 c.in_err-target.ensures.refused)

pub returns-in_err-path-clause-refused : goal.returns-in_err-path-clause-refused
returns-in_err-path-clause-refused c =
    let p = err_from_is_err_and c.from_residual-in_err-path.result c.from_residual-in_err-path.ensures.1 in
    let a = c.in_ok-from in
    let b = c.in_ok-target in
    rw (p.1, p.2) (stop-behind IsItem item_text IsPath path_text (para_word ++ c.args.input.now) b.two.now (λ k r. para-third a.from b.target c.args.input.now a.one.now b.two.now k a.ensures.read.0 b.ensures.read.0 a.ensures.read.1 b.ensures.read.1 r) c.in_err-path.field-0.0 c.in_err-path.ensures.refused)
