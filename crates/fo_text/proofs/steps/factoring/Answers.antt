use Rattle.std.proofs.lemmas.Result.{err_from_is_err_and}
use Rattle.fo_text.proofs.Composing.{stop-behind}
use Rattle.fo_text.specs.declared.answer.FoSide.{FoSide}
use Rattle.fo_text.specs.Answers.{IsSmall}
use Rattle.fo_text.specs.AnswerSpellings.{spaced_number, ended_side, factor_word}
use Rattle.fo_text.specs.AnswerReads.{IsItem, item_text, IsKind}
use Rattle.std.proofs.Common.{◌++◌}
use Rattle.fo_text.proofs.AnswerReading.{factor-first, factor-second, factor-third, factor-fourth}
use Rattle.fo_text.proofs.steps.factoring.Goals as goal

pub returns-in_err-parent-clause-refused : goal.returns-in_err-parent-clause-refused
returns-in_err-parent-clause-refused c =
    let p = err_from_is_err_and c.from_residual.result c.from_residual.ensures.1 in
    rw (p.1, p.2) (stop-behind IsItem item_text IsSmall spaced_number (factor_word ++ c.args.input.now) c.args.input.now (λ k r. factor-first c.args.input.now k r) c.in_err-parent.field-0.0 c.in_err-parent.ensures.refused)

pub returns-in_err-first-clause-refused : goal.returns-in_err-first-clause-refused
returns-in_err-first-clause-refused c =
    let p = err_from_is_err_and c.from_residual-in_err-first.result c.from_residual-in_err-first.ensures.1 in
    let a = c.in_ok-parent in
    rw (p.1, p.2) (stop-behind IsItem item_text IsSmall spaced_number (factor_word ++ c.args.input.now) a.one.now (λ k r. factor-second a.parent c.args.input.now a.one.now k a.ensures.read.0 a.ensures.read.1 r) c.in_err-first.field-0.0 c.in_err-first.ensures.refused)

pub returns-in_err-second-clause-refused : goal.returns-in_err-second-clause-refused
returns-in_err-second-clause-refused c =
    let p = err_from_is_err_and c.from_residual-in_err-second.result c.from_residual-in_err-second.ensures.1 in
    let a = c.in_ok-parent in
    let b = c.in_ok-first in
    rw (p.1, p.2) (stop-behind IsItem item_text IsSmall spaced_number (factor_word ++ c.args.input.now) b.two.now (λ k r. factor-third a.parent b.first c.args.input.now a.one.now b.two.now k a.ensures.read.0 b.ensures.read.0 a.ensures.read.1 b.ensures.read.1 r) c.in_err-second.field-0.0 c.in_err-second.ensures.refused)

pub returns-in_err-side-clause-refused : goal.returns-in_err-side-clause-refused
returns-in_err-side-clause-refused c =
    let p = err_from_is_err_and c.from_residual-in_err-side.result c.from_residual-in_err-side.ensures.1 in
    let a = c.in_ok-parent in
    let b = c.in_ok-first in
    let d = c.in_ok-second in
    rw (p.1, p.2) (stop-behind IsItem item_text (IsKind {T = FoSide}) (ended_side 10) (factor_word ++ c.args.input.now) d.three.now
    (λ k r. factor-fourth a.parent b.first d.second c.args.input.now a.one.now b.two.now d.three.now k a.ensures.read.0 b.ensures.read.0 d.ensures.read.0 a.ensures.read.1 b.ensures.read.1 d.ensures.read.1 r) c.in_err-side.field-0.0 c.in_err-side.ensures.refused)
