use Rattle.std.proofs.Common.{map, length, arith, ◌≡◌}
use Rattle.std.proofs.lemmas.List.{length-map}
use Rattle.std.proofs.lemmas.Result.{err_from_is_err_and}
use Rattle.leo_terms.specs.Contents.{tree_at}
use Rattle.leo_terms.proofs.CallerLemmas.{extends-itself, extends-trans, are_terms-kept}
use Rattle.leo_kernel.specs.Steps.{line_at}
use Rattle.leo_kernel.proofs.LinesGrowing.{lines-grow}
use Rattle.leo_derive.proofs.Checked.{accepted_none, accepted_more, accepted_all, accepted_kept, refused_at, refused_kept, empty_kept, none_kept, none_empty}
use Rattle.leo_derive.proofs.checking.check_lines.Goals as goal

pub loop-number-init : goal.loop-number-init
loop-number-init c = (extends-itself c.is_sound.ensures.sound, accepted_none (map (tree_at c.args.bank.now) c.args.hyps.now) (map (line_at c.args.bank.now) c.args.lines.now))

pub check_line-requires-clause-hypotheses : goal.check_line-requires-clause-hypotheses
check_line-requires-clause-hypotheses c = are_terms-kept c.loop-number.invariant.0 c.args.hyps.now c.requires.hypotheses

pub check_line-requires-clause-lines : goal.check_line-requires-clause-lines
check_line-requires-clause-lines c = lines-grow c.loop-number.invariant.0 c.args.lines.now c.requires.lines

pub returns-in_err-check_line-clause-verdict : goal.returns-in_err-check_line-clause-verdict
returns-in_err-check_line-clause-verdict c =
    let p = err_from_is_err_and c.from_residual.result c.from_residual.ensures.1 in
    let refusal = refused_kept c.loop-number.invariant.0 c.args.hyps.now c.args.lines.now c.requires.hypotheses c.requires.lines c.loop-number.number c.in_err-check_line.field-0.0 c.in_err-check_line.ensures.refusal in
    rw (p.1, p.2) (refused_at (map (tree_at c.args.bank.now) c.args.hyps.now) (map (line_at c.args.bank.now) c.args.lines.now) c.in_err-check_line.field-0.0 c.loop-number.invariant.1 refusal)

pub returns-in_err-check_line-clause-grows : goal.returns-in_err-check_line-clause-grows
returns-in_err-check_line-clause-grows c = extends-trans c.loop-number.invariant.0 c.check_line.ensures.grows

pub loop-number-preserved : goal.loop-number-preserved
loop-number-preserved c =
    let one = accepted_kept c.loop-number.invariant.0 c.args.hyps.now c.args.lines.now c.requires.hypotheses c.requires.lines c.loop-number.number c.in_ok-check_line.ensures.accepted in
    (extends-trans c.loop-number.invariant.0 c.check_line.ensures.grows, accepted_more (map (tree_at c.args.bank.now) c.args.hyps.now) (map (line_at c.args.bank.now) c.args.lines.now) c.loop-number.invariant.1 one)

pub returns-in-Some-clause-verdict : goal.returns-in-Some-clause-verdict
returns-in-Some-clause-verdict c =
    let m = length-map c.args.lines.now (line_at c.args.bank.now) in
    let e : c.loop-number.number ≡ length (map (line_at c.args.bank.now) c.args.lines.now) = omega (arith, m) in (
      accepted_all (map (tree_at c.args.bank.now) c.args.hyps.now) (map (line_at c.args.bank.now) c.args.lines.now) e c.loop-number.invariant.1,
      empty_kept c.loop-number.invariant.0 c.args.hyps.now c.args.lines.now c.requires.hypotheses c.requires.lines c.in-Some.field-0 c.in-Some.ensures.some,
    )

pub returns-in-None-clause-verdict : goal.returns-in-None-clause-verdict
returns-in-None-clause-verdict c =
    let m = length-map c.args.lines.now (line_at c.args.bank.now) in
    let e : c.loop-number.number ≡ length (map (line_at c.args.bank.now) c.args.lines.now) = omega (arith, m) in
    let f : length c.args.lines.now ≡ length (map (line_at c.args.bank.now) c.args.lines.now) = omega (arith, m) in
    none_empty f (accepted_all (map (tree_at c.args.bank.now) c.args.hyps.now) (map (line_at c.args.bank.now) c.args.lines.now) e c.loop-number.invariant.1)
    (none_kept c.loop-number.invariant.0 c.args.hyps.now c.args.lines.now c.requires.hypotheses c.requires.lines c.in-None.ensures.none)
