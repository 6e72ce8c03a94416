use Rattle.std.proofs.Common.{arith}
use Rattle.std.proofs.lemmas.List.{length-map}
use Rattle.leo_kernel.specs.Steps.{line_at}
use Rattle.leo_derive.proofs.Marked.{below_more}
use Rattle.leo_derive.proofs.Records.{line_stands}
use Rattle.leo_derive.proofs.marking.step.Goals as goal

pub look-requires-clause-number : goal.look-requires-clause-number
look-requires-clause-number c =
    let stands = line_stands c.args.bank.now c.args.lines.now c.args.number c.index-lines-number.result c.requires.number c.index-lines-number.is in
    let reached = c.reach.ensures _ c.args.goal c.requires.order stands c.requires.marked in
    omega (arith, reached.from_next.length_is, length-map c.args.lines.now (line_at c.args.bank.now), c.requires.number)

pub look-requires-clause-named : goal.look-requires-clause-named
look-requires-clause-named c =
    let stands = line_stands c.args.bank.now c.args.lines.now c.args.number c.index-lines-number.result c.requires.number c.index-lines-number.is in
    let reached = c.reach.ensures _ c.args.goal c.requires.order stands c.requires.marked in
    below_more c.args.number _ _ (omega (arith, reached.from_next.length_is, length-map c.args.lines.now (line_at c.args.bank.now), c.requires.number)) (c.requires.order.named_earlier c.args.number _ stands)

pub returns-clause-marked : goal.returns-clause-marked
returns-clause-marked c =
    let stands = line_stands c.args.bank.now c.args.lines.now c.args.number c.index-lines-number.result c.requires.number c.index-lines-number.is in
    let reached = c.reach.ensures _ c.args.goal c.requires.order stands c.requires.marked in
    c.in_ok-look.ensures.marked _ c.args.goal c.requires.order stands reached
