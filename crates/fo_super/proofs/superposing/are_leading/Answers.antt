use Rattle.std.proofs.Common.{length}
use Rattle.fo_replay.specs.Replays.{images}
use Rattle.fo_replay.specs.Instances.{as_terms}
use Rattle.fo_super.specs.Working.{IsLeadingInto, IsLeadingUnder}
use Rattle.fo_super.proofs.Answering.{decides-both, not-both}
use Rattle.fo_super.proofs.superposing.are_leading.Goals as goal

pub returns-then-not-branch : goal.returns-then-not-branch
returns-then-not-branch c =
    not-both {P = IsLeadingUnder (images (as_terms c.args.terms.now)) c.args.giver.now.lits c.args.side c.args.equation.now} {Q = IsLeadingInto (images (as_terms c.args.terms.now)) (length c.args.giver.now.vars) c.args.receiver.now c.args.place c.args.place_side}
    c.in_ok-is_leading_under.field-0 (rw c.as_slice.ensures at c.in_ok-is_leading_under.ensures) c.if-not-branch.true

pub returns : goal.returns
returns c =
    decides-both {P = IsLeadingUnder (images (as_terms c.args.terms.now)) c.args.giver.now.lits c.args.side c.args.equation.now} {Q = IsLeadingInto (images (as_terms c.args.terms.now)) (length c.args.giver.now.vars) c.args.receiver.now c.args.place c.args.place_side}
    c.in_ok-is_leading_under.field-0 c.in_ok-is_leading.is_leading (rw c.as_slice.ensures at c.in_ok-is_leading_under.ensures) c.if-not-branch.false (rw c.in_ok-count.ensures at c.in_ok-is_leading.ensures)
