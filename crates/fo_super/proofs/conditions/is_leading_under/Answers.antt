use Rattle.fo_replay.specs.Replays.{images}
use Rattle.fo_replay.specs.Instances.{as_terms}
use Rattle.fo_super.specs.Conclusions.{IsMaximalUnder, IsSideUnder}
use Rattle.fo_super.proofs.Answering.{decides-too}
use Rattle.fo_super.proofs.conditions.is_leading_under.Goals as goal

pub returns : goal.returns
returns c =
    decides-too {P = IsMaximalUnder (images (as_terms c.args.terms.now)) c.args.literals.now c.args.literal.now} {Q = IsSideUnder (images (as_terms c.args.terms.now)) c.args.side c.args.literal.now}
    c.in_ok-is_side_under.field-0 c.in_ok-is_maximal.is_maximal c.in_ok-is_side_under.ensures c.if-not-branch.false c.in_ok-is_maximal.ensures
