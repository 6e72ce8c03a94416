use Rattle.std.proofs.Common.{◌≡◌, ◌∙◌, List, slice_get, ap, sym}
use Rattle.fo_text.specs.declared.problem.FoLit.{FoLit}
use Rattle.fo_replay.specs.Replays.{images}
use Rattle.fo_replay.specs.Instances.{as_terms}
use Rattle.fo_super.proofs.Worked.{leading-into}
use Rattle.fo_super.proofs.conditions.is_leading_into.Goals as goal

pub returns : goal.returns
returns c =
    leading-into (images (as_terms c.args.terms.now)) c.args.count c.args.receiver.now c.args.place c.args.side c.in-Some.literal.now c.in_ok-is_leading.is_leading
    (ap (λ (x : List FoLit). slice_get x c.args.place) (sym c.in_ok-literals.ensures) ∙ sym c.in-Some.ensures.value)
    (rw (c.as_slice.ensures, c.in_ok-literals.ensures) at c.in_ok-is_leading.ensures)
