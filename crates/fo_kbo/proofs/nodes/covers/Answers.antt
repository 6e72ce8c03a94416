use Rattle.std.proofs.Common.{◌∙◌, sym}
use Rattle.fo_kbo.proofs.CountedNodes.{Covers-from, Covers-to}
use Rattle.fo_kbo.proofs.nodes.covers.Goals as goal

pub returns : goal.returns
returns c = (
  (λ t. Covers-from c.args.left.now c.args.right.now c.requires.left c.requires.right (sym c.are_covered.ensures ∙ t)),
  (λ h. c.are_covered.ensures ∙ Covers-to c.args.left.now c.args.right.now c.requires.left c.requires.right h),
)
