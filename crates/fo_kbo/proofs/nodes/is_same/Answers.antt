use Rattle.std.proofs.Common.{◌∙◌, sym}
use Rattle.fo_kbo.proofs.SameNodes.{nodes_same, nodes_refl}
use Rattle.fo_kbo.proofs.nodes.is_same.Goals as goal

pub returns : goal.returns
returns c = (
  (λ t. nodes_same c.args.left.now c.args.right.now (sym c.eq.ensures ∙ t)),
  (λ e. c.eq.ensures ∙ rw e (nodes_refl c.args.right.now)),
)
