use Rattle.std.proofs.Common.{◌∙◌, ap, sym, ◌++◌}
use Rattle.fo_terms.specs.Prefix.{prefix}
use Rattle.fo_replay.proofs.Instancing.{images_at, images_past}
use Rattle.fo_super.proofs.applying.push_image.Goals as goal

pub returns-in_ok-push-in-None : goal.returns-in_ok-push-in-None
returns-in_ok-push-in-None c =
    rw c.in-Var.is (c.in_ok-push-in-None.ensures.items ∙ ap (λ t. c.args.out.now.items ++ prefix t) (sym (images_past c.args.terms.now c.in-Var.variable c.in-None.ensures)))

pub returns-in_ok-extend_from_slice-in-Some : goal.returns-in_ok-extend_from_slice-in-Some
returns-in_ok-extend_from_slice-in-Some c =
    rw c.in-Var.is (c.in_ok-extend_from_slice-in-Some.ensures.items ∙ ap (λ u. c.args.out.now.items ++ u) (c.nodes.ensures ∙ ap prefix (sym (images_at c.args.terms.now c.in-Var.variable c.in-Some.term.now c.in-Some.ensures))))
