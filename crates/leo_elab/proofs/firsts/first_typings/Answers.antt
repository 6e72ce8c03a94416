use Rattle.std.proofs.Common.{ℕ, List, ◌∙◌, ap, ◌++◌}
use Rattle.leo_syntax.specs.declared.tree.TypeTree.{TypeTree}
use Rattle.leo_elab.specs.Pairs.{beyond}
use Rattle.leo_elab.specs.Typings.{first_typings}
use Rattle.leo_elab.proofs.Pairs.{beyond-nothing}
use Rattle.leo_elab.proofs.firsts.first_typings.Goals as goal

pub loop-typing-init : goal.loop-typing-init
loop-typing-init c =
    ap (λ (w : List (List ℕ × TypeTree)). w ++ beyond c.new-found.result (first_typings c.args.typings.now)) c.new-found.ensures
    ∙ beyond-nothing c.new-found.result (first_typings c.args.typings.now) c.new-found.ensures
