use Rattle.std.proofs.Common.{ap, sym, ◌∙◌}
use Rattle.leo_syntax.specs.declared.tree.TypeNode.TheOpen.{TypeNode-F}
use Rattle.leo_elab.specs.Typings as typings
use Rattle.leo_elab.proofs.Tops.{base-top, arrow-top}
use Rattle.leo_elab.proofs.checking.+are_alike.Goals as goal

pub returns-in-Base-node-clause-yes : goal.returns-in-Base-node-clause-yes
returns-in-Base-node-clause-yes t c = λ e. typings.words (base-top _ _ c.in-Base.is) (base-top _ _ c.in-Base-node.is ∙ ap TypeNode-F.Base (sym (c.are_same.ensures.yes e)))

pub returns-then-domains-clause-yes : goal.returns-then-domains-clause-yes
returns-then-domains-clause-yes t c = λ e. typings.functions (arrow-top _ _ _ c.in-Arrow.is) (arrow-top _ _ _ c.in-Arrow-node-2.is)
    (rw (c.get.ensures, c.get-in-Arrow-node-2.ensures) at (c.in_ok-domains-in-Arrow-node-2.ensures.yes c.if-domains.true))
    (rw (c.get-in-Arrow-node-2-2.ensures, c.get-in-Arrow-node-2-3.ensures) at (c.in_ok-ranges-in-Arrow-node-2.ensures.yes e))
