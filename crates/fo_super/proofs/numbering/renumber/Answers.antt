use Rattle.std.proofs.Common.{◌∙◌}
use Rattle.fo_super.proofs.Naming.{renumbered-at, renumbered-behind}
use Rattle.fo_super.proofs.numbering.renumber.Goals as goal

pub returns-in_ok-number-in-Some : goal.returns-in_ok-number-in-Some
returns-in_ok-number-in-Some c = c.in_ok-number-in-Some.ensures ∙ renumbered-at c.args.names.now c.args.variable c.in-Some.place c.in-Some.ensures

pub returns-in_ok-number-in-None : goal.returns-in_ok-number-in-None
returns-in_ok-number-in-None c = renumbered-behind c.args.names.now c.args.variable c.in_ok-number-in-None.number c.in-None.ensures c.in_ok-number-in-None.ensures
