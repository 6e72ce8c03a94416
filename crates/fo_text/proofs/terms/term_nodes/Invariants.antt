use Rattle.std.proofs.Common.{length}
use Rattle.std.specs.Prelude.{reverse}
use Rattle.fo_text.specs.Terms.{AreRead}
use Rattle.fo_text.proofs.terms.term_nodes.Given as goal

abbrev pub invariant-loop-next : goal.invariant-loop-next
invariant-loop-next l = AreRead l.names.vars.now l.names.syms.now l.names.usable.now l.fn.want l.after l.input l.nodes.items (reverse l.wants.items) l.rest

abbrev pub decreases-loop-next : goal.decreases-loop-next
decreases-loop-next l = length l.rest
