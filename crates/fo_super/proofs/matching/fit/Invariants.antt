use Rattle.std.proofs.Common.{length}
use Rattle.fo_terms.specs.Prefix.{term_of}
use Rattle.fo_super.proofs.Matched.{IsMatching}
use Rattle.fo_super.proofs.matching.fit.Given as goal

abbrev pub invariant-loop-node : goal.invariant-loop-node
invariant-loop-node l = IsMatching l.clause.vars l.other.vars l.syms l.fn.bindings.items (term_of l.pattern) (term_of l.nodes) l.bindings.items l.left l.right

abbrev pub decreases-loop-node : goal.decreases-loop-node
decreases-loop-node l = length l.left
