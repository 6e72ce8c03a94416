use Rattle.std.proofs.Common.{◌≡◌, ◌+◌, ◌*◌, length}
use Rattle.fo_text.specs.declared.problem.FoLit.{FoLit}
use Rattle.fo_super.specs.Matching.{IsSentTo, SendsFirst}
use Rattle.fo_super.proofs.Answering.{NoneBelow}
use Rattle.fo_super.proofs.subsuming.+search.Given as goal

abbrev pub decreases-all_among : goal.decreases-all_among
decreases-all_among l = 4 * length l.pattern.now + 1

abbrev pub decreases-first_among : goal.decreases-first_among
decreases-first_among l = 4 * length l.rest.now + 4

abbrev pub decreases-first_at : goal.decreases-first_at
decreases-first_at l = 4 * length l.rest.now + 3

abbrev pub decreases-sides_at : goal.decreases-sides_at
decreases-sides_at l = 4 * length l.rest.now + 2

abbrev pub invariant-first_among-loop-literal : goal.invariant-first_among-loop-literal
invariant-first_among-loop-literal l =
    NoneBelow (λ (k : FoLit). SendsFirst l.clause.vars l.other.vars l.syms l.fn.bindings.items (IsSentTo l.clause.vars l.other.vars l.syms l.first k) l.rest l.other.lits) l.other.lits l.literal-index
    × (l.bindings.items ≡ l.fn.bindings.items)
