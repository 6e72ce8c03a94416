use Rattle.std.proofs.Common.{◌≡◌, ◌+◌, ◌*◌, length, map}
use Rattle.leo_terms.specs.Contents.{type_at}
use Rattle.leo_clause.specs.declared.clause.Lit.{Lit}
use Rattle.leo_clause.specs.Trees.{literal_at}
use Rattle.leo_keep.specs.Matching.{IsSame, SendsFirst}
use Rattle.leo_keep.proofs.Numbers.{NoneBelow}
use Rattle.leo_keep.proofs.subsuming.+search.Given as goal

abbrev pub decreases-all_among : goal.decreases-all_among
decreases-all_among l = 4 * length l.pattern.now + 1

abbrev pub decreases-first_among : goal.decreases-first_among
decreases-first_among l = 4 * length l.rest.now + 4

abbrev pub decreases-first_at : goal.decreases-first_at
decreases-first_at l = 4 * length l.rest.now + 3

abbrev pub decreases-sides_at : goal.decreases-sides_at
decreases-sides_at l = 4 * length l.rest.now + 2

abbrev pub invariant-first_among-loop-lit : goal.invariant-first_among-loop-lit
invariant-first_among-loop-lit l =
    NoneBelow (λ (k : Lit). SendsFirst l.bank (map (type_at l.bank) l.vars) l.fn.bindings.items (IsSame (literal_at l.bank l.first) (literal_at l.bank k)) (map (literal_at l.bank) l.rest) (map (literal_at l.bank) l.lits)) l.lits l.lit-index
    × (l.bindings.items ≡ l.fn.bindings.items)
