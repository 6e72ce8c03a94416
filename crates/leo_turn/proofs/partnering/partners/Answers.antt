use Rattle.std.proofs.Common.{rules, subst, List, ℕ}
use Rattle.std.specs.Prelude.{IsPermutation}
use Rattle.std.proofs.lemmas.List.Sorted.{IsNonDecreasingBy-from_sort}
use Rattle.leo_turn.proofs.Sorting.{partners-sorted}
use Rattle.leo_turn.proofs.partnering.partners.Goals as goal

pub returns : goal.returns
returns c = partners-sorted c.args.active.now c.args.given c.sort_unstable.new.self.items c.requires.once
    (subst (λ (ns : List ℕ). IsPermutation ns c.sort_unstable.new.self.items) (search rules) c.sort_unstable.ensures.permutation)
    (IsNonDecreasingBy-from_sort (λ n. n) _ c.sort_unstable.ensures.sorted)
