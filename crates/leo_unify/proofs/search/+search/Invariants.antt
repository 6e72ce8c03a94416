use Rattle.std.proofs.Common.{ℕ, ◌≡◌, ◌+◌, ◌*◌, ◌≤◌, List, length, map, take}
use Rattle.leo_terms.specs.Contents.{Extends, tree_at}
use Rattle.leo_terms.specs.Tree.{type_of}
use Rattle.leo_unify.specs.Search.{Solution, Finds, FindsAmong, with_binding}
use Rattle.leo_unify.specs.Solutions.{sigma_at, AreSigmasOf}
use Rattle.leo_unify.specs.States.{state_at, IsStateOf}
use Rattle.leo_unify.specs.Views.{binding_at}
use Rattle.leo_unify.proofs.search.+search.Given as goal

abbrev pub decreases-search : goal.decreases-search
decreases-search l = 2 * l.depth + 1

abbrev pub decreases-search_all : goal.decreases-search_all
decreases-search_all l = 2 * l.depth + 2

abbrev pub invariant-search-loop : goal.invariant-search-loop
invariant-search-loop l =
    Extends l.initial.bank l.bank ×
    IsStateOf l.bank l.present ×
    (map type_of (map (tree_at l.bank) l.present.terms) ≡ map type_of (map (tree_at l.initial.bank) l.fn.state.terms)) ×
    ((xs : List Solution) → Finds l.wanted (state_at l.bank l.present l.depth) xs → Finds l.wanted (state_at l.initial.bank l.fn.state l.depth) xs)

abbrev pub invariant-search_all-loop-place : goal.invariant-search_all-loop-place
invariant-search_all-loop-place l =
    Extends l.initial.bank l.bank ×
    (length l.found ≤ l.wanted) ×
    AreSigmasOf l.bank (map type_of (map (tree_at l.initial.bank) l.state.terms)) l.found ×
    ((d : ℕ) → FindsAmong l.wanted (take l.place (map (with_binding (state_at l.initial.bank l.state d) l.depth) (map (binding_at l.initial.bank) l.bindings))) (map (sigma_at l.bank) l.found))
