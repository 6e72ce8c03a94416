-- Steps of a walk over the leaves of a term.
use Rattle.std.proofs.Common.{ℕ, nat_eq, ◌≡◌, ◌∙◌, Bool, true, false, ◌&&◌, List, [], ◌∷◌, ◌++◌, map, refl, sym, arith}
use Rattle.std.specs.Bool.{if◌then◌else◌}
use Rattle.std.specs.List.{list_any}
use Rattle.std.proofs.lemmas.Bool.{and_parts}
use Rattle.std.proofs.lemmas.Bool.Decides.{nat_tests}
use Rattle.leo_terms.specs.Contents.{Contents, tree_at, type_at}
use Rattle.leo_kernel.specs.declared.leaves.LeafTest.{LeafTest}
use Rattle.leo_kernel.specs.declared.leaves.Visit.{Visit}
use Rattle.leo_kernel.specs.Leaves.{leaves_pass}
use Rattle.leo_kernel.specs.Visits.{HavePassed}
use Rattle.leo_kernel.proofs.Lists.{any-at, each-more}

pub both-pass : (a b p q : Bool) → a ≡ p → a ≡ true → b ≡ q → b ≡ (p && q)
both-pass a b p q e t f = let h : p ≡ true = sym e ∙ t in rw (h, f) refl

pub first-fails : (a p q : Bool) → a ≡ p → a ≡ false → false ≡ (p && q)
first-fails a p q e t = let h : p ≡ false = sym e ∙ t in rw h refl

equal-numbers : (m n : ℕ) → nat_eq m n ≡ true → m ≡ n
equal-numbers m n h = grind (arith, nat_tests)

module _ (c : Contents) (test : LeafTest) (vars : List ℕ) where
  passes : ℕ → ℕ → Bool
  passes t depth = leaves_pass test (map (type_at c) vars) depth (tree_at c t)

  -- a visited term passes
  pub visited-passes : (t depth : ℕ) (visits : List Visit) → HavePassed c test vars visits → list_any (λ (v : Visit). nat_eq t v.term && nat_eq depth v.depth) visits ≡ true → leaves_pass test (map (type_at c) vars) depth (tree_at c t) ≡ true
  visited-passes t depth visits all h =
      any-at (λ (v : Visit). leaves_pass test (map (type_at c) vars) v.depth (tree_at c v.term) ≡ true) (leaves_pass test (map (type_at c) vars) depth (tree_at c t) ≡ true)
      (λ (v : Visit). nat_eq t v.term && nat_eq depth v.depth)
      (λ v e p. let q = and_parts (nat_eq t v.term) (nat_eq depth v.depth) e in rw (equal-numbers t v.term q.0, equal-numbers depth v.depth q.1) p)
      visits all h

  pub visited-more : (b : Bool) (t depth : ℕ) (visits : List Visit) → HavePassed c test vars visits → true ≡ leaves_pass test (map (type_at c) vars) depth (tree_at c t) → HavePassed c test vars (if b then visits else visits ++ (record { term = t; depth = depth }) ∷ [])
  visited-more b t depth visits all h =
      each-more (λ (v : Visit). leaves_pass test (map (type_at c) vars) v.depth (tree_at c v.term) ≡ true) b visits (record { term = t; depth = depth }) all (sym h)
