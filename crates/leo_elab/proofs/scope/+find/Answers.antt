use Rattle.std.proofs.Common.{◌≡◌, ◌∙◌, ◌++◌, sym, ap, [], ◌∷◌, ◌++◌, List, length, ℕ}
use Rattle.leo_elab.specs.declared.scope.Bound.{Bound}
use Rattle.leo_elab.specs.Problem.{bound_to}
use Rattle.leo_elab.specs.Places.{scope_in}
use Rattle.leo_elab.proofs.Places.{bound-front}
use Rattle.std.proofs.Common.{take, ◌-◌}
use Rattle.leo_elab.proofs.Places.{last-of, find-here, find-there}
use Rattle.leo_elab.proofs.scope.+find.Goals as goal

pub returns-then-eq-clause-found : goal.returns-then-eq-clause-found
returns-then-eq-clause-found t c = let xs : List Bound = c.args.scope.now in let x : Bound = c.last-item.result in let ys : List Bound = take (length xs - 1) xs in let e : ys ++ x ∷ [] ≡ xs = last-of xs x c.in-len1-up.len_at_least c.last-item.is in let q = rw c.as_slice.ensures at (sym c.if-eq.ensures) in let n : List ℕ = c.args.name.now in λ k. ap (λ (w : List Bound). bound_to n (scope_in k w)) (sym e) ∙ find-here k n ys x q

pub returns-then-eq-clause-within : goal.returns-then-eq-clause-within
returns-then-eq-clause-within t c = let xs : List Bound = c.args.scope.now in let x : Bound = c.last-item.result in let ys : List Bound = take (length xs - 1) xs in let e : ys ++ x ∷ [] ≡ xs = last-of xs x c.in-len1-up.len_at_least c.last-item.is in let q = rw c.as_slice.ensures at (sym c.if-eq.ensures) in let n : List ℕ = c.args.name.now in λ k h. (bound-front k ys x (rw e h)).1

pub returns-in-Some-clause-found : goal.returns-in-Some-clause-found
returns-in-Some-clause-found t c = let xs : List Bound = c.args.scope.now in let x : Bound = c.last-item.result in let ys : List Bound = take (length xs - 1) xs in let e : ys ++ x ∷ [] ≡ xs = last-of xs x c.in-len1-up.len_at_least c.last-item.is in let q = rw c.as_slice.ensures at (sym c.if-eq.ensures) in let n : List ℕ = c.args.name.now in λ k. ap (λ (w : List Bound). bound_to n (scope_in k w)) (sym e) ∙ find-there k n ys x q ∙ c.in-Some.ensures.found k

pub returns-in-Some-clause-within : goal.returns-in-Some-clause-within
returns-in-Some-clause-within t c = let xs : List Bound = c.args.scope.now in let x : Bound = c.last-item.result in let ys : List Bound = take (length xs - 1) xs in let e : ys ++ x ∷ [] ≡ xs = last-of xs x c.in-len1-up.len_at_least c.last-item.is in let q = rw c.as_slice.ensures at (sym c.if-eq.ensures) in let n : List ℕ = c.args.name.now in λ k h. c.in-Some.ensures.within k (bound-front k ys x (rw e h)).0

pub returns-in-None-clause-found : goal.returns-in-None-clause-found
returns-in-None-clause-found t c = let xs : List Bound = c.args.scope.now in let x : Bound = c.last-item.result in let ys : List Bound = take (length xs - 1) xs in let e : ys ++ x ∷ [] ≡ xs = last-of xs x c.in-len1-up.len_at_least c.last-item.is in let q = rw c.as_slice.ensures at (sym c.if-eq.ensures) in let n : List ℕ = c.args.name.now in λ k. ap (λ (w : List Bound). bound_to n (scope_in k w)) (sym e) ∙ find-there k n ys x q ∙ c.in-None.ensures.found k
