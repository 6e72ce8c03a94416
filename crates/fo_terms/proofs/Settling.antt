-- Equations taken apart one after the other.
use Rattle.std.proofs.Common.{ℕ, zero, suc, ◌+◌, ◌≡◌, ◌<◌, ◌≤◌, Bool, true, false, ◌||◌, List, [], ◌∷◌, ◌++◌, Some, refl, ◌∙◌, arith, rules}
use Rattle.std.specs.Prelude.{slice_get, nat_eq, All, sum_by, if◌then◌else◌}
use Rattle.std.proofs.lemmas.List.Elements.{All-nil, All-cons, All-head, All-tail, All-append, All-same}
use Rattle.std.proofs.lemmas.List.Sums.{sum_by-append}
use Rattle.fo_terms.specs.declared.term.FoNode.{FoNode}
use Rattle.fo_terms.specs.declared.term.FoNode.TheVariants.{Var, Sym}
use Rattle.fo_terms.specs.declared.bindings.Binding.{Binding}
use Rattle.fo_terms.specs.declared.bindings.Equation.{Equation}
use Rattle.fo_terms.specs.declared.solve.Step.{Step}
use Rattle.fo_terms.specs.Terms.{Term}
use Rattle.fo_terms.specs.Substitutions.{Substitution}
use Rattle.fo_terms.specs.Bindings.{IsFree, Obeys, is_bound, open_places}
use Rattle.fo_terms.specs.Classes.{IsAlong}
use Rattle.fo_terms.specs.Solving.{seen, IsWithin, Wants, Grants, Solves, steps, IsStep}

-- a list that splits has its property on both parts
pub All-left : {X : Type 0} (P : X → Type 0) (xs ys : List X) → All P (xs ++ ys) → All P xs
All-left P [] ys h = All-nil P
All-left P (x ∷ xs) ys h = All-cons P x xs (All-head P x (xs ++ ys) h) (All-left P xs ys (All-tail P x (xs ++ ys) h))

pub All-right : {X : Type 0} (P : X → Type 0) (xs ys : List X) → All P (xs ++ ys) → All P ys
All-right P [] ys h = h
All-right P (x ∷ xs) ys h = All-right P xs ys (All-tail P x (xs ++ ys) h)

module _ (ns : List FoNode) (bs : List Binding) (ps : List ℕ) (first work rest new : List Equation) (e : Equation) (step : Step) (popped : work ≡ rest ++ e ∷ []) (h : IsStep ns bs ps e rest new step) where
  pub settle-within : All (IsWithin ns) work → All (IsWithin ns) new
  settle-within w = All-same (IsWithin ns) new (rest ++ h.added) h.grown (All-append (IsWithin ns) rest h.added (All-left (IsWithin ns) rest (e ∷ []) (rw popped at w)) h.within)

  pub settle-fewer : sum_by steps new < sum_by steps work
  settle-fewer =
      let before : sum_by steps (rest ++ e ∷ []) ≡ sum_by steps rest + sum_by steps (e ∷ []) = sum_by-append steps rest (e ∷ []) in
      let after : sum_by steps (rest ++ h.added) ≡ sum_by steps rest + sum_by steps h.added = sum_by-append steps rest h.added in
      let few : sum_by steps h.added < steps e = h.fewer in
      rw (popped, h.grown) (omega arith)

  pub settle-from : (g : Term → Term) (r : Substitution) → Obeys ns bs r → IsAlong (seen ns g r) ps → (All (Solves ns g r) first → All (Solves ns g r) work) → All (Solves ns g r) first → All (Solves ns g r) new × Wants ns g r step
  settle-from g r o a before k =
      let all : All (Solves ns g r) (rest ++ e ∷ []) = rw popped at (before k) in
      let one = h.from g r o a (All-head (Solves ns g r) e [] (All-right (Solves ns g r) rest (e ∷ []) all)) in
      (All-same (Solves ns g r) new (rest ++ h.added) h.grown (All-append (Solves ns g r) rest h.added (All-left (Solves ns g r) rest (e ∷ []) all) one.0), one.1)

  pub settle-back : (g : Term → Term) (r : Substitution) → Obeys ns bs r → IsAlong (seen ns g r) ps → (All (Solves ns g r) work → All (Solves ns g r) first) → All (Solves ns g r) new → Grants ns g r step → All (Solves ns g r) first
  settle-back g r o a before k t =
      let all : All (Solves ns g r) (rest ++ h.added) = rw h.grown at k in
      let one : Solves ns g r e = h.back g r o a (All-right (Solves ns g r) rest h.added all) t in
      before (All-same (Solves ns g r) work (rest ++ e ∷ []) popped (All-append (Solves ns g r) rest (e ∷ []) (All-left (Solves ns g r) rest h.added all) (All-cons (Solves ns g r) e [] one (All-nil (Solves ns g r)))))

-- ---- how many places are open

or_false_left : (a b : Bool) → a ≡ false → (a || b) ≡ b
or_false_left true b h = absurd cc
or_false_left false b h = refl

is_bound-free : (bs : List Binding) (v : ℕ) → IsFree bs v → is_bound bs v ≡ false
is_bound-free [] v h = refl
is_bound-free (b ∷ bs) v h = go (is_bound-free bs v (λ k c q. h (suc k) c q)) (nat_eq b.variable v) refl
  where
    go : is_bound bs v ≡ false → (t : Bool) → nat_eq b.variable v ≡ t → (nat_eq b.variable v || is_bound bs v) ≡ false
    go others true e = let same : b.variable ≡ v = search rules in absurd (h 0 b refl same)
    go others false e = or_false_left (nat_eq b.variable v) (is_bound bs v) e ∙ others

is_bound-kept : (bs : List Binding) (b : Binding) (v : ℕ) → is_bound bs v ≡ true → is_bound (bs ++ b ∷ []) v ≡ true
is_bound-kept [] b v h = absurd cc
is_bound-kept (c ∷ bs) b v h = go (is_bound-kept bs b v) (nat_eq c.variable v) refl h
  where
    go : (is_bound bs v ≡ true → is_bound (bs ++ b ∷ []) v ≡ true) → (t : Bool) → nat_eq c.variable v ≡ t → (t || is_bound bs v) ≡ true → (nat_eq c.variable v || is_bound (bs ++ b ∷ []) v) ≡ true
    go others true e k = rw e refl
    go others false e k = rw e (others k)

is_bound-push : (bs : List Binding) (b : Binding) → is_bound (bs ++ b ∷ []) b.variable ≡ true
is_bound-push [] b = let e : nat_eq b.variable b.variable ≡ true = search rules in rw e refl
is_bound-push (c ∷ bs) b = go (is_bound-push bs b) (nat_eq c.variable b.variable)
  where
    go : is_bound (bs ++ b ∷ []) b.variable ≡ true → (t : Bool) → (t || is_bound (bs ++ b ∷ []) b.variable) ≡ true
    go others true = refl
    go others false = others

open_one : (s t : Bool) → (s ≡ true → t ≡ true) → (if t then 0 else 1) ≤ (if s then 0 else 1)
open_one true true h = omega arith
open_one true false h = let e : false ≡ true = h refl in cc
open_one false true h = omega arith
open_one false false h = omega arith

open_places-kept : (bs : List Binding) (b : Binding) (ns : List FoNode) → open_places (bs ++ b ∷ []) ns ≤ open_places bs ns
open_places-kept bs b [] = omega arith
open_places-kept bs b (Var v ∷ ns) =
    let one = open_one (is_bound bs v) (is_bound (bs ++ b ∷ []) v) (is_bound-kept bs b v) in
    let others = open_places-kept bs b ns in
    omega arith
open_places-kept bs b (Sym f k ∷ ns) = open_places-kept bs b ns

pub open_places-push : (bs : List Binding) (b : Binding) (ns : List FoNode) (at : ℕ) → IsFree bs b.variable → slice_get ns at ≡ Some (Var b.variable) → open_places (bs ++ b ∷ []) ns < open_places bs ns
open_places-push bs b [] at f h = absurd cc
open_places-push bs b (n ∷ ns) zero f h =
    let same : n ≡ Var b.variable = cc in
    let others = open_places-kept bs b ns in
    rw (same, is_bound-free bs b.variable f, is_bound-push bs b) (omega arith)
open_places-push bs b (Var v ∷ ns) (suc at) f h =
    let one = open_one (is_bound bs v) (is_bound (bs ++ b ∷ []) v) (is_bound-kept bs b v) in
    let others = open_places-push bs b ns at f h in
    omega arith
open_places-push bs b (Sym g k ∷ ns) (suc at) f h = open_places-push bs b ns at f h
