-- Equations between terms, taken apart. What they say is seen through a function of terms: through the
-- whole, which is what they say, or down to a depth.
use Rattle.std.specs.Prelude.{ℕ, suc, ◌≡◌, ◌≢◌, ◌<◌, ◌≤◌, ◌⊎◌, List, [], ◌++◌, Some, length, slice_get, sum_by, All}
use Rattle.fo_terms.specs.declared.term.FoNode.{FoNode}
use Rattle.fo_terms.specs.declared.term.FoNode.TheVariants.{Var, Sym}
use Rattle.fo_terms.specs.declared.bindings.Binding.{Binding}
use Rattle.fo_terms.specs.declared.bindings.Equation.{Equation}
use Rattle.fo_terms.specs.declared.solve.Opening.{Opening}
use Rattle.fo_terms.specs.declared.solve.Step.{Step}
use Rattle.fo_terms.specs.declared.solve.Step.TheVariants.{Split, Clash, Bind, Open}
use Rattle.fo_terms.specs.Terms.{Term, variable, symbol, count, first_terms}
use Rattle.fo_terms.specs.Substitutions.{Substitution, apply, apply_to_all}
use Rattle.fo_terms.specs.Places.{terms_at, term_at}
use Rattle.fo_terms.specs.Bindings.{IsFree, IsResolved, Obeys}
use Rattle.fo_terms.specs.Classes.{IsAlong}
use Rattle.fo_terms.specs.Depths.{mapped, cut, whole}

-- what is seen of what a substitution makes of the term at a place
abbrev pub seen : List FoNode → (Term → Term) → Substitution → ℕ → Term
seen ns h r p = h (apply r (term_at ns p))

-- what is seen of the two sides of an equation is one
abbrev pub Solves : List FoNode → (Term → Term) → Substitution → Equation → Type 0
Solves ns h r e = mapped h (apply_to_all r (first_terms e.count (terms_at ns e.left))) ≡ mapped h (apply_to_all r (first_terms e.count (terms_at ns e.right)))

-- an equation is between terms that stand in the list
pub record IsWithin (ns : List FoNode) (e : Equation) : Type 0 where
  pub left : e.count ≤ count (terms_at ns e.left)
  pub right : e.count ≤ count (terms_at ns e.right)

-- so often an equation is taken up until it is done
abbrev pub steps : Equation → ℕ
steps e = suc e.count

abbrev pub HaveDifferentHeads : Term → Term → Type 0
HaveDifferentHeads (variable v) u = ⊥
HaveDifferentHeads (symbol f ts) (variable w) = ⊥
HaveDifferentHeads (symbol f ts) (symbol g us) = (f ≢ g) ⊎ (count ts ≢ count us)

-- what the equation that a step found asks of a substitution: nothing where it was taken apart, that
-- different symbols are one, the binding where one side is a free variable, or that two classes are one
abbrev pub Wants : List FoNode → (Term → Term) → Substitution → Step → Type 0
Wants ns h r Split = Unit {0}
Wants ns h r Clash = (t : Term) × (u : Term) × HaveDifferentHeads t u × (h (apply r t) ≡ h (apply r u))
Wants ns h r (Bind b) = h (r b.variable) ≡ h (apply r (term_at ns b.place))
Wants ns h r (Open o) = seen ns h r o.left_root ≡ seen ns h r o.right_root

-- what makes the equation of a step hold
abbrev pub Grants : List FoNode → (Term → Term) → Substitution → Step → Type 0
Grants ns h r Split = Unit {0}
Grants ns h r Clash = ⊥
Grants ns h r (Bind b) = h (r b.variable) ≡ h (apply r (term_at ns b.place))
Grants ns h r (Open o) = seen ns h r o.left_root ≡ seen ns h r o.right_root

-- a binding may be made: its variable is free, and is not itself what stands at its place
pub record IsBindable (ns : List FoNode) (bs : List Binding) (b : Binding) : Type 0 where
  pub free : IsFree bs b.variable
  pub inside : b.place < length ns
  pub resolved : IsResolved ns bs b.place
  pub other : slice_get ns b.place ≢ Some (Var b.variable)
  pub stands : (at : ℕ) × (slice_get ns at ≡ Some (Var b.variable))

-- equal symbols stand at two places, whose classes are not one yet
pub record IsOpening (ns : List FoNode) (ps : List ℕ) (o : Opening) : Type 0 where
  pub left : ℕ
  pub right : ℕ
  pub symbol : ℕ
  pub left_is : slice_get ns left ≡ Some (Sym symbol o.arguments.count)
  pub right_is : slice_get ns right ≡ Some (Sym symbol o.arguments.count)
  pub left_place : o.arguments.left ≡ suc left
  pub right_place : o.arguments.right ≡ suc right
  pub left_root : slice_get ps o.left_root ≡ Some o.left_root
  pub right_root : slice_get ps o.right_root ≡ Some o.right_root
  pub left_same : (g : ℕ → Term) → IsAlong g ps → g o.left_root ≡ g left
  pub right_same : (g : ℕ → Term) → IsAlong g ps → g o.right_root ≡ g right
  pub apart : o.left_root ≢ o.right_root

abbrev pub CanTake : List FoNode → List Binding → List ℕ → Step → Type 0
CanTake ns bs ps Split = Unit {0}
CanTake ns bs ps Clash = Unit {0}
CanTake ns bs ps (Bind b) = IsBindable ns bs b
CanTake ns bs ps (Open o) = IsOpening ns ps o

-- what the equation of two terms comes to
pub record IsMove (ns : List FoNode) (bs : List Binding) (ps : List ℕ) (left right : ℕ) (step : Step) : Type 0 where
  pub can : CanTake ns bs ps step
  pub from : (h : Term → Term) (r : Substitution) → IsAlong (seen ns h r) ps → seen ns h r left ≡ seen ns h r right → Wants ns h r step
  pub back : (h : Term → Term) (r : Substitution) → IsAlong (seen ns h r) ps → Grants ns h r step → seen ns h r left ≡ seen ns h r right

-- a step changed a list of equations: it says, with what the step wants, the same as the equation and
-- the old list, and the new equations are taken up less often
pub record IsStep (ns : List FoNode) (bs : List Binding) (ps : List ℕ) (e : Equation) (old new : List Equation) (step : Step) : Type 0 where
  pub added : List Equation
  pub grown : new ≡ old ++ added
  pub within : All (IsWithin ns) added
  pub fewer : sum_by steps added < steps e
  pub can : CanTake ns bs ps step
  pub from : (h : Term → Term) (r : Substitution) → Obeys ns bs r → IsAlong (seen ns h r) ps → Solves ns h r e → All (Solves ns h r) added × Wants ns h r step
  pub back : (h : Term → Term) (r : Substitution) → Obeys ns bs r → IsAlong (seen ns h r) ps → All (Solves ns h r) added → Grants ns h r step → Solves ns h r e

-- equations were taken apart until one asked for a binding or for one class, or had no solution, or none was left
pub record IsSettled (ns : List FoNode) (bs : List Binding) (ps : List ℕ) (old new : List Equation) (step : Step) : Type 0 where
  pub within : All (IsWithin ns) new
  pub can : CanTake ns bs ps step
  pub all_done : step ≡ Split → new ≡ []
  pub from : (h : Term → Term) (r : Substitution) → Obeys ns bs r → IsAlong (seen ns h r) ps → All (Solves ns h r) old → All (Solves ns h r) new × Wants ns h r step
  pub back : (h : Term → Term) (r : Substitution) → Obeys ns bs r → IsAlong (seen ns h r) ps → All (Solves ns h r) new → Grants ns h r step → All (Solves ns h r) old

-- what makes two terms one obeys the bindings, has one value on each class and solves the equations; what
-- does so down to a depth makes the terms one to that depth, and has one value on each class a step deeper
pub record IsState (ns : List FoNode) (bs : List Binding) (ps : List ℕ) (left right : Term) (work : List Equation) : Type 0 where
  pub from : (r : Substitution) → apply r left ≡ apply r right → Obeys ns bs r × IsAlong (seen ns whole r) ps × All (Solves ns whole r) work
  pub deeper : (r : Substitution) (n : ℕ) → Obeys ns bs r → IsAlong (seen ns (cut n) r) ps → All (Solves ns (cut n) r) work → IsAlong (seen ns (cut (suc n)) r) ps
  pub back : (r : Substitution) (n : ℕ) → Obeys ns bs r → IsAlong (seen ns (cut n) r) ps → All (Solves ns (cut n) r) work → cut n (apply r left) ≡ cut n (apply r right)
