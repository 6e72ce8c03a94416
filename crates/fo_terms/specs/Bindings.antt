-- Bindings that share: each is a variable with the place of its term, whose own variables may be
-- bound before or after it. Together they stand for one substitution.
use Rattle.std.specs.Prelude.{ℕ, suc, ◌||◌, false, ◌≡◌, ◌≢◌, ◌<◌, ◌≤◌, ◌+◌, Bool, true, List, [], ◌∷◌, Some, length, slice_get, nat_eq, fold, if◌then◌else◌, MatchOption}
use Rattle.std.specs.Ordering.{nat_cmp}
use Rattle.std.specs.BTreeMap.{BTreeMap, get}
use Rattle.fo_terms.specs.declared.term.FoNode.{FoNode}
use Rattle.fo_terms.specs.declared.term.FoNode.TheVariants.{Var, Sym}
use Rattle.fo_terms.specs.declared.bindings.Binding.{Binding}
use Rattle.fo_terms.specs.declared.walk.Span.{Span}
use Rattle.fo_terms.specs.Reading.{joined}
use Rattle.fo_terms.specs.Terms.{Term, Terms, variable, none, count, occurs, first_terms}
use Rattle.fo_terms.specs.Substitutions.{Substitution, apply, apply_to_all}
use Rattle.fo_terms.specs.Places.{terms_at, term_at}

-- the substitution that replaces one variable
abbrev pub single : ℕ → Term → Substitution
single v t w = if nat_eq w v then t else variable w

-- a substitution with a binding put after it
abbrev pub extended : List FoNode → Substitution → Binding → Substitution
extended ns s b w = apply (single b.variable (apply s (term_at ns b.place))) (s w)

-- the substitution of bindings, the oldest first
unfoldable pub solution : List FoNode → List Binding → Substitution
solution ns bs = fold (extended ns) variable bs

-- no binding has the variable
abbrev pub IsFree : List Binding → ℕ → Type 0
IsFree bs v = (k : ℕ) (b : Binding) → slice_get bs k ≡ Some b → b.variable ≢ v

-- the k-th binding has the variable
abbrev pub Binds : List Binding → ℕ → ℕ → Type 0
Binds bs k v = (b : Binding) × (slice_get bs k ≡ Some b) × (b.variable ≡ v)

-- if a bound variable stands at the place, its binding is not among the first
abbrev pub LeadsPast : List FoNode → List Binding → ℕ → ℕ → Type 0
LeadsPast ns bs from at = (w k : ℕ) → slice_get ns at ≡ Some (Var w) → Binds bs k w → from ≤ k

-- a variable that stands at the place is free
abbrev pub IsResolved : List FoNode → List Binding → ℕ → Type 0
IsResolved ns bs at = (w : ℕ) → slice_get ns at ≡ Some (Var w) → IsFree bs w

-- the variable that the k-th binding binds stands at the place
abbrev pub IsBoundAt : List FoNode → List Binding → ℕ → ℕ → Type 0
IsBoundAt ns bs k at = (b : Binding) × (slice_get bs k ≡ Some b) × (slice_get ns at ≡ Some (Var b.variable))

-- what holds of bindings that each were made for a free variable, with a term in which it does not occur
pub record AreBindings (ns : List FoNode) (bs : List Binding) : Type 0 where
  pub bound : (k : ℕ) (b : Binding) → slice_get bs k ≡ Some b → solution ns bs b.variable ≡ apply (solution ns bs) (term_at ns b.place)
  pub free : (v : ℕ) → IsFree bs v → solution ns bs v ≡ variable v
  pub images : (w v : ℕ) → occurs v (solution ns bs w) ≡ true → IsFree bs v
  pub inside : (k : ℕ) (b : Binding) → slice_get bs k ≡ Some b → b.place < length ns
  pub once : (i j : ℕ) (b c : Binding) → slice_get bs i ≡ Some b → slice_get bs j ≡ Some c → b.variable ≡ c.variable → i ≡ j
  pub ordered : (k : ℕ) (b : Binding) → slice_get bs k ≡ Some b → LeadsPast ns bs (suc k) b.place

-- what holds of bindings that each were made for a free variable: from a variable they lead to later bindings
pub record AreMade (ns : List FoNode) (bs : List Binding) : Type 0 where
  pub inside : (k : ℕ) (b : Binding) → slice_get bs k ≡ Some b → b.place < length ns
  pub once : (i j : ℕ) (b c : Binding) → slice_get bs i ≡ Some b → slice_get bs j ≡ Some c → b.variable ≡ c.variable → i ≡ j
  pub ordered : (k : ℕ) (b : Binding) → slice_get bs k ≡ Some b → LeadsPast ns bs (suc k) b.place

-- applying the second substitution before the first changes nothing
abbrev pub Absorbs : Substitution → Substitution → Type 0
Absorbs r s = (w : ℕ) → apply r (s w) ≡ r w

-- the substitution makes each bound variable what it makes of the term that it is bound to
abbrev pub Obeys : List FoNode → List Binding → Substitution → Type 0
Obeys ns bs r = (k : ℕ) (b : Binding) → slice_get bs k ≡ Some b → r b.variable ≡ apply r (term_at ns b.place)

-- the map has each bound variable with the number of its binding
abbrev pub IsIndexed : List Binding → BTreeMap ℕ ℕ → Type 0
IsIndexed bs m = (v : ℕ) → MatchOption (get nat_cmp m v) (IsFree bs v) (λ k. Binds bs k v)

-- a span is some terms in a row, at least one, all of which stand in the list
pub record IsSpan (ns : List FoNode) (span : Span) : Type 0 where
  pub some : 0 < span.count
  pub within : span.count ≤ count (terms_at ns span.at)

-- what a substitution makes of the terms of spans, the last span first
abbrev pub pending : List FoNode → Substitution → List Span → Terms
pending ns s [] = none
pending ns s (x ∷ xs) = joined (pending ns s xs) (apply_to_all s (first_terms x.count (terms_at ns x.at)))

-- the bindings are a most general solution: exactly the substitutions that absorb them make the terms one
pub record IsSolution (ns : List FoNode) (bs : List Binding) (left right : Term) : Type 0 where
  pub bindings : AreBindings ns bs
  pub from : (r : Substitution) → apply r left ≡ apply r right → Absorbs r (solution ns bs)
  pub back : (r : Substitution) → Absorbs r (solution ns bs) → apply r left ≡ apply r right

-- the bindings say what the two terms need to be one: exactly the substitutions that obey them make them one
pub record IsLoose (ns : List FoNode) (bs : List Binding) (left right : Term) : Type 0 where
  pub made : AreMade ns bs
  pub from : (r : Substitution) → apply r left ≡ apply r right → Obeys ns bs r
  pub back : (r : Substitution) → Obeys ns bs r → apply r left ≡ apply r right

-- how many places have a variable that is not bound
abbrev pub is_bound : List Binding → ℕ → Bool
is_bound [] v = false
is_bound (b ∷ bs) v = nat_eq b.variable v || is_bound bs v

abbrev pub open_places : List Binding → List FoNode → ℕ
open_places bs [] = 0
open_places bs (Var v ∷ ns) = (if is_bound bs v then 0 else 1) + open_places bs ns
open_places bs (Sym f k ∷ ns) = open_places bs ns

-- a bound variable with what the bindings make of it
abbrev pub pair_of : List FoNode → List Binding → Binding → ℕ × Term
pair_of ns bs b = (b.variable, apply (solution ns bs) (term_at ns b.place))
