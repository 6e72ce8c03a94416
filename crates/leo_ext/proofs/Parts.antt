-- Terms at the places of a term, and heads: they are well typed, and terms over the same variables.
use Rattle.std.proofs.Common.{ℕ, ◌≡◌, ◌+◌, List, ◌++◌, map, refl, ◌∙◌, ap}
use Rattle.leo_q0.specs.Terms.{SimpleType, base, arrow}
use Rattle.leo_terms.specs.Tree.{Tree, variable, bound, symbol, app, lam, logic, absent, Connective, type_of}
use Rattle.leo_terms.specs.Typing.{IsWellTyped}
use Rattle.leo_clause.specs.Typed.{IsOver}
use Rattle.leo_para.specs.Places.{Place, argument_places, below_child, places, whole}
use Rattle.leo_para.specs.Spines.{applied_head, below_lambdas, head}
use Rattle.leo_ext.proofs.Each.{Each, each-append, each-map}

-- well typed, and a term over these variables below some lambdas
pub record IsPart (variables : List SimpleType) (t : Tree) : Type 0 where
  pub typed : IsWellTyped t
  pub depth : ℕ
  pub over : IsOver variables depth t

module _ (variables : List SimpleType) where
  part-function : (f x : Tree) → IsPart variables (app f x) → IsPart variables f
  part-function f x h = record { typed = h.typed.0; depth = h.depth; over = h.over.0 }

  part-argument : (f x : Tree) → IsPart variables (app f x) → IsPart variables x
  part-argument f x h = record { typed = h.typed.1; depth = h.depth; over = h.over.1 }

  part-body : (a : SimpleType) (t : Tree) → IsPart variables (lam a t) → IsPart variables t
  part-body a t h = record { typed = h.typed.0; depth = h.depth + 1; over = h.over }

  part-first : (c : Connective) (x y : Tree) → IsPart variables (logic c x y) → IsPart variables x
  part-first c x y h = record { typed = h.typed.0; depth = h.depth; over = h.over.0 }

  part-second : (c : Connective) (x y : Tree) → IsPart variables (logic c x y) → IsPart variables y
  part-second c x y h = record { typed = h.typed.1; depth = h.depth; over = h.over.1 }

  -- heads
  part-applied : (t : Tree) → IsPart variables t → IsPart variables (applied_head t)
  part-applied (app f x) h = part-applied f (part-function f x h)
  part-applied (variable n a) h = h
  part-applied (bound i a) h = h
  part-applied (symbol s a) h = h
  part-applied (lam a t) h = h
  part-applied (logic c x y) h = h
  part-applied absent h = h

  part-below : (t : Tree) → IsPart variables t → IsPart variables (below_lambdas t)
  part-below (lam a t) h = part-below t (part-body a t h)
  part-below (variable n a) h = h
  part-below (bound i a) h = h
  part-below (symbol s a) h = h
  part-below (app f x) h = h
  part-below (logic c x y) h = h
  part-below absent h = h

  pub part-head : (t : Tree) → IsPart variables t → IsPart variables (head t)
  part-head t h = part-applied (below_lambdas t) (part-below t h)

  -- places
  abbrev AtPlace : Place → Type 0
  AtPlace p = IsPart variables p.term

  whole-parts : (t : Tree) → IsPart variables t → Each AtPlace (whole t)
  whole-parts (variable n a) h = (h, tt)
  whole-parts (bound i a) h = (h, tt)
  whole-parts (symbol s a) h = (h, tt)
  whole-parts (app f x) h = (h, tt)
  whole-parts (lam a t) h = (h, tt)
  whole-parts (logic c x y) h = (h, tt)
  whole-parts absent h = tt

  below-parts : (n : ℕ) (ps : List Place) → Each AtPlace ps → Each AtPlace (map (below_child n) ps)
  below-parts n ps h = each-map AtPlace (below_child n) ps h

  argument-parts : (t : Tree) → IsPart variables t → Each AtPlace (argument_places t)
  argument-parts (app f x) h =
      let p = part-argument f x h in
      each-append AtPlace (map (below_child 0) (argument_places f)) (map (below_child 1) (whole x ++ argument_places x)) (below-parts 0 (argument_places f) (argument-parts f (part-function f x h)))
      (below-parts 1 (whole x ++ argument_places x) (each-append AtPlace (whole x) (argument_places x) (whole-parts x p) (argument-parts x p)))
  argument-parts (logic c x y) h =
      let p = part-first c x y h in
      let q = part-second c x y h in
      each-append AtPlace (map (below_child 0) (whole x ++ argument_places x)) (map (below_child 1) (whole y ++ argument_places y)) (below-parts 0 (whole x ++ argument_places x) (each-append AtPlace (whole x) (argument_places x) (whole-parts x p) (argument-parts x p)))
      (below-parts 1 (whole y ++ argument_places y) (each-append AtPlace (whole y) (argument_places y) (whole-parts y q) (argument-parts y q)))
  argument-parts (variable n a) h = tt
  argument-parts (bound i a) h = tt
  argument-parts (symbol s a) h = tt
  argument-parts (lam a t) h = tt
  argument-parts absent h = tt

  pub place-parts : (t : Tree) → IsPart variables t → Each AtPlace (places t)
  place-parts t h = each-append AtPlace (whole t) (argument_places t) (whole-parts t h) (argument-parts t h)

-- what a function of this type gives once it has all its arguments
abbrev pub given_last : SimpleType → SimpleType
given_last (base n) = base n
given_last (arrow a b) = given_last b

applied-last : (t : Tree) → IsWellTyped t → given_last (type_of (applied_head t)) ≡ given_last (type_of t)
applied-last (app f x) w = applied-last f w.0 ∙ ap given_last w.4
applied-last (variable n a) w = refl
applied-last (bound i a) w = refl
applied-last (symbol s a) w = refl
applied-last (lam a t) w = refl
applied-last (logic c x y) w = refl
applied-last absent w = refl

below-last : (t : Tree) → IsWellTyped t → given_last (type_of (below_lambdas t)) ≡ given_last (type_of t)
below-last (lam a t) w = below-last t w.0
below-last (variable n a) w = refl
below-last (bound i a) w = refl
below-last (symbol s a) w = refl
below-last (app f x) w = refl
below-last (logic c x y) w = refl
below-last absent w = refl

below-typed : (t : Tree) → IsWellTyped t → IsWellTyped (below_lambdas t)
below-typed (lam a t) w = below-typed t w.0
below-typed (variable n a) w = w
below-typed (bound i a) w = w
below-typed (symbol s a) w = w
below-typed (app f x) w = w
below-typed (logic c x y) w = w
below-typed absent w = w

-- a head gives at last what the term does
pub head-last : (t : Tree) → IsWellTyped t → given_last (type_of (head t)) ≡ given_last (type_of t)
head-last t w = applied-last (below_lambdas t) (below-typed t w) ∙ below-last t w
