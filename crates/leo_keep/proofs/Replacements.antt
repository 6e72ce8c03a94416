-- Terms that are put in for variables.
use Rattle.std.proofs.Common.{ℕ, zero, suc, ◌≡◌, ◌∙◌, ◌+◌, ◌<◌, ◌≤◌, List, [], ◌∷◌, slice_get, Some, refl, sym, ap, arith}
use Rattle.leo_q0.specs.Terms.{SimpleType, base, arrow}
use Rattle.leo_terms.specs.Tree.{Tree, variable, bound, symbol, app, lam, logic, absent, type_of, substituted}
use Rattle.leo_terms.specs.Facts.{tree_weight, loose_range}
use Rattle.leo_terms.specs.Typing.{IsWellTyped, IsPresent}
use Rattle.leo_terms.proofs.CallerLemmas.{lifted-closed}
use Rattle.leo_clause.specs.Typed.{IsOver}
use Rattle.leo_keep.specs.Subsumption.{MayReplace, AreReplacements}
use Rattle.leo_keep.proofs.Numbers.{same-item}

-- what replaces a variable is a term of its type without loose indices
pub replaces-closed : (a : SimpleType) (t : Tree) → MayReplace a t → loose_range t ≡ 0
replaces-closed (base n) t h = h.no_loose
replaces-closed (arrow a b) t h = rw h.1 refl

pub replaces-present : (a : SimpleType) (t : Tree) → MayReplace a t → IsPresent t
replaces-present (base n) t h = h.present
replaces-present (arrow a b) t h = rw h.1 tt

pub replaces-typed : (a : SimpleType) (t : Tree) → MayReplace a t → IsWellTyped t
replaces-typed (base n) t h = h.well_typed
replaces-typed (arrow a b) t h = rw h.1 tt

pub replaces-type : (a : SimpleType) (t : Tree) → MayReplace a t → type_of t ≡ a
replaces-type (base n) t h = h.of_type
replaces-type (arrow a b) t h = rw h.1 refl

-- a variable may replace one of its type
pub replaces-variable : (a : SimpleType) (n : ℕ) → MayReplace a (variable n a)
replaces-variable (base m) n = record { well_typed = tt; present = tt; of_type = refl; no_loose = refl }
replaces-variable (arrow a b) n = (n, refl)

-- a term that stands there weighs something
present-weighs : (t : Tree) → IsWellTyped t → IsPresent t → 0 < tree_weight t
present-weighs (variable n a) w p = omega arith
present-weighs (bound i a) w p = omega arith
present-weighs (symbol s a) w p = omega arith
present-weighs (app f x) w p = let h = present-weighs f w.0 w.2 in omega arith
present-weighs (lam a t) w p = omega arith
present-weighs (logic c x y) w p = omega arith
present-weighs absent w p = absurd p

-- what replaces the variable n
pub record HasReplacement (a : SimpleType) (terms : List Tree) (n : ℕ) : Type 0 where
  pub term : Tree
  pub stands : slice_get terms n ≡ Some term
  pub replaces : MayReplace a term

pub replacement-at : (variables : List SimpleType) (terms : List Tree) → AreReplacements variables terms → (n : ℕ) (a : SimpleType) → slice_get variables n ≡ Some a → HasReplacement a terms n
replacement-at [] terms h n a e = absurd (let f : ⊥ = cc in f)
replacement-at (b ∷ variables) [] h n a e = absurd h
replacement-at (b ∷ variables) (t ∷ terms) h zero a e = let f : b ≡ a = cc in record { term = t; stands = refl; replaces = rw (← f) h.0 }
replacement-at (b ∷ variables) (t ∷ terms) h (suc n) a e = let r = replacement-at variables terms h.1 n a e in record { term = r.term; stands = r.stands; replaces = r.replaces }

module _ (variables : List SimpleType) (terms : List Tree) (replacements : AreReplacements variables terms) where
  -- the term put in for a variable, under any lambdas
  pub given-variable : (n : ℕ) (a : SimpleType) (k : ℕ) (t : Tree) → slice_get variables n ≡ Some a → slice_get terms n ≡ Some t → substituted terms k (variable n a) ≡ t
  given-variable n a k t e f =
      let r = replacement-at variables terms replacements n a e in
      let g : r.term ≡ t = same-item (slice_get terms n) r.term t r.stands f in
      rw f (lifted-closed t 0 k (let l : loose_range t ≡ 0 = rw g at (replaces-closed a r.term r.replaces) in omega arith))

  pub depth-same : (t : Tree) (depth k : ℕ) → IsOver variables depth t → substituted terms k t ≡ substituted terms 0 t
  depth-same (variable n a) depth k h =
      let r = replacement-at variables terms replacements n a h in
      given-variable n a k r.term h r.stands ∙ sym (given-variable n a 0 r.term h r.stands)
  depth-same (bound i a) depth k h = refl
  depth-same (symbol s a) depth k h = refl
  depth-same (app f x) depth k h = rw (depth-same f depth k h.0, depth-same x depth k h.1) refl
  depth-same (lam a t) depth k h = ap (lam a) (depth-same t (depth + 1) (k + 1) h ∙ sym (depth-same t (depth + 1) (0 + 1) h))
  depth-same (logic c x y) depth k h = rw (depth-same x depth k h.0, depth-same y depth k h.1) refl
  depth-same absent depth k h = refl

  -- a term that stands there still does
  pub still-present : (t : Tree) (depth : ℕ) → IsOver variables depth t → IsPresent t → IsPresent (substituted terms 0 t)
  still-present (variable n a) depth h p =
      let r = replacement-at variables terms replacements n a h in
      rw (given-variable n a 0 r.term h r.stands) (replaces-present a r.term r.replaces)
  still-present (bound i a) depth h p = tt
  still-present (symbol s a) depth h p = tt
  still-present (app f x) depth h p = tt
  still-present (lam a t) depth h p = tt
  still-present (logic c x y) depth h p = tt
  still-present absent depth h p = p

  -- no weight is lost
  pub weight-grows : (t : Tree) (depth k : ℕ) → IsOver variables depth t → tree_weight t ≤ tree_weight (substituted terms k t)
  weight-grows (variable n a) depth k h =
      let r = replacement-at variables terms replacements n a h in
      let w = present-weighs r.term (replaces-typed a r.term r.replaces) (replaces-present a r.term r.replaces) in
      rw (given-variable n a k r.term h r.stands) (omega arith)
  weight-grows (bound i a) depth k h = omega arith
  weight-grows (symbol s a) depth k h = omega arith
  weight-grows (app f x) depth k h = let p = weight-grows f depth k h.0 in let q = weight-grows x depth k h.1 in omega arith
  weight-grows (lam a t) depth k h = let p = weight-grows t (depth + 1) (k + 1) h in omega arith
  weight-grows (logic c x y) depth k h = let p = weight-grows x depth k h.0 in let q = weight-grows y depth k h.1 in omega arith
  weight-grows absent depth k h = omega arith
