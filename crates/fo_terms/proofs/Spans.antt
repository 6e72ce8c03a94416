-- The nodes of the term at a place, and the variables among them.
use Rattle.std.proofs.Common.{ℕ, zero, suc, ◌+◌, ◌-◌, ◌≡◌, ◌<◌, ◌≤◌, true, List, [], ◌∷◌, ◌++◌, length, take, drop, Some, refl, sym, ◌∙◌, ap, arith, rules, length-append, ◌⊎◌, inl, inr}
use Rattle.std.specs.Prelude.{slice_get, slice_range}
use Rattle.std.proofs.lemmas.List.{take_at, length-drop}
use Rattle.std.proofs.lemmas.Option.{slice_get_within}
use Rattle.fo_terms.specs.declared.term.FoNode.{FoNode}
use Rattle.fo_terms.specs.declared.term.FoNode.TheVariants.{Var}
use Rattle.fo_terms.specs.Terms.{Term, Terms, variable, symbol, none, more, count, occurs, occurs_in_any, terms_after, first_term}
use Rattle.fo_terms.specs.Prefix.{prefix, prefix_of_all, terms_of}
use Rattle.fo_terms.specs.Places.{terms_at, term_at, IsFull, IsBehind}
use Rattle.fo_terms.proofs.Substituting.{nat_eq-refl, or_true, or_left, or_right}
use Rattle.fo_terms.proofs.AtPlaces.{prefix_of_all-terms_of, some_at}
use Rattle.fo_terms.proofs.Extending.{slice_get-kept}

terms_at-drop : (ns : List FoNode) (i : ℕ) → terms_at ns i ≡ terms_of (drop i ns)
terms_at-drop [] zero = refl
terms_at-drop [] (suc i) = refl
terms_at-drop (n ∷ ns) zero = refl
terms_at-drop (n ∷ ns) (suc i) = terms_at-drop ns i

IsFull-drop : (ns : List FoNode) (i : ℕ) → IsFull ns → IsFull (drop i ns)
IsFull-drop [] zero f = f
IsFull-drop [] (suc i) f = f
IsFull-drop (n ∷ ns) zero f = f
IsFull-drop (n ∷ ns) (suc i) f = IsFull-drop ns i (λ j m e. f (suc j) m e)

nodes_from : (ns : List FoNode) (i : ℕ) → IsFull ns → drop i ns ≡ prefix_of_all (terms_at ns i)
nodes_from ns i f = sym (ap prefix_of_all (terms_at-drop ns i) ∙ prefix_of_all-terms_of (drop i ns) (IsFull-drop ns i f))

first_of : (ts : Terms) → 1 ≤ count ts → prefix_of_all ts ≡ prefix (first_term ts) ++ prefix_of_all (terms_after 1 ts)
first_of none h = absurd (omega arith)
first_of (more t ts) h = refl

slice_get-drop : {X : Type 0} (xs : List X) (n i : ℕ) → slice_get (drop n xs) i ≡ slice_get xs (n + i)
slice_get-drop xs zero i = let e : 0 + i ≡ i = omega arith in rw e refl
slice_get-drop [] (suc n) i = refl
slice_get-drop (x ∷ xs) (suc n) i = let e : suc n + i ≡ suc (n + i) = omega arith in rw e (slice_get-drop xs n i)

slice_get-left : {X : Type 0} (xs ys : List X) (i : ℕ) → i < length xs → slice_get (xs ++ ys) i ≡ slice_get xs i
slice_get-left [] ys i h = absurd (omega arith)
slice_get-left (x ∷ xs) ys zero h = refl
slice_get-left (x ∷ xs) ys (suc i) h = slice_get-left xs ys i (omega arith)

slice_get-right : {X : Type 0} (xs ys : List X) (i : ℕ) → slice_get (xs ++ ys) (length xs + i) ≡ slice_get ys i
slice_get-right [] ys i = let e : 0 + i ≡ i = omega arith in rw e refl
slice_get-right (x ∷ xs) ys i = let e : suc (length xs) + i ≡ suc (length xs + i) = omega arith in rw e (slice_get-right xs ys i)

slice_get-parts : {X : Type 0} (xs ys : List X) (i : ℕ) (z : X) → slice_get (xs ++ ys) i ≡ Some z → (slice_get xs i ≡ Some z) ⊎ ((j : ℕ) × (slice_get ys j ≡ Some z))
slice_get-parts [] ys i z h = inr (i, h)
slice_get-parts (x ∷ xs) ys zero z h = inl h
slice_get-parts (x ∷ xs) ys (suc i) z h = slice_get-parts xs ys i z h

-- where a variable stands among the nodes of a term
mutual
  place_in : (v : ℕ) (t : Term) → occurs v t ≡ true → (q : ℕ) × (slice_get (prefix t) q ≡ Some (Var v))
  place_in v (variable w) h = let e : v ≡ w = search rules in (0, rw e refl)
  place_in v (symbol f ts) h = let p = place_in_all v ts h in (suc p.0, p.1)

  place_in_all : (v : ℕ) (ts : Terms) → occurs_in_any v ts ≡ true → (q : ℕ) × (slice_get (prefix_of_all ts) q ≡ Some (Var v))
  place_in_all v none h = absurd cc
  place_in_all v (more t ts) h = elim (or_true (occurs v t) (occurs_in_any v ts) h) [
    | inl l ↦ (let p = place_in v t l in (p.0, slice_get-kept (prefix t) (prefix_of_all ts) p.0 (Var v) p.1))
    | inr r ↦ (let p = place_in_all v ts r in (length (prefix t) + p.0, rw (slice_get-right (prefix t) (prefix_of_all ts) p.0) p.1))
  ]

mutual
  occurs-place : (v q : ℕ) (t : Term) → slice_get (prefix t) q ≡ Some (Var v) → occurs v t ≡ true
  occurs-place v zero (variable w) h = let e : w ≡ v = cc in rw e (nat_eq-refl v)
  occurs-place v (suc q) (variable w) h = absurd cc
  occurs-place v zero (symbol f ts) h = absurd cc
  occurs-place v (suc q) (symbol f ts) h = occurs_in_any-place v q ts h

  occurs_in_any-place : (v q : ℕ) (ts : Terms) → slice_get (prefix_of_all ts) q ≡ Some (Var v) → occurs_in_any v ts ≡ true
  occurs_in_any-place v q none h = absurd cc
  occurs_in_any-place v q (more t ts) h = elim (slice_get-parts (prefix t) (prefix_of_all ts) q (Var v) h) [
    | inl l ↦ or_left (occurs v t) (occurs_in_any v ts) (occurs-place v q t l)
    | inr r ↦ or_right (occurs v t) (occurs_in_any v ts) (occurs_in_any-place v r.0 ts r.1)
  ]

module _ (ns : List FoNode) (at e : ℕ) (f : IsFull ns) (b : IsBehind ns at e) where
  parts : drop at ns ≡ prefix (term_at ns at) ++ drop e ns
  parts =
      let l = b.later in
      let i = b.inside in
      nodes_from ns at f ∙ first_of (terms_at ns at) (some_at ns at (omega arith)) ∙ ap (λ (ts : Terms). prefix (term_at ns at) ++ prefix_of_all ts) (sym b.reads) ∙ ap (λ (ms : List FoNode). prefix (term_at ns at) ++ ms) (sym (nodes_from ns e f))

  pub length-term : length (prefix (term_at ns at)) ≡ e - at
  length-term =
      let l = b.later in
      let i = b.inside in
      let lengths : length (drop at ns) ≡ length (prefix (term_at ns at)) + length (drop e ns) = ap length parts ∙ length-append (prefix (term_at ns at)) (drop e ns) in
      let first : length (drop at ns) ≡ length ns - at = length-drop at ns in
      let second : length (drop e ns) ≡ length ns - e = length-drop e ns in
      omega arith

  pub slice_range-term : slice_range ns at e ≡ prefix (term_at ns at)
  slice_range-term = ap (take (e - at)) parts ∙ take_at (prefix (term_at ns at)) (drop e ns) (e - at) length-term

  pub node_of : (q : ℕ) → q < length (prefix (term_at ns at)) → slice_get ns (at + q) ≡ slice_get (prefix (term_at ns at)) q
  node_of q h = sym (slice_get-drop ns at q) ∙ ap (λ (ms : List FoNode). slice_get ms q) parts ∙ slice_get-left (prefix (term_at ns at)) (drop e ns) q h

  pub place_of : (v : ℕ) → occurs v (term_at ns at) ≡ true → (p : ℕ) × (at ≤ p) × (p < e) × (slice_get ns p ≡ Some (Var v))
  place_of v h =
      let q = place_in v (term_at ns at) h in
      let within : q.0 < length (prefix (term_at ns at)) = slice_get_within (prefix (term_at ns at)) q.0 (Var v) q.1 in
      let l = length-term in
      (at + q.0, (omega arith), (omega arith), node_of q.0 within ∙ q.1)

  pub occurs_at_place : (v p : ℕ) → at ≤ p → p < e → slice_get ns p ≡ Some (Var v) → occurs v (term_at ns at) ≡ true
  occurs_at_place v p l u h =
      let n = length-term in
      let k = b.later in
      let within : p - at < length (prefix (term_at ns at)) = omega arith in
      let there : at + (p - at) ≡ p = omega arith in
      occurs-place v (p - at) (term_at ns at) (sym (node_of (p - at) within) ∙ rw there h)
