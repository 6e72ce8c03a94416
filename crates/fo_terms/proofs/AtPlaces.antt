-- Reading a list of nodes at a place.
use Rattle.std.proofs.Common.{ℕ, zero, suc, ◌+◌, ◌≡◌, ◌≢◌, ◌<◌, ◌≤◌, List, [], ◌∷◌, ◌++◌, length, set, Some, refl, sym, ◌∙◌, ap, arith, append_assoc, length-append, subst, ◌⊎◌, inl, inr}
use Rattle.std.proofs.lemmas.Option.{slice_get_within}
use Rattle.std.specs.Prelude.{slice_get}
use Rattle.fo_terms.specs.declared.term.FoNode.{FoNode}
use Rattle.fo_terms.specs.declared.term.FoNode.TheVariants.{Var, Sym}
use Rattle.fo_terms.specs.Terms.{Term, Terms, variable, symbol, none, more, count, first_terms, terms_after, first_term}
use Rattle.fo_terms.specs.Prefix.{prefix, prefix_of_all, terms_of, term_of, with_node, IsPrefix}
use Rattle.fo_terms.specs.Reading.{joined, terms_of-prefix, terms_of-prefix_of_all, term_of-prefix}
use Rattle.std.proofs.lemmas.List.{append-nil}
use Rattle.fo_terms.specs.Places.{terms_at, term_at, arguments_of, IsFull, IsBehind, IsPassed, AreEndsFrom, IsFullFrom}

pub terms_at-zero : (ns : List FoNode) → terms_at ns 0 ≡ terms_of ns
terms_at-zero [] = refl
terms_at-zero (n ∷ ns) = refl

pub terms_at-node : (ns : List FoNode) (i : ℕ) (n : FoNode) → slice_get ns i ≡ Some n → terms_at ns i ≡ with_node n (terms_at ns (suc i))
terms_at-node [] i n h = absurd cc
terms_at-node (m ∷ ns) zero n h = let e : m ≡ n = cc in rw (e, terms_at-zero ns) refl
terms_at-node (m ∷ ns) (suc i) n h = terms_at-node ns i n h

pub count-terms_after : (n : ℕ) (ts : Terms) → n ≤ count ts → count (terms_after n ts) + n ≡ count ts
count-terms_after zero ts h = omega arith
count-terms_after (suc n) none h = absurd (omega arith)
count-terms_after (suc n) (more t ts) h = let k = count-terms_after n ts (omega arith) in omega arith

pub count-first_terms : (n : ℕ) (ts : Terms) → n ≤ count ts → count (first_terms n ts) ≡ n
count-first_terms zero ts h = refl
count-first_terms (suc n) none h = absurd (omega arith)
count-first_terms (suc n) (more t ts) h = ap suc (count-first_terms n ts (omega arith))

pub terms_at-past : (ns : List FoNode) (i : ℕ) → length ns ≤ i → terms_at ns i ≡ none
terms_at-past [] i h = refl
terms_at-past (n ∷ ns) zero h = absurd (omega arith)
terms_at-past (n ∷ ns) (suc i) h = terms_at-past ns i (omega arith)

-- where a term is read, a node stands
pub below_length : (ns : List FoNode) (i : ℕ) → 0 < count (terms_at ns i) → i < length ns
below_length [] i h = absurd (omega arith)
below_length (n ∷ ns) zero h = omega arith
below_length (n ∷ ns) (suc i) h = let k = below_length ns i h in omega arith

pub terms_after-terms_after : (n : ℕ) (ts : Terms) → terms_after 1 (terms_after n ts) ≡ terms_after (suc n) ts
terms_after-terms_after zero none = refl
terms_after-terms_after zero (more t ts) = refl
terms_after-terms_after (suc n) none = refl
terms_after-terms_after (suc n) (more t ts) = terms_after-terms_after n ts

IsFull-cons : (n : FoNode) (ns : List FoNode) → arguments_of n ≤ count (terms_of ns) → IsFull ns → IsFull (n ∷ ns)
IsFull-cons n ns h f zero m e = let same : n ≡ m = cc in rw (← same, terms_at-zero ns) h
IsFull-cons n ns h f (suc i) m e = f i m e

pub count-joined : (ts us : Terms) → count (joined ts us) ≡ count ts + count us
count-joined none us = omega arith
count-joined (more t ts) us = let k = count-joined ts us in omega arith

mutual
  pub IsFull-prefix : (t : Term) (ns : List FoNode) → IsFull ns → IsFull (prefix t ++ ns)
  IsFull-prefix (variable v) ns f = IsFull-cons (Var v) ns (omega arith) f
  IsFull-prefix (symbol g ts) ns f =
      let enough : count ts ≤ count (terms_of (prefix_of_all ts ++ ns)) = rw (terms_of-prefix_of_all ts ns, count-joined ts (terms_of ns)) (omega arith) in
      IsFull-cons (Sym g (count ts)) (prefix_of_all ts ++ ns) enough (IsFull-prefix_of_all ts ns f)

  pub IsFull-prefix_of_all : (ts : Terms) (ns : List FoNode) → IsFull ns → IsFull (prefix_of_all ts ++ ns)
  IsFull-prefix_of_all none ns f = f
  IsFull-prefix_of_all (more t ts) ns f = rw append_assoc (IsFull-prefix t (prefix_of_all ts ++ ns) (IsFull-prefix_of_all ts ns f))

-- a list in which each node has all its arguments is that of the terms that it reads as
pub IsFull-tail : (n : FoNode) (ns : List FoNode) → IsFull (n ∷ ns) → IsFull ns
IsFull-tail n ns f i m e = f (suc i) m e

IsFull-head : (n : FoNode) (ns : List FoNode) → IsFull (n ∷ ns) → arguments_of n ≤ count (terms_of ns)
IsFull-head n ns f = rw (terms_at-zero ns) at (f 0 n refl)

pub prefix_of_all-parts : (n : ℕ) (ts : Terms) → prefix_of_all (first_terms n ts) ++ prefix_of_all (terms_after n ts) ≡ prefix_of_all ts
prefix_of_all-parts zero ts = refl
prefix_of_all-parts (suc n) none = refl
prefix_of_all-parts (suc n) (more t ts) = append_assoc (prefix t) (prefix_of_all (first_terms n ts)) (prefix_of_all (terms_after n ts)) ∙ ap (λ (ns : List FoNode). prefix t ++ ns) (prefix_of_all-parts n ts)

pub prefix_of_all-terms_of : (ns : List FoNode) → IsFull ns → prefix_of_all (terms_of ns) ≡ ns
prefix_of_all-terms_of [] f = refl
prefix_of_all-terms_of (Var v ∷ ns) f = ap (λ (ms : List FoNode). Var v ∷ ms) (prefix_of_all-terms_of ns (IsFull-tail (Var v) ns f))
prefix_of_all-terms_of (Sym g n ∷ ns) f =
    let whole : prefix_of_all (terms_of ns) ≡ ns = prefix_of_all-terms_of ns (IsFull-tail (Sym g n) ns f) in
    let enough : n ≤ count (terms_of ns) = IsFull-head (Sym g n) ns f in
    rw (count-first_terms n (terms_of ns) enough) (ap (λ (ms : List FoNode). Sym g n ∷ ms) (prefix_of_all-parts n (terms_of ns) ∙ whole))

pub IsPassed-range : (ns : List FoNode) (i n e : ℕ) → IsPassed ns i n e → n < count (terms_at ns (suc i)) → e < length ns
IsPassed-range ns i n e h l =
    let left : count (terms_after n (terms_at ns (suc i))) + n ≡ count (terms_at ns (suc i)) = count-terms_after n (terms_at ns (suc i)) (omega arith) in
    let same : count (terms_at ns e) ≡ count (terms_after n (terms_at ns (suc i))) = ap count h.reads in
    below_length ns e (omega arith)

pub IsPassed-step : (ns : List FoNode) (i n e f : ℕ) → IsPassed ns i n e → IsBehind ns e f → IsPassed ns i (suc n) f
IsPassed-step ns i n e f h b = record {
  later = (let l = h.later in let k = b.later in omega arith);
  inside = b.inside;
  reads = b.reads ∙ ap (terms_after 1) h.reads ∙ terms_after-terms_after n (terms_at ns (suc i));
}

pub IsPassed-start : (ns : List FoNode) (i : ℕ) → i < length ns → IsPassed ns i 0 (suc i)
IsPassed-start ns i h = record { later = omega arith; inside = omega arith; reads = refl }

pub IsBehind-variable : (ns : List FoNode) (i v : ℕ) → slice_get ns i ≡ Some (Var v) → i < length ns → IsBehind ns i (suc i)
IsBehind-variable ns i v h l = record { later = omega arith; inside = omega arith; reads = rw (terms_at-node ns i (Var v) h) refl }

pub IsBehind-symbol : (ns : List FoNode) (i f n e : ℕ) → slice_get ns i ≡ Some (Sym f n) → IsPassed ns i n e → IsBehind ns i e
IsBehind-symbol ns i f n e h p = record { later = p.later; inside = p.inside; reads = rw (terms_at-node ns i (Sym f n) h) p.reads }

pub IsFull-append : (t u : Term) → IsFull (prefix t ++ prefix u)
IsFull-append t u =
    let nothing : IsFull [] = λ i m e. absurd cc in
    let alone : IsFull (prefix u ++ []) = IsFull-prefix u [] nothing in
    IsFull-prefix t (prefix u) (rw (append-nil (prefix u)) at alone)

slice_get-set : {X : Type 0} (xs : List X) (i : ℕ) (v : X) (j : ℕ) (z : X) → slice_get (set xs i v) j ≡ Some z → ((j ≡ i) × (v ≡ z)) ⊎ ((j ≢ i) × (slice_get xs j ≡ Some z))
slice_get-set [] i v j z h = absurd cc
slice_get-set (x ∷ xs) zero v zero z h = inl (refl, (cc))
slice_get-set (x ∷ xs) zero v (suc j) z h = inr ((λ e. absurd (omega arith)), h)
slice_get-set (x ∷ xs) (suc i) v zero z h = inr ((λ e. absurd (omega arith)), h)
slice_get-set (x ∷ xs) (suc i) v (suc j) z h =
    elim (slice_get-set xs i v j z h) [ inl l ↦ inl (ap suc l.0, l.1) | inr r ↦ inr ((λ e. r.0 (omega arith)), r.1) ]

pub AreEndsFrom-set : (ns : List FoNode) (ends : List ℕ) (i e : ℕ) → AreEndsFrom (suc i) ns ends → IsBehind ns i e → AreEndsFrom i ns (set ends i e)
AreEndsFrom-set ns ends i e h b j f from at =
    elim (slice_get-set ends i e j f at) [
      | inl l ↦ rw (l.0, ← l.1) b
      | inr r ↦ (let n : j ≢ i = r.0 in h j f (omega arith) r.1)
    ]

pub AreEndsFrom-past : (ns : List FoNode) (ends : List ℕ) (i : ℕ) → length ends ≤ i → AreEndsFrom i ns ends
AreEndsFrom-past ns ends i l j e from at = let w : j < length ends = slice_get_within ends j e at in absurd (omega arith)

-- where a node stands, a term is read
pub some_at : (ns : List FoNode) (i : ℕ) → i < length ns → 1 ≤ count (terms_at ns i)
some_at [] i h = absurd (omega arith)
some_at (Var v ∷ ns) zero h = omega arith
some_at (Sym f k ∷ ns) zero h = omega arith
some_at (n ∷ ns) (suc i) h = some_at ns i (omega arith)

-- ---- one term behind another

terms_at-behind : (ms ns : List FoNode) → terms_at (ms ++ ns) (length ms) ≡ terms_at ns 0
terms_at-behind [] ns = refl
terms_at-behind (m ∷ ms) ns = terms_at-behind ms ns

length-prefix : (t : Term) → 0 < length (prefix t)
length-prefix (variable v) = omega arith
length-prefix (symbol f ts) = omega arith

pub record StandsIn (ns : List FoNode) (right : ℕ) (t u : Term) : Type 0 where
  pub first : term_at ns 0 ≡ t
  pub second : term_at ns right ≡ u
  pub first_inside : 0 < length ns
  pub second_inside : right < length ns

pub StandsIn-append : (ns ms : List FoNode) (t u : Term) → ns ≡ prefix t ++ prefix u → ms ≡ prefix t → StandsIn ns (length ms) t u
StandsIn-append ns ms t u e f =
    let whole : length (prefix t ++ prefix u) ≡ length (prefix t) + length (prefix u) = length-append (prefix t) (prefix u) in
    let a = length-prefix t in
    let b = length-prefix u in
    rw (e, f) (record {
      first = ap first_term (terms_at-zero (prefix t ++ prefix u) ∙ terms_of-prefix t (prefix u));
      second = ap first_term (terms_at-behind (prefix t) (prefix u) ∙ terms_at-zero (prefix u)) ∙ term_of-prefix u;
      first_inside = omega arith;
      second_inside = omega arith;
    })

-- ---- whether a list of nodes is that of a term

at_or_past : (i j : ℕ) → i ≤ j → (i ≡ j) ⊎ (suc i ≤ j)
at_or_past i j h = grind arith

pub IsFullFrom-before : (ns : List FoNode) (i : ℕ) (n : FoNode) → IsFullFrom (suc i) ns → slice_get ns i ≡ Some n → arguments_of n ≤ count (terms_at ns (suc i)) → IsFullFrom i ns
IsFullFrom-before ns i n f h enough j m from at =
    elim (at_or_past i j from) [
      | inl e ↦ (let same : n ≡ m = (let here : slice_get ns i ≡ Some m = rw (← e) at at in cc) in rw (← same, ← e) enough)
      | inr l ↦ f j m l at
    ]

pub count-with_node : (ns : List FoNode) (i : ℕ) (n : FoNode) → slice_get ns i ≡ Some n → arguments_of n ≤ count (terms_at ns (suc i)) → count (terms_at ns i) + arguments_of n ≡ count (terms_at ns (suc i)) + 1
count-with_node ns i (Var v) h l = rw (terms_at-node ns i (Var v) h) (omega arith)
count-with_node ns i (Sym f k) h l =
    let c = count-terms_after k (terms_at ns (suc i)) l in
    rw (terms_at-node ns i (Sym f k) h) (omega arith)

one_of : (ts : Terms) → count ts ≡ 1 → ts ≡ more (first_term ts) none
one_of none h = absurd (omega arith)
one_of (more t none) h = refl
one_of (more t (more u ts)) h = absurd (omega arith)

pub IsPrefix-from : (ns : List FoNode) → IsFullFrom 0 ns → count (terms_at ns 0) ≡ 1 → IsPrefix ns
IsPrefix-from ns f h =
    let one : terms_of ns ≡ more (term_of ns) none = one_of (terms_of ns) (rw (terms_at-zero ns) at h) in
    let whole : prefix_of_all (terms_of ns) ≡ ns = prefix_of_all-terms_of ns (λ i n e. f i n (omega arith) e) in
    sym (append-nil (prefix (term_of ns))) ∙ sym (ap prefix_of_all one) ∙ whole

pub IsFull-prefix_alone : (t : Term) → IsFull (prefix t)
IsFull-prefix_alone t =
    let nothing : IsFull [] = λ i m e. absurd cc in
    let alone : IsFull (prefix t ++ []) = IsFull-prefix t [] nothing in
    rw (append-nil (prefix t)) at alone

pub count-prefix : (t : Term) → count (terms_at (prefix t) 0) ≡ 1
count-prefix t =
    let read : terms_of (prefix t ++ []) ≡ more t none = terms_of-prefix t [] in
    let alone : terms_of (prefix t) ≡ more t none = rw (append-nil (prefix t)) at read in
    ap count (terms_at-zero (prefix t) ∙ alone)

-- the list of a term has all arguments and one term
pub IsPrefix-full : (ns : List FoNode) → IsPrefix ns → IsFull ns
IsPrefix-full ns p = let P : List FoNode → Type 0 = IsFull in subst P p (IsFull-prefix_alone (term_of ns))

pub IsPrefix-count : (ns : List FoNode) → IsPrefix ns → count (terms_at ns 0) ≡ 1
IsPrefix-count ns p = let P : List FoNode → Type 0 = λ ms. count (terms_at ms 0) ≡ 1 in subst P p (count-prefix (term_of ns))
