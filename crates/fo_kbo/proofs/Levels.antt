-- What one level of a comparison says of the whole.
use Rattle.std.proofs.Common.{ℕ, ◌≡◌, ◌<◌, ◌≤◌, List, [], ◌++◌, length, refl, sym, ◌∙◌, ap, arith, inl, inr}
use Rattle.std.specs.Prelude.{slice_range}
use Rattle.fo_terms.specs.declared.term.FoNode.{FoNode}
use Rattle.fo_terms.specs.Terms.{Term, Terms, variable, symbol, none, more, count, size, size_of_all, terms_after, first_term}
use Rattle.fo_terms.specs.Prefix.{prefix, prefix_of_all, term_of, IsPrefix, terms_of}
use Rattle.fo_terms.specs.Reading.{joined, terms_of-prefix_of_all, term_of-prefix}
use Rattle.std.proofs.lemmas.List.{append-nil}
use Rattle.fo_terms.specs.Places.{terms_at, term_at, IsFull, IsBehind}
use Rattle.fo_terms.proofs.AtPlaces.{terms_at-zero, below_length}
use Rattle.fo_kbo.specs.Occurrences.{Covers}
use Rattle.fo_kbo.specs.Order.{IsGreater, FirstIsGreater}
use Rattle.fo_kbo.specs.Heads.{HaveSameHeads}
use Rattle.fo_kbo.specs.Difference.{IsRest, IsDifference}
use Rattle.fo_terms.proofs.Spans.{slice_range-term, length-term}
use Rattle.fo_kbo.proofs.Ordering.{irreflexive, variable_is_least, size-positive}

pub greater_covers : (s t : Term) → IsGreater s t → Covers s t
greater_covers (variable v) t h = h.0
greater_covers (symbol f ts) (variable w) h = h.0
greater_covers (symbol f ts) (symbol g us) h = h.0

pub greater_size : (s t : Term) → IsGreater s t → size t ≤ size s
greater_size (variable v) t h = absurd (variable_is_least v t h)
greater_size (symbol f ts) (variable w) h = elim h.1 [ inl l ↦ omega arith | inr e ↦ (let q = e.0 in omega arith) ]
greater_size (symbol f ts) (symbol g us) h = elim h.1 [ inl l ↦ omega arith | inr e ↦ (let q = e.0 in omega arith) ]

pub not_heavier : (s t : Term) → size s < size t → IsGreater s t → ⊥
not_heavier s t l h = let k = greater_size s t h in absurd (omega arith)

-- a variable of the same weight is not under another term
pub not_over_variable : (s : Term) (v : ℕ) → size s ≡ size (variable v) → IsGreater s (variable v) → ⊥
not_over_variable (variable w) v e h = variable_is_least w (variable v) h
not_over_variable (symbol f ts) v e h = elim h.1 [ inl l ↦ absurd (omega arith) | inr q ↦ q.1 ]

module _ (f g : ℕ) (ts us : Terms) (same_size : size (symbol f ts) ≡ size (symbol g us)) where
  pub larger_head : g < f → Covers (symbol f ts) (symbol g us) → IsGreater (symbol f ts) (symbol g us)
  larger_head l c = (c, inr (same_size, inl l))

  pub not_smaller_head : f < g → IsGreater (symbol f ts) (symbol g us) → ⊥
  not_smaller_head l h = elim h.1 [ inl m ↦ absurd (omega arith) | inr e ↦ elim e.1 [ inl m ↦ absurd (omega arith) | inr p ↦ (let q = p.0 in absurd (omega arith)) ] ]

pub arguments_from : (f : ℕ) (ts us : Terms) → size (symbol f ts) ≡ size (symbol f us) → IsGreater (symbol f ts) (symbol f us) → FirstIsGreater ts us
arguments_from f ts us e h = elim h.1 [ inl m ↦ absurd (omega arith) | inr q ↦ elim q.1 [ inl m ↦ absurd (omega arith) | inr p ↦ p.1 ] ]

pub arguments_back : (f : ℕ) (ts us : Terms) → size (symbol f ts) ≡ size (symbol f us) → Covers (symbol f ts) (symbol f us) → FirstIsGreater ts us → IsGreater (symbol f ts) (symbol f us)
arguments_back f ts us e c h = (c, inr (e, inr (refl, h)))

-- ---- the arguments

joined-none : (ts : Terms) → joined ts none ≡ ts
joined-none none = refl
joined-none (more t ts) = ap (more t) (joined-none ts)

terms_of-all : (ts : Terms) → terms_of (prefix_of_all ts) ≡ ts
terms_of-all ts =
    let read : terms_of (prefix_of_all ts ++ []) ≡ joined ts none = terms_of-prefix_of_all ts [] in
    rw (append-nil (prefix_of_all ts)) at read ∙ joined-none ts

arguments_at : (ns : List FoNode) (f : ℕ) (ts : Terms) → IsPrefix ns → term_of ns ≡ symbol f ts → terms_at ns 1 ≡ ts
arguments_at ns f ts p e = ap (λ (ms : List FoNode). terms_at ms 1) (sym p ∙ ap prefix e) ∙ terms_at-zero (prefix_of_all ts) ∙ terms_of-all ts

module _ (ns ms : List FoNode) (p : IsPrefix ns) (q : IsPrefix ms) (heads : HaveSameHeads (term_of ns) (term_of ms)) where
  left_at : terms_at ns 1 ≡ heads.left
  left_at = arguments_at ns heads.number heads.left p heads.left_is

  right_at : terms_at ms 1 ≡ heads.right
  right_at = arguments_at ms heads.number heads.right q heads.right_is

  sizes : size (symbol heads.number heads.left) ≡ size (symbol heads.number heads.right)
  sizes = sym (ap size heads.left_is) ∙ heads.same_size ∙ ap size heads.right_is

  pub rest-start : (term_of ns ≡ term_of ms → ⊥) → IsRest ns ms 1
  rest-start d = record {
    behind = omega arith;
    same_size = rw (left_at, right_at) (let e = sizes in omega arith);
    different = (λ e. d (heads.left_is ∙ ap (symbol heads.number) (sym left_at ∙ e ∙ right_at) ∙ sym heads.right_is));
    greater_from = λ h. h;
    greater_back = λ h. h;
    less_from = λ h. h;
    less_back = λ h. h;
  }

  pub whole_from : IsGreater (term_of ns) (term_of ms) → FirstIsGreater (terms_at ns 1) (terms_at ms 1)
  whole_from h = rw (left_at, right_at) (arguments_from heads.number heads.left heads.right sizes (rw (heads.left_is, heads.right_is) at h))

  pub whole_back : Covers (term_of ns) (term_of ms) → FirstIsGreater (terms_at ns 1) (terms_at ms 1) → IsGreater (term_of ns) (term_of ms)
  whole_back c h = rw (heads.left_is, heads.right_is) (arguments_back heads.number heads.left heads.right sizes (rw (heads.left_is, heads.right_is) at c) (rw (left_at, right_at) at h))

  pub turned_from : IsGreater (term_of ms) (term_of ns) → FirstIsGreater (terms_at ms 1) (terms_at ns 1)
  turned_from h = rw (left_at, right_at) (arguments_from heads.number heads.right heads.left (sym sizes) (rw (heads.left_is, heads.right_is) at h))

  pub turned_back : Covers (term_of ms) (term_of ns) → FirstIsGreater (terms_at ms 1) (terms_at ns 1) → IsGreater (term_of ms) (term_of ns)
  turned_back c h = rw (heads.left_is, heads.right_is) (arguments_back heads.number heads.right heads.left (sym sizes) (rw (heads.left_is, heads.right_is) at c) (rw (left_at, right_at) at h))

nonempty : (ts us : Terms) → size_of_all ts ≡ size_of_all us → (ts ≡ us → ⊥) → (0 < count ts) × (0 < count us)
nonempty none none e d = absurd (d refl)
nonempty none (more u us) e d = let p = size-positive u in absurd (omega arith)
nonempty (more t ts) none e d = let p = size-positive t in absurd (omega arith)
nonempty (more t ts) (more u us) e d = (omega arith, omega arith)

pub rest-inside : (ns ms : List FoNode) (at : ℕ) → IsRest ns ms at → (at < length ns) × (at < length ms)
rest-inside ns ms at r =
    let n = nonempty (terms_at ns at) (terms_at ms at) r.same_size r.different in
    (below_length ns at n.0, below_length ms at n.1)

pub parted : (ts : Terms) → 0 < count ts → ts ≡ more (first_term ts) (terms_after 1 ts)
parted none h = absurd (omega arith)
parted (more t ts) h = refl

module _ (ns ms : List FoNode) (at e d : ℕ) (full : IsFull ns) (full' : IsFull ms) (r : IsRest ns ms at) (b : IsBehind ns at e) (c : IsBehind ms at d) where
  abbrev t : Term
  t = term_at ns at

  abbrev u : Term
  u = term_at ms at

  left_parts : terms_at ns at ≡ more t (terms_at ns e)
  left_parts = parted (terms_at ns at) (nonempty (terms_at ns at) (terms_at ms at) r.same_size r.different).0 ∙ ap (more t) (sym b.reads)

  right_parts : terms_at ms at ≡ more u (terms_at ms d)
  right_parts = parted (terms_at ms at) (nonempty (terms_at ns at) (terms_at ms at) r.same_size r.different).1 ∙ ap (more u) (sym c.reads)

  same_term : slice_range ns at e ≡ slice_range ms at d → t ≡ u
  same_term h = sym (term_of-prefix t) ∙ ap term_of (sym (slice_range-term ns at e full b) ∙ h ∙ slice_range-term ms at d full' c) ∙ term_of-prefix u

  same_end : slice_range ns at e ≡ slice_range ms at d → e ≡ d
  same_end h =
      let lengths : length (prefix t) ≡ length (prefix u) = ap (λ (x : Term). length (prefix x)) (same_term h) in
      let first = length-term ns at e full b in
      let second = length-term ms at d full' c in
      let l = b.later in
      let k = c.later in
      omega arith

  step_from : (ts us ts' us' : Terms) (x y : Term) → ts ≡ more x ts' → us ≡ more y us' → x ≡ y → FirstIsGreater ts us → FirstIsGreater ts' us'
  step_from ts us ts' us' x y f g same h =
      let shape : FirstIsGreater (more x ts') (more y us') = rw (f, g) at h in
      elim shape [ inl a ↦ absurd (irreflexive y (rw same at a)) | inr p ↦ p.1 ]

  step_back : (ts us ts' us' : Terms) (x y : Term) → ts ≡ more x ts' → us ≡ more y us' → x ≡ y → FirstIsGreater ts' us' → FirstIsGreater ts us
  step_back ts us ts' us' x y f g same h = rw (f, g) (inr (same, h))

  pub rest-step : slice_range ns at e ≡ slice_range ms at d → IsRest ns ms e
  rest-step h =
      let same : t ≡ u = same_term h in
      let ends : e ≡ d = same_end h in
      let l = b.later in
      let right : terms_at ms at ≡ more u (terms_at ms e) = rw ends right_parts in
      record {
        behind = omega arith;
        same_size =
            (let whole : size_of_all (more t (terms_at ns e)) ≡ size_of_all (more u (terms_at ms e)) = sym (ap size_of_all left_parts) ∙ r.same_size ∙ ap size_of_all right in
            let one : size t ≡ size u = ap size same in
            omega arith);
        different = (λ q. r.different (left_parts ∙ rw (same, q) refl ∙ sym right));
        greater_from = (λ g. step_from (terms_at ns at) (terms_at ms at) (terms_at ns e) (terms_at ms e) t u left_parts right same (r.greater_from g));
        greater_back = (λ g. r.greater_back (step_back (terms_at ns at) (terms_at ms at) (terms_at ns e) (terms_at ms e) t u left_parts right same g));
        less_from = (λ g. step_from (terms_at ms at) (terms_at ns at) (terms_at ms e) (terms_at ns e) u t right left_parts (sym same) (r.less_from g));
        less_back = (λ g. r.less_back (step_back (terms_at ms at) (terms_at ns at) (terms_at ms e) (terms_at ns e) u t right left_parts (sym same) g));
      }

  decide_from : (ts us ts' us' : Terms) (x y : Term) → ts ≡ more x ts' → us ≡ more y us' → (x ≡ y → ⊥) → FirstIsGreater ts us → IsGreater x y
  decide_from ts us ts' us' x y f g other h =
      let shape : FirstIsGreater (more x ts') (more y us') = rw (f, g) at h in
      elim shape [ inl a ↦ a | inr p ↦ absurd (other p.0) ]

  decide_back : (ts us ts' us' : Terms) (x y : Term) → ts ≡ more x ts' → us ≡ more y us' → IsGreater x y → FirstIsGreater ts us
  decide_back ts us ts' us' x y f g h = rw (f, g) (inl h)

  pub difference-found : IsPrefix ns → IsPrefix ms → HaveSameHeads (term_of ns) (term_of ms) → (slice_range ns at e ≡ slice_range ms at d → ⊥)
      → IsDifference ns ms (record { at = at; left_end = e; right_end = d })
  difference-found p q heads other =
      let apart : t ≡ u → ⊥ = (λ same. other (slice_range-term ns at e full b ∙ ap prefix same ∙ sym (slice_range-term ms at d full' c))) in
      record {
        left = t;
        right = u;
        left_is = slice_range-term ns at e full b;
        right_is = slice_range-term ms at d full' c;
        left_within = b.inside;
        right_within = c.inside;
        left_some = b.later;
        right_some = c.later;
        behind = r.behind;
        different = apart;
        greater_from = (λ g. decide_from (terms_at ns at) (terms_at ms at) (terms_at ns e) (terms_at ms d) t u left_parts right_parts apart (r.greater_from (whole_from ns ms p q heads g)));
        greater_back = (λ v g. whole_back ns ms p q heads v (r.greater_back (decide_back (terms_at ns at) (terms_at ms at) (terms_at ns e) (terms_at ms d) t u left_parts right_parts g)));
        less_from = (λ g. decide_from (terms_at ms at) (terms_at ns at) (terms_at ms d) (terms_at ns e) u t right_parts left_parts (λ same. apart (sym same)) (r.less_from (turned_from ns ms p q heads g)));
        less_back = (λ v g. turned_back ns ms p q heads v (r.less_back (decide_back (terms_at ms at) (terms_at ns at) (terms_at ms d) (terms_at ns e) u t right_parts left_parts g)));
      }
