-- The laws of the order.
use Rattle.std.proofs.Common.{ℕ, ◌≡◌, ◌<◌, ◌≤◌, refl, sym, ◌∙◌, ap, arith, rules, true, ◌⊎◌, inl, inr}
use Rattle.std.specs.Prelude.{nat_eq}
use Rattle.fo_terms.specs.Terms.{Term, Terms, variable, symbol, none, more, size, size_of_all}
use Rattle.fo_terms.specs.Substitutions.{Substitution, apply, apply_to_all}
use Rattle.fo_kbo.specs.Occurrences.{occurrences, occurrences_in_all, Covers, IsGround}
use Rattle.fo_kbo.specs.Order.{IsGreater, FirstIsGreater}
use Rattle.fo_kbo.proofs.Counting.{Covers-apply, size-gains}

pub size-positive : (t : Term) → 0 < size t
size-positive (variable v) = omega arith
size-positive (symbol f ts) = omega arith

mutual
  pub irreflexive : (t : Term) → IsGreater t t → ⊥
  irreflexive (variable v) h = elim h.1 [ inl l ↦ absurd (omega arith) | inr e ↦ e.1 ]
  irreflexive (symbol f ts) h = elim h.1 [ inl l ↦ absurd (omega arith) | inr e ↦ elim e.1 [ inl l ↦ absurd (omega arith) | inr p ↦ irreflexive_all ts p.1 ] ]

  pub irreflexive_all : (ts : Terms) → FirstIsGreater ts ts → ⊥
  irreflexive_all none h = h
  irreflexive_all (more t ts) h = elim h [ inl g ↦ irreflexive t g | inr p ↦ irreflexive_all ts p.1 ]

Covers-trans : (s t u : Term) → Covers s t → Covers t u → Covers s u
Covers-trans s t u h k v = let a = h v in let b = k v in omega arith

-- a variable is greater than no term
pub variable_is_least : (v : ℕ) (t : Term) → IsGreater (variable v) t → ⊥
variable_is_least v t h = let p = size-positive t in elim h.1 [ inl l ↦ absurd (omega arith) | inr e ↦ e.1 ]

-- a heavier term that covers another is greater
pub heavier_wins : (s t : Term) → Covers s t → size t < size s → IsGreater s t
heavier_wins (variable v) t c l = (c, inl l)
heavier_wins (symbol f ts) (variable w) c l = (c, inl l)
heavier_wins (symbol f ts) (symbol g us) c l = (c, inl l)

mutual
  pub transitive : (s t u : Term) → IsGreater s t → IsGreater t u → IsGreater s u
  transitive (variable v) t u h k = absurd (variable_is_least v t h)
  transitive (symbol f ts) (variable v) u h k = absurd (variable_is_least v u k)
  transitive (symbol f ts) (symbol g us) (variable w) h k = (
    Covers-trans (symbol f ts) (symbol g us) (variable w) h.0 k.0,
    elim k.1 [
      | inl l ↦ elim h.1 [ inl m ↦ inl (omega arith) | inr e ↦ (let q = e.0 in inl (omega arith)) ]
      | inr e ↦ absurd e.1
    ],
  )
  transitive (symbol f ts) (symbol g us) (symbol j vs) h k = (
    Covers-trans (symbol f ts) (symbol g us) (symbol j vs) h.0 k.0,
    elim h.1 [
      | inl l ↦ elim k.1 [ inl m ↦ inl (omega arith) | inr e ↦ (let q = e.0 in inl (omega arith)) ]
      | inr e ↦ elim k.1 [
        | inl m ↦ (let q = e.0 in inl (omega arith))
        | inr d ↦ inr (
          e.0 ∙ d.0,
          elim e.1 [
            | inl m ↦ elim d.1 [ inl n ↦ inl (omega arith) | inr p ↦ (let q = p.0 in inl (omega arith)) ]
            | inr o ↦ elim d.1 [ inl n ↦ (let q = o.0 in inl (omega arith)) | inr p ↦ inr (o.0 ∙ p.0, transitive_all ts us vs o.1 p.1) ]
          ],
        )
      ]
    ],
  )

  pub transitive_all : (ts us vs : Terms) → FirstIsGreater ts us → FirstIsGreater us vs → FirstIsGreater ts vs
  transitive_all none us vs h k = absurd h
  transitive_all (more t ts) none vs h k = absurd h
  transitive_all (more t ts) (more u us) none h k = absurd k
  transitive_all (more t ts) (more u us) (more v vs) h k =
      elim h [
        | inl g ↦ elim k [ inl m ↦ inl (transitive t u v g m) | inr p ↦ inl (rw (← p.0) g) ]
        | inr e ↦ elim k [ inl m ↦ inl (rw e.0 m) | inr p ↦ inr (e.0 ∙ p.0, transitive_all ts us vs e.1 p.1) ]
      ]

less_or_same : (m n : ℕ) → m ≤ n → (m < n) ⊎ (n ≡ m)
less_or_same m n h = grind arith

mutual
  pub stable : (r : Substitution) (s t : Term) → IsGreater s t → IsGreater (apply r s) (apply r t)
  stable r (variable v) t h = absurd (variable_is_least v t h)
  stable r (symbol f ts) (variable w) h =
      let gains = size-gains r (symbol f ts) (variable w) h.0 in
      let heavier : size (r w) < size (apply r (symbol f ts)) = elim h.1 [ inl l ↦ omega arith | inr e ↦ absurd e.1 ] in
      heavier_wins (symbol f (apply_to_all r ts)) (r w) (Covers-apply r (symbol f ts) (variable w) h.0) heavier
  stable r (symbol f ts) (symbol g us) h =
      let gains = size-gains r (symbol f ts) (symbol g us) h.0 in (
        Covers-apply r (symbol f ts) (symbol g us) h.0,
        elim h.1 [
          | inl l ↦ inl (omega arith)
          | inr e ↦ (let q = e.0 in elim (less_or_same (size (apply r (symbol g us))) (size (apply r (symbol f ts))) (omega arith)) [
            | inl l ↦ inl l
            | inr same ↦ inr (same, elim e.1 [ inl l ↦ inl l | inr p ↦ inr (p.0, stable_all r ts us p.1) ])
          ])
        ],
      )

  pub stable_all : (r : Substitution) (ts us : Terms) → FirstIsGreater ts us → FirstIsGreater (apply_to_all r ts) (apply_to_all r us)
  stable_all r none us h = absurd h
  stable_all r (more t ts) none h = absurd h
  stable_all r (more t ts) (more u us) h = elim h [ inl g ↦ inl (stable r t u g) | inr p ↦ inr (ap (apply r) p.0, stable_all r ts us p.1) ]

variable_occurs : (v : ℕ) → IsGround (variable v) → ⊥
variable_occurs v g =
    let here : occurrences v (variable v) ≡ 0 = g v in
    let e : nat_eq v v ≡ true = search rules in
    let one : occurrences v (variable v) ≡ 1 = rw e refl in
    absurd (omega arith)

compared : (m n : ℕ) → (m < n) ⊎ ((m ≡ n) ⊎ (n < m))
compared m n = grind arith

ground_covers : (s t : Term) → IsGround t → Covers s t
ground_covers s t h v = let a = h v in omega arith

mutual
  pub total_on_ground : (s t : Term) → IsGround s → IsGround t → IsGreater s t ⊎ ((s ≡ t) ⊎ IsGreater t s)
  total_on_ground (variable v) t g h = absurd (variable_occurs v g)
  total_on_ground (symbol f ts) (variable w) g h = absurd (variable_occurs w h)
  total_on_ground (symbol f ts) (symbol j us) g h =
      elim (compared (size (symbol f ts)) (size (symbol j us))) [
        | inl l ↦ inr (inr (ground_covers (symbol j us) (symbol f ts) g, inl l))
        | inr m ↦ elim m [
          | inr l ↦ inl (ground_covers (symbol f ts) (symbol j us) h, inl l)
          | inl e ↦ elim (compared f j) [
            | inl l ↦ inr (inr (ground_covers (symbol j us) (symbol f ts) g, inr (sym e, inl l)))
            | inr n ↦ elim n [
              | inr l ↦ inl (ground_covers (symbol f ts) (symbol j us) h, inr (e, inl l))
              | inl q ↦ elim (total_on_ground_all ts us g h (omega arith)) [
                | inl a ↦ inl (ground_covers (symbol f ts) (symbol j us) h, inr (e, inr (q, a)))
                | inr b ↦ elim b [
                  | inl same ↦ inr (inl (rw (q, same) refl))
                  | inr a ↦ inr (inr (ground_covers (symbol j us) (symbol f ts) g, inr (sym e, inr (sym q, a))))
                ]
              ]
            ]
          ]
        ]
      ]

  total_on_ground_all : (ts us : Terms) → ((v : ℕ) → occurrences_in_all v ts ≡ 0) → ((v : ℕ) → occurrences_in_all v us ≡ 0) → size_of_all ts ≡ size_of_all us
      → FirstIsGreater ts us ⊎ ((ts ≡ us) ⊎ FirstIsGreater us ts)
  total_on_ground_all none none g h e = inr (inl refl)
  total_on_ground_all none (more u us) g h e = let p = size-positive u in absurd (omega arith)
  total_on_ground_all (more t ts) none g h e = let p = size-positive t in absurd (omega arith)
  total_on_ground_all (more t ts) (more u us) g h e =
      elim (total_on_ground t u (λ v. let a = g v in omega arith) (λ v. let a = h v in omega arith)) [
        | inl a ↦ inl (inl a)
        | inr b ↦ elim b [
          | inr a ↦ inr (inr (inl a))
          | inl same ↦ (let sizes : size t ≡ size u = ap size same in
              elim (total_on_ground_all ts us (λ v. let a = g v in omega arith) (λ v. let a = h v in omega arith) (omega arith)) [
                | inl a ↦ inl (inr (same, a))
                | inr c ↦ elim c [ inl d ↦ inr (inl (rw (same, d) refl)) | inr a ↦ inr (inr (inr (sym same, a))) ]
              ])
        ]
      ]
