-- One more binding: what it makes of the substitution, and which substitutions absorb it then.
use Rattle.std.proofs.Common.{ℕ, zero, suc, ◌≡◌, ◌≢◌, ◌<◌, true, false, List, [], ◌∷◌, ◌++◌, length, Some, refl, sym, ◌∙◌, ap, arith, ◌⊎◌, inl, inr, rules}
use Rattle.std.specs.Prelude.{nat_eq, slice_get, fold}
use Rattle.std.proofs.lemmas.List.Sums.{fold_push}
use Rattle.std.proofs.lemmas.Option.{slice_get_within}
use Rattle.fo_terms.specs.declared.term.FoNode.{FoNode}
use Rattle.fo_terms.specs.declared.term.FoNode.TheVariants.{Var}
use Rattle.fo_terms.specs.declared.bindings.Binding.{Binding}
use Rattle.fo_terms.specs.Terms.{Term, variable, occurs, first_term}
use Rattle.fo_terms.specs.Substitutions.{Substitution, apply}
use Rattle.fo_terms.specs.Places.{term_at}
use Rattle.fo_terms.specs.Bindings.{single, extended, solution, IsFree, LeadsPast, IsResolved, AreBindings, AreMade, Absorbs, Obeys}
use Rattle.fo_terms.proofs.Substituting.{apply-variable, apply-apply, apply-same, nat_eq-refl, occurs-apply}
use Rattle.fo_terms.proofs.AtPlaces.{terms_at-node}

pub slice_get-push : {X : Type 0} (xs : List X) (y : X) (k : ℕ) (z : X) → slice_get (xs ++ y ∷ []) k ≡ Some z → (slice_get xs k ≡ Some z) ⊎ ((k ≡ length xs) × (y ≡ z))
slice_get-push [] y zero z h = inr (refl, (cc))
slice_get-push [] y (suc k) z h = absurd cc
slice_get-push (x ∷ xs) y zero z h = inl h
slice_get-push (x ∷ xs) y (suc k) z h = elim (slice_get-push xs y k z h) [ inl l ↦ inl l | inr r ↦ inr (ap suc r.0, r.1) ]

pub slice_get-pushed : {X : Type 0} (xs : List X) (y : X) → slice_get (xs ++ y ∷ []) (length xs) ≡ Some y
slice_get-pushed [] y = refl
slice_get-pushed (x ∷ xs) y = slice_get-pushed xs y

pub slice_get-kept : {X : Type 0} (xs ys : List X) (k : ℕ) (z : X) → slice_get xs k ≡ Some z → slice_get (xs ++ ys) k ≡ Some z
slice_get-kept [] ys k z h = absurd cc
slice_get-kept (x ∷ xs) ys zero z h = h
slice_get-kept (x ∷ xs) ys (suc k) z h = slice_get-kept xs ys k z h

equal_or_not : (m n : ℕ) → (m ≡ n) ⊎ (nat_eq m n ≡ false)
equal_or_not m n = search rules

single-same : (v : ℕ) (t : Term) → single v t v ≡ t
single-same v t = rw (nat_eq-refl v) refl

single-other : (v : ℕ) (t : Term) (w : ℕ) → nat_eq w v ≡ false → single v t w ≡ variable w
single-other v t w h = rw h refl

false_if : (u w : ℕ) (t : Term) → occurs w t ≡ false → occurs u t ≡ true → u ≢ w
false_if u w t h k e = let k' : occurs w t ≡ true = rw e at k in cc

-- replacing a variable that does not occur
apply-single : (v : ℕ) (a t : Term) → occurs v t ≡ false → apply (single v a) t ≡ t
apply-single v a t h =
    apply-same (single v a) variable t (λ w o. elim (equal_or_not w v) [ inl e ↦ absurd (false_if w v t h o e) | inr n ↦ single-other v a w n ])
    ∙ apply-variable t

pub apply-absorbed : (r s : Substitution) → Absorbs r s → (t : Term) → apply r (apply s t) ≡ apply r t
apply-absorbed r s h t = apply-apply r s t ∙ apply-same (λ v. apply r (s v)) r t (λ v o. h v)

-- one more binding of a free variable, to a place where neither it nor a bound variable stands
module _ (ns : List FoNode) (bs : List Binding) (g : AreMade ns bs) (b : Binding) (unbound : IsFree bs b.variable) (within : b.place < length ns) (resolved : IsResolved ns bs b.place) (other : slice_get ns b.place ≢ Some (Var b.variable)) where
  inside_after : (k : ℕ) (c : Binding) → slice_get (bs ++ b ∷ []) k ≡ Some c → c.place < length ns
  inside_after k c h = elim (slice_get-push bs b k c h) [ inl l ↦ g.inside k c l | inr r ↦ rw (← r.1) within ]

  ordered_after : (k : ℕ) (c : Binding) → slice_get (bs ++ b ∷ []) k ≡ Some c → LeadsPast ns (bs ++ b ∷ []) (suc k) c.place
  ordered_after k c h w j at (d, here, is) =
      elim (slice_get-push bs b k c h) [
        | inl l ↦ elim (slice_get-push bs b j d here) [
          | inl m ↦ g.ordered k c l w j at (d, m, is)
          | inr m ↦ (let p : k < length bs = slice_get_within bs k c l in omega arith)
        ]
        | inr r ↦ elim (slice_get-push bs b j d here) [
          | inl m ↦ absurd (resolved w (rw (← r.1) at at) j d m is)
          | inr m ↦ absurd (other (rw (← r.1, ← is, ← m.1) at at))
        ]
      ]

  once_after : (i j : ℕ) (c d : Binding) → slice_get (bs ++ b ∷ []) i ≡ Some c → slice_get (bs ++ b ∷ []) j ≡ Some d → c.variable ≡ d.variable → i ≡ j
  once_after i j c d h k e =
      elim (slice_get-push bs b i c h) [
        | inl l ↦ elim (slice_get-push bs b j d k) [
          | inl m ↦ g.once i j c d l m e
          | inr m ↦ absurd (unbound i c l (e ∙ ap (λ (x : Binding). x.variable) (sym m.1)))
        ]
        | inr l ↦ elim (slice_get-push bs b j d k) [
          | inl m ↦ absurd (unbound j d m (sym e ∙ ap (λ (x : Binding). x.variable) (sym l.1)))
          | inr m ↦ l.0 ∙ sym m.0
        ]
      ]

  pub AreMade-push : AreMade ns (bs ++ b ∷ [])
  AreMade-push = record { inside = inside_after; once = once_after; ordered = ordered_after }

-- a substitution that obeys the bindings obeys one more
pub Obeys-push : (ns : List FoNode) (bs : List Binding) (b : Binding) (r : Substitution) → Obeys ns bs r → r b.variable ≡ apply r (term_at ns b.place) → Obeys ns (bs ++ b ∷ []) r
Obeys-push ns bs b r o e k c h = elim (slice_get-push bs b k c h) [ inl l ↦ o k c l | inr m ↦ rw (← m.1) e ]

pub Obeys-before : (ns : List FoNode) (bs : List Binding) (b : Binding) (r : Substitution) → Obeys ns (bs ++ b ∷ []) r → Obeys ns bs r × (r b.variable ≡ apply r (term_at ns b.place))
Obeys-before ns bs b r o = ((λ k c h. o k c (slice_get-kept bs (b ∷ []) k c h)), o (length bs) b (slice_get-pushed bs b))

pub AreMade-from : (ns : List FoNode) (bs : List Binding) → AreBindings ns bs → AreMade ns bs
AreMade-from ns bs g = record { inside = g.inside; once = g.once; ordered = g.ordered }

module _ (ns : List FoNode) (bs : List Binding) (g : AreBindings ns bs) (b : Binding) (unbound : IsFree bs b.variable) (within : b.place < length ns) (resolved : IsResolved ns bs b.place) (absent : occurs b.variable (apply (solution ns bs) (term_at ns b.place)) ≡ false) where
  abbrev s : Substitution
  s = solution ns bs

  abbrev put : Term
  put = apply s (term_at ns b.place)

  abbrev after : Substitution
  after = extended ns s b

  pub solution-push : solution ns (bs ++ b ∷ []) ≡ after
  unfolding solution
  solution-push = fold_push (extended ns) variable bs b

  after-variable : after b.variable ≡ put
  after-variable = rw (g.free b.variable unbound) (single-same b.variable put)

  after-place : apply after (term_at ns b.place) ≡ put
  after-place = sym (apply-apply (single b.variable put) s (term_at ns b.place)) ∙ apply-single b.variable put put absent

  IsFree-push : (u : ℕ) → IsFree bs u → u ≢ b.variable → IsFree (bs ++ b ∷ []) u
  IsFree-push u h n k c e = elim (slice_get-push bs b k c e) [ inl l ↦ h k c l | inr r ↦ (λ (q : c.variable ≡ u). n (sym q ∙ ap (λ (x : Binding). x.variable) (sym r.1))) ]

  pub IsFree-before : (u : ℕ) → IsFree (bs ++ b ∷ []) u → IsFree bs u × (u ≢ b.variable)
  IsFree-before u h = ((λ k c e. h k c (slice_get-kept bs (b ∷ []) k c e)), (λ q. h (length bs) b (slice_get-pushed bs b) (sym q)))

  bound_after : (k : ℕ) (c : Binding) → slice_get (bs ++ b ∷ []) k ≡ Some c → after c.variable ≡ apply after (term_at ns c.place)
  bound_after k c h = elim (slice_get-push bs b k c h) [
    | inl l ↦ ap (apply (single b.variable put)) (g.bound k c l) ∙ apply-apply (single b.variable put) s (term_at ns c.place)
    | inr r ↦ rw (← r.1) (after-variable ∙ sym after-place)
  ]

  free_after : (v : ℕ) → IsFree (bs ++ b ∷ []) v → after v ≡ variable v
  free_after v h =
      let p : IsFree bs v × (v ≢ b.variable) = IsFree-before v h in
      rw (g.free v p.0) (elim (equal_or_not v b.variable) [ inl e ↦ absurd (p.1 e) | inr n ↦ single-other b.variable put v n ])

  images_after : (w v : ℕ) → occurs v (after w) ≡ true → IsFree (bs ++ b ∷ []) v
  images_after w v h =
      let u : (u : ℕ) × (occurs u (s w) ≡ true) × (occurs v (single b.variable put u) ≡ true) = occurs-apply (single b.variable put) v (s w) h in
      elim (equal_or_not u.0 b.variable) [
        | inl e ↦ (let inside : occurs v put ≡ true = rw (e, single-same b.variable put) at u.2 in
            let x : (x : ℕ) × (occurs x (term_at ns b.place) ≡ true) × (occurs v (s x) ≡ true) = occurs-apply s v (term_at ns b.place) inside in
            IsFree-push v (g.images x.0 v x.2) (false_if v b.variable put absent inside))
        | inr n ↦ (let alone : nat_eq v u.0 ≡ true = rw (single-other b.variable put u.0 n) at u.2 in
            let same : v ≡ u.0 = search rules in
            rw same (IsFree-push u.0 (g.images w u.0 u.1) (λ q. let t : nat_eq u.0 b.variable ≡ true = rw q (nat_eq-refl b.variable) in cc)))
      ]

  other : slice_get ns b.place ≢ Some (Var b.variable)
  other self =
      let is_variable : term_at ns b.place ≡ variable b.variable = ap first_term (terms_at-node ns b.place (Var b.variable) self) in
      let occurs_here : occurs b.variable put ≡ true = rw (is_variable, g.free b.variable unbound) (nat_eq-refl b.variable) in
      cc

  made : AreMade ns (bs ++ b ∷ [])
  made = AreMade-push ns bs (AreMade-from ns bs g) b unbound within resolved other

  pub AreBindings-push : AreBindings ns (bs ++ b ∷ [])
  AreBindings-push = record {
    bound = λ k c h. rw solution-push (bound_after k c h);
    free = λ v h. rw solution-push (free_after v h);
    images = λ w v h. images_after w v (rw solution-push at h);
    inside = made.inside;
    once = made.once;
    ordered = made.ordered;
  }

-- what obeys bindings absorbs what they make, and the other way round
through_single : (v : ℕ) (t : Term) (r : Substitution) → r v ≡ apply r t → (u : ℕ) → apply r (single v t u) ≡ r u
through_single v t r h u = elim (equal_or_not u v) [
  | inl e ↦ rw (e, single-same v t) (sym h)
  | inr n ↦ rw (single-other v t u n) refl
]

Absorbs-fold : (ns : List FoNode) (r s : Substitution) (bs : List Binding) → Absorbs r s → Obeys ns bs r → Absorbs r (fold (extended ns) s bs)
Absorbs-fold ns r s [] a o = a
Absorbs-fold ns r s (b ∷ bs) a o =
    let put : Term = apply s (term_at ns b.place) in
    let one : r b.variable ≡ apply r put = o 0 b refl ∙ sym (apply-absorbed r s a (term_at ns b.place)) in
    Absorbs-fold ns r (extended ns s b) bs (λ w. apply-absorbed r (single b.variable put) (through_single b.variable put r one) (s w) ∙ a w) (λ k c h. o (suc k) c h)

pub Absorbs-obeyed : (ns : List FoNode) (bs : List Binding) (r : Substitution) → Obeys ns bs r → Absorbs r (solution ns bs)
unfolding solution
Absorbs-obeyed ns bs r o = Absorbs-fold ns r variable bs (λ w. refl) o

pub Obeys-absorbed : (ns : List FoNode) (bs : List Binding) (r : Substitution) → AreBindings ns bs → Absorbs r (solution ns bs) → Obeys ns bs r
Obeys-absorbed ns bs r g a k b h = sym (a b.variable) ∙ ap (apply r) (g.bound k b h) ∙ apply-absorbed r (solution ns bs) a (term_at ns b.place)
