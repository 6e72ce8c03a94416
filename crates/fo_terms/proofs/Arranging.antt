-- Bindings in an order, one more at a time; and none where each waits for another.
use Rattle.std.proofs.Common.{ℕ, zero, suc, ◌+◌, ◌≡◌, ◌≢◌, ◌<◌, ◌≤◌, Bool, true, false, List, [], ◌∷◌, ◌++◌, length, set, reverse, Some, refl, sym, ◌∙◌, ap, arith, rules, ◌⊎◌, inl, inr}
use Rattle.std.specs.Prelude.{slice_get, nat_eq}
use Rattle.std.proofs.lemmas.Option.{slice_get_within}
use Rattle.std.proofs.lemmas.List.{reverse-append}
use Rattle.fo_terms.specs.declared.term.FoNode.{FoNode}
use Rattle.fo_terms.specs.declared.term.FoNode.TheVariants.{Var, Sym}
use Rattle.fo_terms.specs.declared.bindings.Binding.{Binding}
use Rattle.fo_terms.specs.Terms.{Term, variable, symbol, size, size_of_all, occurs, occurs_in_any, first_terms}
use Rattle.fo_terms.specs.Substitutions.{Substitution, apply, apply_to_all}
use Rattle.fo_terms.specs.Places.{terms_at, term_at, IsFull, IsBehind}
use Rattle.fo_terms.specs.Bindings.{solution, IsFree, Binds, IsBoundAt, AreMade, AreBindings, Obeys}
use Rattle.fo_terms.specs.Arranging.{IsReady, IsBlocked, AreOrdered, AreArranged, AreStuck, unmarked, SayTheSame}
use Rattle.fo_terms.proofs.Substituting.{nat_eq-refl, apply-same, apply-variable, size-occurs, size_of_all-occurs}
use Rattle.fo_terms.proofs.Walking.{term_at-variable, term_at-symbol}
use Rattle.fo_terms.proofs.Extending.{slice_get-push, slice_get-pushed, slice_get-kept, AreBindings-push}
use Rattle.fo_terms.proofs.Spans.{place_of, occurs_at_place}

-- ---- what stands in a reversed list

reverse-cons : {X : Type 0} (x : X) (xs : List X) → reverse (x ∷ xs) ≡ reverse xs ++ x ∷ []
reverse-cons x xs = reverse-append (x ∷ []) xs

reverse-back : {X : Type 0} (xs : List X) (k : ℕ) (z : X) → slice_get (reverse xs) k ≡ Some z → (j : ℕ) × (slice_get xs j ≡ Some z)
reverse-back [] k z h = absurd cc
reverse-back (x ∷ xs) k z h =
    elim (slice_get-push (reverse xs) x k z (rw (reverse-cons x xs) at h)) [
      | inl l ↦ (let r = reverse-back xs k z l in (suc r.0, r.1))
      | inr m ↦ (0, ap Some m.1)
    ]

reverse-to : {X : Type 0} (xs : List X) (j : ℕ) (z : X) → slice_get xs j ≡ Some z → (k : ℕ) × (slice_get (reverse xs) k ≡ Some z)
reverse-to [] j z h = absurd cc
reverse-to (x ∷ xs) zero z h = (length (reverse xs), rw (reverse-cons x xs) (slice_get-pushed (reverse xs) x ∙ h))
reverse-to (x ∷ xs) (suc j) z h = let r = reverse-to xs j z h in (r.0, rw (reverse-cons x xs) (slice_get-kept (reverse xs) (x ∷ []) r.0 z r.1))

-- ---- the order is one in which bindings can be made

AreOrdered-tail : (ns : List FoNode) (b : Binding) (bs : List Binding) → AreOrdered ns (b ∷ bs) → AreOrdered ns bs
AreOrdered-tail ns b bs o = record {
  inside = λ i c h. o.inside (suc i) c h;
  absent = λ i j c d l h k q. o.absent (suc i) (suc j) c d (omega arith) h k q;
  once = λ i j c d l h k. o.once (suc i) (suc j) c d (omega arith) h k;
}

true_or_false : (b : Bool) → (b ≡ true → ⊥) → b ≡ false
true_or_false true h = absurd (h refl)
true_or_false false h = refl

AreBindings-none : (ns : List FoNode) → AreBindings ns []
unfolding solution
AreBindings-none ns = record {
  bound = λ k b h. absurd cc;
  free = λ v h. refl;
  images = λ w v o k b h. absurd cc;
  inside = λ k b h. absurd cc;
  once = λ i j b c h k e. absurd cc;
  ordered = λ k b h. absurd cc;
}

-- where no variable of a term is bound, it stays as it is
unchanged : (ns : List FoNode) (bs : List Binding) (t : Term) → AreBindings ns bs → ((v : ℕ) → occurs v t ≡ true → IsFree bs v) → apply (solution ns bs) t ≡ t
unchanged ns bs t g f = apply-same (solution ns bs) variable t (λ v o. g.free v (f v o)) ∙ apply-variable t

pub AreBindings-reverse : (ns : List FoNode) (done : List Binding) → AreOrdered ns done → AreBindings ns (reverse done)
AreBindings-reverse ns [] o = AreBindings-none ns
AreBindings-reverse ns (b ∷ bs) o =
    let g : AreBindings ns (reverse bs) = AreBindings-reverse ns bs (AreOrdered-tail ns b bs o) in
    let open_there : (v : ℕ) → occurs v (term_at ns b.place) ≡ true → IsFree (reverse bs) v = (λ v q k c h e. (let r = reverse-back bs k c h in o.absent 0 (suc r.0) b c (omega arith) refl r.1 (rw e q))) in
    let still : apply (solution ns (reverse bs)) (term_at ns b.place) ≡ term_at ns b.place = unchanged ns (reverse bs) (term_at ns b.place) g open_there in
    rw (reverse-cons b bs)
    (AreBindings-push ns (reverse bs) g b
    (λ k c h e. (let r = reverse-back bs k c h in o.once 0 (suc r.0) b c (omega arith) refl r.1 (sym e)))
    (o.inside 0 b refl)
    (λ w h. open_there w (rw (term_at-variable ns b.place w h) (nat_eq-refl w)))
    (rw still (true_or_false (occurs b.variable (term_at ns b.place)) (λ q. o.absent 0 0 b b (omega arith) refl refl q))))

pub IsFree-reverse : (ns : List FoNode) (b : Binding) (bs : List Binding) → AreOrdered ns (b ∷ bs) → IsFree (reverse bs) b.variable
IsFree-reverse ns b bs o k c h e = let r = reverse-back bs k c h in o.once 0 (suc r.0) b c (omega arith) refl r.1 (sym e)

-- ---- one more

slice_get-set : {X : Type 0} (xs : List X) (i : ℕ) (v : X) (j : ℕ) (z : X) → slice_get (set xs i v) j ≡ Some z → ((j ≡ i) × (v ≡ z)) ⊎ (slice_get xs j ≡ Some z)
slice_get-set [] i v j z h = absurd cc
slice_get-set (x ∷ xs) zero v zero z h = inl (refl, (cc))
slice_get-set (x ∷ xs) zero v (suc j) z h = inr h
slice_get-set (x ∷ xs) (suc i) v zero z h = inr h
slice_get-set (x ∷ xs) (suc i) v (suc j) z h = elim (slice_get-set xs i v j z h) [ inl l ↦ inl (ap suc l.0, l.1) | inr r ↦ inr r ]

set-here : {X : Type 0} (xs : List X) (i : ℕ) (v z : X) → slice_get xs i ≡ Some z → slice_get (set xs i v) i ≡ Some v
set-here [] i v z h = absurd cc
set-here (x ∷ xs) zero v z h = refl
set-here (x ∷ xs) (suc i) v z h = set-here xs i v z h

set-kept : (ms : List Bool) (i j : ℕ) → slice_get ms j ≡ Some true → slice_get (set ms i true) j ≡ Some true
set-kept [] i j h = h
set-kept (m ∷ ms) zero zero h = refl
set-kept (m ∷ ms) zero (suc j) h = h
set-kept (m ∷ ms) (suc i) zero h = h
set-kept (m ∷ ms) (suc i) (suc j) h = set-kept ms i j h

length-set : {X : Type 0} (xs : List X) (i : ℕ) (v : X) → length (set xs i v) ≡ length xs
length-set [] i v = refl
length-set (x ∷ xs) zero v = refl
length-set (x ∷ xs) (suc i) v = ap suc (length-set xs i v)

pub unmarked-set : (ms : List Bool) (i : ℕ) → slice_get ms i ≡ Some false → unmarked (set ms i true) < unmarked ms
unmarked-set [] i h = absurd cc
unmarked-set (m ∷ ms) zero h = let e : m ≡ false = cc in rw e (omega arith)
unmarked-set (m ∷ ms) (suc i) h = let k = unmarked-set ms i h in omega arith

both_marks : (ms : List Bool) (k : ℕ) → slice_get ms k ≡ Some true → slice_get ms k ≡ Some false → ⊥
both_marks ms k h l = cc

module _ (ns : List FoNode) (bs : List Binding) (g : AreMade ns bs) (marks : List Bool) (done : List Binding) (a : AreArranged ns bs marks done) (n : ℕ) (b : Binding) (stands : slice_get bs n ≡ Some b) (open_mark : slice_get marks n ≡ Some false) (ready : IsReady ns bs marks b.place) where
  ready_after : (at : ℕ) → IsReady ns bs marks at → IsReady ns bs (set marks n true) at
  ready_after at r v k o h = set-kept marks n k (r v k o h)

  absent_after : (i j : ℕ) (c d : Binding) → i ≤ j → slice_get (done ++ b ∷ []) i ≡ Some c → slice_get (done ++ b ∷ []) j ≡ Some d → occurs d.variable (term_at ns c.place) ≡ true → ⊥
  absent_after i j c d l h k q =
      elim (slice_get-push done b i c h) [
        | inl m ↦ elim (slice_get-push done b j d k) [
          | inl o ↦ a.ordered.absent i j c d l m o q
          | inr o ↦ both_marks marks n (a.ready i c m d.variable n q (b, stands, ap (λ (x : Binding). x.variable) o.1)) open_mark
        ]
        | inr m ↦ elim (slice_get-push done b j d k) [
          | inl o ↦ (let w = slice_get_within done j d o in let e = m.0 in absurd (omega arith))
          | inr o ↦ both_marks marks n (ready d.variable n (rw (← m.1) at q) (b, stands, ap (λ (x : Binding). x.variable) o.1)) open_mark
        ]
      ]

  once_after : (i j : ℕ) (c d : Binding) → i < j → slice_get (done ++ b ∷ []) i ≡ Some c → slice_get (done ++ b ∷ []) j ≡ Some d → c.variable ≢ d.variable
  once_after i j c d l h k e =
      elim (slice_get-push done b i c h) [
        | inl m ↦ elim (slice_get-push done b j d k) [
          | inl o ↦ a.ordered.once i j c d l m o e
          | inr o ↦ (let p = a.marked i c m in
              let same : p.0 ≡ n = g.once p.0 n c b p.1 stands (e ∙ ap (λ (x : Binding). x.variable) (sym o.1)) in
              both_marks marks n (rw same at p.2) open_mark)
        ]
        | inr m ↦ elim (slice_get-push done b j d k) [
          | inl o ↦ (let w = slice_get_within done j d o in let q = m.0 in absurd (omega arith))
          | inr o ↦ (let q = m.0 in let p = o.0 in absurd (omega arith))
        ]
      ]

  pub AreArranged-push : AreArranged ns bs (set marks n true) (done ++ b ∷ [])
  AreArranged-push = record {
    as_long = length-set marks n true ∙ a.as_long;
    marked = λ i c h. elim (slice_get-push done b i c h) [
      | inl m ↦ (let p = a.marked i c m in (p.0, p.1, set-kept marks n p.0 p.2))
      | inr m ↦ (n, stands ∙ ap Some m.1, set-here marks n true false open_mark)
    ];
    all = λ k c h m. elim (slice_get-set marks n true k true m) [
      | inl e ↦ (let here : slice_get bs n ≡ Some c = rw (← e.0) h in let same : b ≡ c = cc in (length done, slice_get-pushed done b ∙ ap Some same))
      | inr o ↦ (let p = a.all k c h o in (p.0, slice_get-kept done (b ∷ []) p.0 c p.1))
    ];
    ready = λ i c h. elim (slice_get-push done b i c h) [
      | inl m ↦ ready_after c.place (a.ready i c m)
      | inr m ↦ rw (← m.1) (ready_after b.place ready)
    ];
    ordered = record {
      inside = λ i c h. elim (slice_get-push done b i c h) [ inl m ↦ a.ordered.inside i c m | inr m ↦ rw (← m.1) (g.inside n b stands) ];
      absent = absent_after;
      once = once_after;
    };
  }

pub AreArranged-none : (ns : List FoNode) (bs : List Binding) (marks : List Bool) → length marks ≡ length bs → ((k : ℕ) → slice_get marks k ≡ Some true → ⊥) → AreArranged ns bs marks []
AreArranged-none ns bs marks l n = record {
  as_long = l;
  marked = λ i b h. absurd cc;
  all = λ k b h m. absurd (n k m);
  ready = λ i b h. absurd cc;
  ordered = record { inside = λ i b h. absurd cc; absent = λ i j b c l h k q. cc; once = λ i j b c l h k e. cc };
}

-- ---- a look at the nodes of a term

pub ready_from : (ns : List FoNode) (bs : List Binding) (marks : List Bool) (at e : ℕ) → IsFull ns → IsBehind ns at e → ((p k : ℕ) → at ≤ p → p < e → IsBoundAt ns bs k p → slice_get marks k ≡ Some true) → IsReady ns bs marks at
ready_from ns bs marks at e f b h v k o w =
    let p = place_of ns at e f b v o in
    h p.0 k p.1 p.2 (w.0, w.1, p.3 ∙ ap (λ (x : ℕ). Some (Var x)) (sym w.2))

pub blocked_at : (ns : List FoNode) (bs : List Binding) (marks : List Bool) (at e p k : ℕ) → IsFull ns → IsBehind ns at e → at ≤ p → p < e → IsBoundAt ns bs k p → slice_get marks k ≡ Some false → IsBlocked ns bs marks at
blocked_at ns bs marks at e p k f b l u h m = record {
  variable = h.0.variable;
  number = k;
  occurs_there = occurs_at_place ns at e f b h.0.variable p l u h.2;
  binds = (h.0, h.1, refl);
  unmarked = m;
}

-- ---- where each waits for another, none has a term

module _ (ns : List FoNode) (bs : List Binding) (g : AreMade ns bs) (marks : List Bool) (stuck : AreStuck ns bs marks (length bs)) (r : Substitution) (o : Obeys ns bs r) where
  abbrev Refutes : ℕ → Type 0
  Refutes n = (k : ℕ) (b : Binding) → slice_get bs k ≡ Some b → slice_get marks k ≡ Some false → size (r b.variable) < n → ⊥

  -- the variable that is waited for has a smaller term, or one of the same size and a later binding
  smaller : (k v j : ℕ) (b : Binding) (t : Term) → slice_get bs k ≡ Some b → term_at ns b.place ≡ t → occurs v t ≡ true → Binds bs j v → (w : ℕ) → t ≡ variable w → slice_get ns b.place ≡ Some (Var w) → k < j
  smaller k v j b t s is q m w e n =
      let same : v ≡ w = (let h : nat_eq v w ≡ true = rw e at q in search rules) in
      let later = g.ordered k b s w j n (m.0, m.1, m.2 ∙ same) in
      omega arith

  edge : (k v j : ℕ) (b : Binding) (n : FoNode) → slice_get bs k ≡ Some b → slice_get ns b.place ≡ Some n → occurs v (term_at ns b.place) ≡ true → Binds bs j v → (size (r v) < size (r b.variable)) ⊎ ((size (r v) ≤ size (r b.variable)) × (k < j))
  edge k v j b (Var w) s n q m =
      let is : term_at ns b.place ≡ variable w = term_at-variable ns b.place w n in
      let l = size-occurs r v (term_at ns b.place) q in
      let e : size (r b.variable) ≡ size (apply r (term_at ns b.place)) = ap size (o k b s) in
      inr ((omega arith), smaller k v j b (term_at ns b.place) s refl q m w is n)
  edge k v j b (Sym f c) s n q m =
      let is : term_at ns b.place ≡ symbol f (first_terms c (terms_at ns (suc b.place))) = term_at-symbol ns b.place f c n in
      let inside : occurs_in_any v (first_terms c (terms_at ns (suc b.place))) ≡ true = rw is at q in
      let l = size_of_all-occurs r v (first_terms c (terms_at ns (suc b.place))) inside in
      let e : size (r b.variable) ≡ suc (size_of_all (apply_to_all r (first_terms c (terms_at ns (suc b.place))))) = ap size (o k b s ∙ ap (apply r) is) in
      inl (omega arith)

  node_there : (xs : List FoNode) (i : ℕ) → i < length xs → (x : FoNode) × (slice_get xs i ≡ Some x)
  node_there [] i h = absurd (omega arith)
  node_there (x ∷ xs) zero h = (x, refl)
  node_there (x ∷ xs) (suc i) h = node_there xs i (omega arith)

  latest : (n : ℕ) → Refutes n → (m k : ℕ) (b : Binding) → slice_get bs k ≡ Some b → slice_get marks k ≡ Some false → size (r b.variable) ≤ n → length bs ≤ k + m → ⊥
  latest n before zero k b s u l e = let w = slice_get_within bs k b s in absurd (omega arith)
  latest n before (suc m) k b s u l e =
      let x = stuck k b (slice_get_within bs k b s) s u in
      let at = node_there ns b.place (g.inside k b s) in
      let d : Binding = x.binds.0 in
      let there : slice_get bs x.number ≡ Some d = x.binds.1 in
      let named : d.variable ≡ x.variable = x.binds.2 in
      elim (edge k x.variable x.number b at.0 s at.1 x.occurs_there x.binds) [
        | inl q ↦ before x.number d there x.unmarked (rw named (omega arith))
        | inr q ↦ (let p = q.0 in let j = q.1 in latest n before m x.number d there x.unmarked (rw named (omega arith)) (omega arith))
      ]

  refuted : (n : ℕ) → Refutes n
  refuted zero k b s u l = absurd (omega arith)
  refuted (suc n) k b s u l = latest n (refuted n) (length bs) k b s u (omega arith) (omega arith)

  pub none_obeys : (k : ℕ) (b : Binding) → slice_get bs k ≡ Some b → slice_get marks k ≡ Some false → ⊥
  none_obeys k b s u = refuted (suc (size (r b.variable))) k b s u (omega arith)

binding_there : (xs : List Binding) (i : ℕ) → i < length xs → (x : Binding) × (slice_get xs i ≡ Some x)
binding_there [] i h = absurd (omega arith)
binding_there (x ∷ xs) zero h = (x, refl)
binding_there (x ∷ xs) (suc i) h = binding_there xs i (omega arith)

pub stuck_refuses : (ns : List FoNode) (bs : List Binding) (marks : List Bool) → AreMade ns bs → length marks ≡ length bs → AreStuck ns bs marks (length bs) → (k : ℕ) → slice_get marks k ≡ Some false → (r : Substitution) → Obeys ns bs r → ⊥
stuck_refuses ns bs marks g l s k m r o =
    let w = slice_get_within marks k false m in
    let b = binding_there bs k (omega arith) in
    none_obeys ns bs g marks s r o k b.0 b.1 m

pub arranged_says : (ns : List FoNode) (bs : List Binding) (marks : List Bool) (done : List Binding) → AreArranged ns bs marks done → ((k : ℕ) → k < length marks → slice_get marks k ≡ Some true) → SayTheSame ns bs (reverse done)
arranged_says ns bs marks done a m r = (
  (λ o k b h. (let j = reverse-back done k b h in let p = a.marked j.0 b j.1 in o p.0 b p.1)),
  (λ o k b h. (let w = slice_get_within bs k b h in let l = a.as_long in let p = a.all k b h (m k (omega arith)) in let q = reverse-to done p.0 b p.1 in o q.0 b q.1)),
)
