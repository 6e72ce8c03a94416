-- Rounds of unification, and what their bindings come to.
use Rattle.std.proofs.Common.{ℕ, zero, suc, ◌≡◌, ◌≢◌, ◌<◌, ◌≤◌, Bool, true, false, List, [], ◌∷◌, ◌++◌, length, Some, map, refl, sym, ◌∙◌, ap, arith, ◌⊎◌, inl, inr, rules}
use Rattle.std.specs.Prelude.{slice_get, nat_eq, All}
use Rattle.std.proofs.lemmas.List.Elements.{All-nil, All-cons, All-head, All-append}
use Rattle.fo_terms.specs.declared.term.FoNode.{FoNode}
use Rattle.fo_terms.specs.declared.term.FoNode.TheVariants.{Sym}
use Rattle.fo_terms.specs.declared.bindings.Binding.{Binding}
use Rattle.fo_terms.specs.declared.bindings.Equation.{Equation}
use Rattle.fo_terms.specs.declared.solve.Opening.{Opening}
use Rattle.fo_terms.specs.declared.solve.Step.TheVariants.{Split, Clash, Bind, Open}
use Rattle.fo_terms.specs.Terms.{Term, Terms, variable, symbol, none, more, count, first_terms, first_term}
use Rattle.fo_terms.specs.Substitutions.{Substitution, apply, apply_to_all, image, IsMostGeneralUnifier, IsIdempotent, IsOnce}
use Rattle.fo_terms.specs.Places.{terms_at, term_at, IsFull}
use Rattle.fo_terms.specs.Bindings.{solution, IsFree, AreBindings, AreMade, Absorbs, Obeys, IsLoose, IsSolution, pair_of}
use Rattle.fo_terms.specs.Classes.{IsAlong, IsForest, AreAlone, roots}
use Rattle.fo_terms.specs.Depths.{mapped, cut, whole}
use Rattle.fo_terms.specs.Solving.{seen, IsWithin, Solves, HaveDifferentHeads, IsBindable, IsOpening, IsSettled, IsState}
use Rattle.fo_terms.specs.Rounds.{IsFurther}
use Rattle.fo_terms.specs.Arranging.{SayTheSame}
use Rattle.fo_terms.proofs.Substituting.{apply-variable, apply-same, count-apply_to_all}
use Rattle.fo_terms.proofs.AtPlaces.{some_at}
use Rattle.fo_terms.proofs.Depths.{all_depths}
use Rattle.fo_terms.proofs.Stepping.{symbol-parts, seen-symbol}
use Rattle.fo_terms.proofs.Extending.{Obeys-push, Obeys-before, AreMade-push, Absorbs-obeyed, Obeys-absorbed}
use Rattle.fo_terms.proofs.Settling.{open_places-push, All-left, All-right}

-- terms with different heads are never made one
heads_apart : (r : Substitution) (t u : Term) → HaveDifferentHeads t u → apply r t ≡ apply r u → ⊥
heads_apart r (variable v) u d e = d
heads_apart r (symbol f ts) (variable w) d e = d
heads_apart r (symbol f ts) (symbol g us) d e =
    let p = symbol-parts f g (apply_to_all r ts) (apply_to_all r us) e in
    elim d [
      | inl n ↦ n p.0
      | inr n ↦ n (sym (count-apply_to_all r ts) ∙ ap count p.1 ∙ count-apply_to_all r us)
    ]

-- the arguments of two symbols as an equation
Solves-arguments : (ns : List FoNode) (h : Term → Term) (r : Substitution) (q : Equation) (left right : ℕ) → q.left ≡ suc left → q.right ≡ suc right
    → mapped h (apply_to_all r (first_terms q.count (terms_at ns (suc left)))) ≡ mapped h (apply_to_all r (first_terms q.count (terms_at ns (suc right)))) → Solves ns h r q
Solves-arguments ns h r q left right l m e = rw (l, m) e

arguments-solved : (ns : List FoNode) (h : Term → Term) (r : Substitution) (q : Equation) (left right : ℕ) → q.left ≡ suc left → q.right ≡ suc right → Solves ns h r q
    → mapped h (apply_to_all r (first_terms q.count (terms_at ns (suc left)))) ≡ mapped h (apply_to_all r (first_terms q.count (terms_at ns (suc right))))
arguments-solved ns h r q left right l m e = rw (l, m) at e

IsWithin-arguments : (ns : List FoNode) (q : Equation) (left right : ℕ) → q.left ≡ suc left → q.right ≡ suc right → q.count ≤ count (terms_at ns (suc left)) → q.count ≤ count (terms_at ns (suc right)) → IsWithin ns q
IsWithin-arguments ns q left right l m a b = record { left = rw l a; right = rw m b }

module _ (ns : List FoNode) (bs : List Binding) (ps : List ℕ) (left right : Term) (old new : List Equation) (state : IsState ns bs ps left right old) where
  pub round-solved : AreMade ns bs → IsSettled ns bs ps old new Split → IsLoose ns bs left right
  round-solved made settled = record {
    made = made;
    from = λ r e. (state.from r e).0;
    back = λ r o. all_depths (apply r left) (apply r right) (λ n. state.back r n o (along r o n) (work r o n (along r o n)));
  }
    where
      work : (r : Substitution) → Obeys ns bs r → (n : ℕ) → IsAlong (seen ns (cut n) r) ps → All (Solves ns (cut n) r) old
      work r o n a = settled.back (cut n) r o a (rw (settled.all_done refl) (All-nil (Solves ns (cut n) r))) tt

      along : (r : Substitution) → Obeys ns bs r → (n : ℕ) → IsAlong (seen ns (cut n) r) ps
      along r o zero i j e = refl
      along r o (suc n) i j e = state.deeper r n o (along r o n) (work r o n (along r o n)) i j e

  pub round-clash : IsSettled ns bs ps old new Clash → (r : Substitution) → apply r left ≡ apply r right → ⊥
  round-clash settled r e =
      let f = state.from r e in
      let w = (settled.from whole r f.0 f.1 f.2).1 in
      heads_apart r w.0 w.1 w.2 w.3

  module _ (b : Binding) (settled : IsSettled ns bs ps old new (Bind b)) where
    pub round-bound : AreMade ns bs → IsForest ps → length ps ≡ length ns → IsFurther ns left right bs (bs ++ b ∷ []) ps ps new
    round-bound made forest as_long =
        let can : IsBindable ns bs b = settled.can in
        let few = open_places-push bs b ns can.stands.0 can.free can.stands.1 in
        record {
          made = AreMade-push ns bs made b can.free can.inside can.resolved can.other;
          forest = forest;
          as_long = as_long;
          within = settled.within;
          state = record {
            from = λ r e.
                (let f = state.from r e in
                let s = settled.from whole r f.0 f.1 f.2 in
                (Obeys-push ns bs b r f.0 s.1, f.1, s.0));
            deeper = λ r n o a w. (let before = Obeys-before ns bs b r o in state.deeper r n before.0 a (settled.back (cut n) r before.0 a w (ap (cut n) before.1)));
            back = λ r n o a w. (let before = Obeys-before ns bs b r o in state.back r n before.0 a (settled.back (cut n) r before.0 a w (ap (cut n) before.1)));
          };
          fewer = omega arith;
        }

  module _ (o : Opening) (settled : IsSettled ns bs ps old new (Open o)) (qs : List ℕ)
      (from : (g : ℕ → Term) → IsAlong g qs → IsAlong g ps × (g o.left_root ≡ g o.right_root))
      (back : (g : ℕ → Term) → IsAlong g ps → g o.left_root ≡ g o.right_root → IsAlong g qs) where
    can : IsOpening ns ps o
    can = settled.can

    abbrev arguments : Substitution → ℕ → Terms
    arguments r at = apply_to_all r (first_terms o.arguments.count (terms_at ns at))

    -- the arguments are one where the symbols are
    arguments-from : (r : Substitution) → apply r (term_at ns can.left) ≡ apply r (term_at ns can.right) → Solves ns whole r o.arguments
    arguments-from r e =
        let parts = symbol-parts can.symbol can.symbol (arguments r (suc can.left)) (arguments r (suc can.right)) (sym (seen-symbol ns whole r can.left can.symbol o.arguments.count can.left_is) ∙ e ∙ seen-symbol ns whole r can.right can.symbol o.arguments.count can.right_is) in
        Solves-arguments ns whole r o.arguments can.left can.right can.left_place can.right_place (ap (mapped whole) parts.1)

    -- and a step deeper the other way round
    arguments-back : (r : Substitution) (n : ℕ) → Solves ns (cut n) r o.arguments → seen ns (cut (suc n)) r can.left ≡ seen ns (cut (suc n)) r can.right
    arguments-back r n e =
        let same : mapped (cut n) (arguments r (suc can.left)) ≡ mapped (cut n) (arguments r (suc can.right)) = arguments-solved ns (cut n) r o.arguments can.left can.right can.left_place can.right_place e in
        seen-symbol ns (cut (suc n)) r can.left can.symbol o.arguments.count can.left_is ∙ ap (symbol can.symbol) same ∙ sym (seen-symbol ns (cut (suc n)) r can.right can.symbol o.arguments.count can.right_is)

    before : (r : Substitution) (n : ℕ) → Obeys ns bs r → IsAlong (seen ns (cut n) r) qs → All (Solves ns (cut n) r) (new ++ o.arguments ∷ []) → All (Solves ns (cut n) r) old
    before r n b a w =
        let j = from (seen ns (cut n) r) a in
        settled.back (cut n) r b j.0 (All-left (Solves ns (cut n) r) new (o.arguments ∷ []) w) j.1

    deeper-open : (r : Substitution) (n : ℕ) → Obeys ns bs r → IsAlong (seen ns (cut n) r) qs → All (Solves ns (cut n) r) (new ++ o.arguments ∷ []) → IsAlong (seen ns (cut (suc n)) r) qs
    deeper-open r n b a w =
        let along : IsAlong (seen ns (cut (suc n)) r) ps = state.deeper r n b (from (seen ns (cut n) r) a).0 (before r n b a w) in
        let last = All-head (Solves ns (cut n) r) o.arguments [] (All-right (Solves ns (cut n) r) new (o.arguments ∷ []) w) in
        back (seen ns (cut (suc n)) r) along (can.left_same (seen ns (cut (suc n)) r) along ∙ arguments-back r n last ∙ sym (can.right_same (seen ns (cut (suc n)) r) along))

    from-open : (r : Substitution) → apply r left ≡ apply r right → Obeys ns bs r × IsAlong (seen ns whole r) qs × All (Solves ns whole r) (new ++ o.arguments ∷ [])
    from-open r e =
        let f = state.from r e in
        let s = settled.from whole r f.0 f.1 f.2 in
        let one : seen ns whole r can.left ≡ seen ns whole r can.right = sym (can.left_same (seen ns whole r) f.1) ∙ s.1 ∙ can.right_same (seen ns whole r) f.1 in
        (f.0, back (seen ns whole r) f.1 s.1, All-append (Solves ns whole r) new (o.arguments ∷ []) s.0 (All-cons (Solves ns whole r) o.arguments [] (arguments-from r one) (All-nil (Solves ns whole r))))

    arguments-within : IsFull ns → IsWithin ns o.arguments
    arguments-within full = IsWithin-arguments ns o.arguments can.left can.right can.left_place can.right_place (full can.left (Sym can.symbol o.arguments.count) can.left_is) (full can.right (Sym can.symbol o.arguments.count) can.right_is)

    pub round-open : AreMade ns bs → IsFull ns → IsForest qs → length qs ≡ length ns → roots qs < roots ps → IsFurther ns left right bs bs ps qs (new ++ o.arguments ∷ [])
    round-open made full forest as_long few = record {
      made = made;
      forest = forest;
      as_long = as_long;
      within = All-append (IsWithin ns) new (o.arguments ∷ []) settled.within (All-cons (IsWithin ns) o.arguments [] (arguments-within full) (All-nil (IsWithin ns)));
      state = record {
        from = from-open;
        deeper = deeper-open;
        back = λ r n b a w. state.back r n b (from (seen ns (cut n) r) a).0 (before r n b a w);
      };
      fewer = omega arith;
    }

-- a most general solution, from what the bindings ask for
pub IsSolution-arranged : (ns : List FoNode) (bs cs : List Binding) (left right : Term) → IsLoose ns bs left right → AreBindings ns cs → SayTheSame ns bs cs → IsSolution ns cs left right
IsSolution-arranged ns bs cs left right l g s = record {
  bindings = g;
  from = λ r e. Absorbs-obeyed ns cs r ((s r).0 (l.from r e));
  back = λ r a. l.back r ((s r).1 (Obeys-absorbed ns cs r g a));
}

-- no bindings, at the start
pub AreMade-none : (ns : List FoNode) → AreMade ns []
AreMade-none ns = record {
  inside = λ k b h. absurd cc;
  once = λ i j b c h k e. absurd cc;
  ordered = λ k b h. absurd cc;
}

one_term : (ts : Terms) → 1 ≤ count ts → first_terms 1 ts ≡ more (first_term ts) none
one_term none h = absurd (omega arith)
one_term (more t ts) h = refl

along_alone : (g : ℕ → Term) (ps : List ℕ) → AreAlone ps → IsAlong g ps
along_alone g ps alone i j e = ap g (sym (alone i j e))

pub IsState-start : (ns : List FoNode) (ps : List ℕ) (right : ℕ) → AreAlone ps → 0 < length ns → right < length ns → IsState ns [] ps (term_at ns 0) (term_at ns right) (record { left = 0; right = right; count = 1 } ∷ [])
IsState-start ns ps right alone l h =
    let e : Equation = record { left = 0; right = right; count = 1 } in
    let first : first_terms 1 (terms_at ns 0) ≡ more (term_at ns 0) none = one_term (terms_at ns 0) (some_at ns 0 l) in
    let second : first_terms 1 (terms_at ns right) ≡ more (term_at ns right) none = one_term (terms_at ns right) (some_at ns right h) in
    record {
      from = λ r k. (
        (λ i b z. absurd cc),
        along_alone (seen ns whole r) ps alone,
        All-cons (Solves ns whole r) e [] (ap (λ (ts : Terms). mapped whole (apply_to_all r ts)) first ∙ ap (λ (t : Term). more t none) k ∙ sym (ap (λ (ts : Terms). mapped whole (apply_to_all r ts)) second)) (All-nil (Solves ns whole r)),
      );
      deeper = λ r n o a k. along_alone (seen ns (cut (suc n)) r) ps alone;
      back = λ r n o a k.
          (let one : more (cut n (apply r (term_at ns 0))) none ≡ more (cut n (apply r (term_at ns right))) none = sym (ap (λ (ts : Terms). mapped (cut n) (apply_to_all r ts)) first) ∙ All-head (Solves ns (cut n) r) e [] k ∙ ap (λ (ts : Terms). mapped (cut n) (apply_to_all r ts)) second in
          ap first_term one);
    }

pub IsForest-alone : (ps : List ℕ) → AreAlone ps → IsForest ps
IsForest-alone ps alone i j e = let same : i ≡ j = alone i j e in omega arith

pub IsWithin-start : (ns : List FoNode) (right : ℕ) → 0 < length ns → right < length ns → All (IsWithin ns) (record { left = 0; right = right; count = 1 } ∷ [])
IsWithin-start ns right l h = All-cons (IsWithin ns) (record { left = 0; right = right; count = 1 }) [] (record { left = some_at ns 0 l; right = some_at ns right h }) (All-nil (IsWithin ns))

-- ---- the pairs

module _ (ns : List FoNode) (bs : List Binding) (g : AreBindings ns bs) where
  image-some : (xs : List Binding) → ((k : ℕ) (b : Binding) → slice_get xs k ≡ Some b → (j : ℕ) × (slice_get bs j ≡ Some b)) → (v : ℕ)
      → (image (map (pair_of ns bs) xs) v ≡ solution ns bs v) ⊎ (IsFree xs v × (image (map (pair_of ns bs) xs) v ≡ variable v))
  image-some [] h v = inr ((λ k b e. absurd cc), refl)
  image-some (x ∷ xs) h v = go (image-some xs (λ k b e. h (suc k) b e) v) (nat_eq v x.variable) refl
    where
      here : (j : ℕ) × (slice_get bs j ≡ Some x)
      here = h 0 x refl

      go : (image (map (pair_of ns bs) xs) v ≡ solution ns bs v) ⊎ (IsFree xs v × (image (map (pair_of ns bs) xs) v ≡ variable v)) → (t : Bool) → nat_eq v x.variable ≡ t
          → (image (map (pair_of ns bs) (x ∷ xs)) v ≡ solution ns bs v) ⊎ (IsFree (x ∷ xs) v × (image (map (pair_of ns bs) (x ∷ xs)) v ≡ variable v))
      go others true e = let same : v ≡ x.variable = search rules in inl (rw e (rw same (sym (g.bound here.0 x here.1))))
      go (inl l) false e = inl (rw e l)
      go (inr r) false e = inr (
        (λ k. elim k as (λ k. (b : Binding) → slice_get (x ∷ xs) k ≡ Some b → b.variable ≢ v) [
          | zero ↦ (λ b q w. let t : nat_eq v x.variable ≡ true = search rules in cc)
          | suc k ↦ (λ b q. r.0 k b q)
        ]),
        rw e r.1,
      )

  pub image-solution : (v : ℕ) → image (map (pair_of ns bs) bs) v ≡ solution ns bs v
  image-solution v = elim (image-some bs (λ k b e. (k, e)) v) [ inl l ↦ l | inr r ↦ r.1 ∙ sym (g.free v r.0) ]

  apply-image : (t : Term) → apply (image (map (pair_of ns bs) bs)) t ≡ apply (solution ns bs) t
  apply-image t = apply-same (image (map (pair_of ns bs) bs)) (solution ns bs) t (λ v o. image-solution v)

  solution-idempotent : Absorbs (solution ns bs) (solution ns bs)
  solution-idempotent w = apply-same (solution ns bs) variable (solution ns bs w) (λ v o. g.free v (g.images w v o)) ∙ apply-variable (solution ns bs w)

  pub image-idempotent : IsIdempotent (image (map (pair_of ns bs) bs))
  image-idempotent v = apply-image (image (map (pair_of ns bs) bs) v) ∙ ap (apply (solution ns bs)) (image-solution v) ∙ solution-idempotent v ∙ sym (image-solution v)

  pub image-general : (left right : Term) → IsSolution ns bs left right → IsMostGeneralUnifier (image (map (pair_of ns bs) bs)) left right
  image-general left right s = record {
    unifies = apply-image left ∙ s.back (solution ns bs) solution-idempotent ∙ sym (apply-image right);
    general = λ other h. (other, (λ v. sym (s.from other h v) ∙ ap (apply other) (sym (image-solution v))));
  }

slice_get-map_back : (f : Binding → ℕ × Term) (xs : List Binding) (k : ℕ) (p : ℕ × Term) → slice_get (map f xs) k ≡ Some p → (b : Binding) × (slice_get xs k ≡ Some b) × (f b ≡ p)
slice_get-map_back f [] k p h = absurd cc
slice_get-map_back f (x ∷ xs) zero p h = (x, refl, (cc))
slice_get-map_back f (x ∷ xs) (suc k) p h = slice_get-map_back f xs k p h

pub image-once : (ns : List FoNode) (bs : List Binding) → AreBindings ns bs → IsOnce (map (pair_of ns bs) bs)
image-once ns bs g i j p q h k e =
    let a : (b : Binding) × (slice_get bs i ≡ Some b) × (pair_of ns bs b ≡ p) = slice_get-map_back (pair_of ns bs) bs i p h in
    let c : (b : Binding) × (slice_get bs j ≡ Some b) × (pair_of ns bs b ≡ q) = slice_get-map_back (pair_of ns bs) bs j q k in
    g.once i j a.0 c.0 a.1 c.1 (ap (λ (x : ℕ × Term). x.0) a.2 ∙ e ∙ sym (ap (λ (x : ℕ × Term). x.0) c.2))
