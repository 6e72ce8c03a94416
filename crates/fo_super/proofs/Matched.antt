-- Terms that become others, node by node.
use Rattle.std.proofs.Common.{ℕ, suc, ◌≡◌, ◌∙◌, ◌+◌, true, false, List, [], ◌∷◌, ◌++◌, length, append_assoc, refl, sym, ap, subst, arith}
use Rattle.std.proofs.lemmas.List.{append-nil}
use Rattle.fo_terms.specs.declared.term.FoNode.{FoNode}
use Rattle.fo_terms.specs.declared.term.FoNode.TheVariants.{Var, Sym}
use Rattle.fo_terms.specs.Terms.{Term, Terms, variable, symbol, none, more, count}
use Rattle.fo_terms.specs.Prefix.{prefix, prefix_of_all, term_of, IsPrefix}
use Rattle.fo_terms.specs.Reading.{joined}
use Rattle.fo_terms.specs.Substitutions.{Substitution, apply, apply_to_all}
use Rattle.fo_text.specs.declared.problem.FoSym.{FoSym}
use Rattle.fo_text.proofs.NodeLists.{prefix_of_all-joined}
use Rattle.fo_super.specs.declared.matching.Binding.{Binding}
use Rattle.fo_super.specs.Subsumption.{KeepSorts}
use Rattle.fo_super.specs.Matching.{AreBindings, Fits, FitAll, IsPassed, IsRefused, Narrows, Obeys}
use Rattle.fo_super.proofs.Bindings.{obeys-front}

-- one list of terms behind another
count-both : (ts us : Terms) → count (joined ts us) ≡ count ts + count us
count-both none us = omega arith
count-both (more t ts) us = let r = count-both ts us in omega arith

apply-both : (s : Substitution) (ts us : Terms) → apply_to_all s (joined ts us) ≡ joined (apply_to_all s ts) (apply_to_all s us)
apply-both s none us = refl
apply-both s (more t ts) us = ap (more (apply s t)) (apply-both s ts us)

count-applied : (s : Substitution) (ts : Terms) → count (apply_to_all s ts) ≡ count ts
count-applied s none = refl
count-applied s (more t ts) = ap suc (count-applied s ts)

split-both : (ts us vs ws : Terms) → count ts ≡ count us → joined ts vs ≡ joined us ws → (ts ≡ us) × (vs ≡ ws)
split-both none none vs ws c e = (refl, e)
split-both none (more u us) vs ws c e = absurd (let f : ⊥ = omega arith in f)
split-both (more t ts) none vs ws c e = absurd (let f : ⊥ = omega arith in f)
split-both (more t ts) (more u us) vs ws c e =
    let h : t ≡ u = cc in
    let r = split-both ts us vs ws (omega arith) (let k : joined ts vs ≡ joined us ws = cc in k) in
    (ap (λ x. more x ts) h ∙ ap (more u) r.0, r.1)

module _ (vars news : List ℕ) (syms : List FoSym) where
  sorts-both : (s : Substitution) (ts us : Terms) → KeepSorts vars news syms s ts → KeepSorts vars news syms s us → KeepSorts vars news syms s (joined ts us)
  sorts-both s none us h k = k
  sorts-both s (more t ts) us h k = (h.0, sorts-both s ts us h.1 k)

  sorts-first : (s : Substitution) (ts us : Terms) → KeepSorts vars news syms s (joined ts us) → KeepSorts vars news syms s ts
  sorts-first s none us h = tt
  sorts-first s (more t ts) us h = (h.0, sorts-first s ts us h.1)

  sorts-second : (s : Substitution) (ts us : Terms) → KeepSorts vars news syms s (joined ts us) → KeepSorts vars news syms s us
  sorts-second s none us h = h
  sorts-second s (more t ts) us h = sorts-second s ts us h.1

  -- a symbol with its arguments, and the arguments alone
  open-fits : (s : Substitution) (f : ℕ) (qs ps ws us : Terms) → count qs ≡ count ws → FitAll vars news syms (more (symbol f qs) ps) (more (symbol f ws) us) s → FitAll vars news syms (joined qs ps) (joined ws us) s
  open-fits s f qs ps ws us c h =
      let e : more (symbol f (apply_to_all s qs)) (apply_to_all s ps) ≡ more (symbol f ws) us = h.1 in
      let i : apply_to_all s qs ≡ ws = cc in
      let j : apply_to_all s ps ≡ us = cc in
      (sorts-both s qs ps h.0.0 h.0.1, apply-both s qs ps ∙ ap (λ x. joined x (apply_to_all s ps)) i ∙ ap (joined ws) j)

  close-fits : (s : Substitution) (f : ℕ) (qs ps ws us : Terms) → count qs ≡ count ws → FitAll vars news syms (joined qs ps) (joined ws us) s → FitAll vars news syms (more (symbol f qs) ps) (more (symbol f ws) us) s
  close-fits s f qs ps ws us c h =
      let r = split-both (apply_to_all s qs) ws (apply_to_all s ps) us (count-applied s qs ∙ c) (sym (apply-both s qs ps) ∙ h.1) in
      ((sorts-first s qs ps h.0, sorts-second s qs ps h.0), ap (λ x. more (symbol f x) (apply_to_all s ps)) r.0 ∙ ap (more (symbol f ws)) r.1)

  -- so far the bindings say what is asked, if the patterns that are left become the terms that are left
  pub record IsMatching (old : List Binding) (p t : Term) (current : List Binding) (left right : List FoNode) : Type 0 where
    pub patterns : Terms
    pub terms : Terms
    pub left_is : left ≡ prefix_of_all patterns
    pub right_is : right ≡ prefix_of_all terms
    pub count_is : count patterns ≡ count terms
    pub more_bindings : List Binding
    pub extends : current ≡ old ++ more_bindings
    pub sound : AreBindings vars news syms current
    pub gained : (s : Substitution) → Obeys current s → FitAll vars news syms patterns terms s → Fits vars news syms p t s
    pub kept : (s : Substitution) → Obeys old s → Fits vars news syms p t s → Obeys current s × FitAll vars news syms patterns terms s

  pub matching-starts : (old : List Binding) (ns ms : List FoNode) → IsPrefix ns → IsPrefix ms → AreBindings vars news syms old → IsMatching old (term_of ns) (term_of ms) old ns ms
  matching-starts old ns ms p q h = record {
    patterns = more (term_of ns) none;
    terms = more (term_of ms) none;
    left_is = sym p ∙ sym (append-nil (prefix (term_of ns)));
    right_is = sym q ∙ sym (append-nil (prefix (term_of ms)));
    count_is = refl;
    more_bindings = [];
    extends = sym (append-nil old);
    sound = h;
    gained = λ s o f. (f.0.0, first (apply s (term_of ns)) (term_of ms) f.1);
    kept = λ s o f. (o, ((f.0, tt), ap (λ x. more x none) f.1));
  }
    where
      first : (x y : Term) → more x none ≡ more y none → x ≡ y
      first x y e = cc

  -- the terms that are left begin with one
  pub record HasFirst (ps ts : Terms) (right : List FoNode) : Type 0 where
    pub first : Term
    pub others : Terms
    pub terms_are : ts ≡ more first others
    pub right_is : right ≡ prefix first ++ prefix_of_all others

  has-first : (ps ts : Terms) (node : FoNode) (tail right : List FoNode) → node ∷ tail ≡ prefix_of_all ps → right ≡ prefix_of_all ts → count ps ≡ count ts → HasFirst ps ts right
  has-first none ts node tail right l r c = absurd (let f : ⊥ = cc in f)
  has-first (more p ps) none node tail right l r c = absurd (let f : ⊥ = omega arith in f)
  has-first (more p ps) (more t ts) node tail right l r c = record { first = t; others = ts; terms_are = refl; right_is = r }

  pub term-first : (old current : List Binding) (p t : Term) (left right : List FoNode) (node : FoNode) (tail : List FoNode) → left ≡ node ∷ tail → IsMatching old p t current left right → (u : Term) × (back : List FoNode) × (right ≡ prefix u ++ back)
  term-first old current p t left right node tail e m =
      let h = has-first m.patterns m.terms node tail right (sym e ∙ m.left_is) m.right_is m.count_is in
      (h.first, prefix_of_all h.others, h.right_is)

  -- a node that does not fit
  stops : {old current new : List Binding} {p t : Term} {left right : List FoNode} (m : IsMatching old p t current left right) (Asked : Substitution → Type 0) → Narrows vars news syms current new false Asked →
      ((s : Substitution) → FitAll vars news syms m.patterns m.terms s → Asked s) → Narrows vars news syms old new false (Fits vars news syms p t)
  stops {old} {current} {new} m Asked n from = record {
    more = m.more_bindings ++ n.more;
    extends = n.extends ∙ ap (λ (xs : List Binding). xs ++ n.more) m.extends ∙ append_assoc old m.more_bindings n.more;
    sound = n.sound;
    gained = λ e. (let g : ⊥ = cc in absurd g);
    kept = λ e. (let g : ⊥ = cc in absurd g);
    refused = λ e s o q. (let k = m.kept s o q in n.refused refl s k.0 (from s k.1));
  }

  stays : (current new : List Binding) (Asked : Substitution → Type 0) → AreBindings vars news syms current → new ≡ current → ((s : Substitution) → Asked s → ⊥) → Narrows vars news syms current new false Asked
  stays current new Asked h e f = record {
    more = [];
    extends = e ∙ sym (append-nil current);
    sound = subst (AreBindings vars news syms) (sym e) h;
    gained = λ i. (let g : ⊥ = cc in absurd g);
    kept = λ i. (let g : ⊥ = cc in absurd g);
    refused = λ i s o q. f s q;
  }

  node-first : (x y : FoNode) (xs ys : List FoNode) → x ∷ xs ≡ y ∷ ys → (x ≡ y) × (xs ≡ ys)
  node-first x y xs ys e = (cc, cc)

  terms-first : (x y : Term) (xs ys : Terms) → more x xs ≡ more y ys → (x ≡ y) × (xs ≡ ys)
  terms-first x y xs ys e = (cc, cc)

  pub matching-refused : (old current new : List Binding) (p t : Term) (left right : List FoNode) (node : FoNode) (tail : List FoNode) → left ≡ node ∷ tail → IsMatching old p t current left right →
      ((u : Term) (back : List FoNode) → right ≡ prefix u ++ back → IsRefused vars news syms node u back current new) → Narrows vars news syms old new false (Fits vars news syms p t)
  matching-refused old current new p t left right node tail e m r = go m.patterns m.terms refl refl (sym e ∙ m.left_is) m.right_is m.count_is
    where
      go : (ps ts : Terms) → m.patterns ≡ ps → m.terms ≡ ts → node ∷ tail ≡ prefix_of_all ps → right ≡ prefix_of_all ts → count ps ≡ count ts → Narrows vars news syms old new false (Fits vars news syms p t)
      go none ts a b l k c = absurd (let f : ⊥ = cc in f)
      go (more q ps) none a b l k c = absurd (let f : ⊥ = omega arith in f)
      go (more (variable v) ps) (more u us) a b l k c =
          let i = node-first node (Var v) tail (prefix_of_all ps) l in
          let n : Narrows vars news syms current new false (Fits vars news syms (variable v) u) = subst (λ x. IsRefused vars news syms x u (prefix_of_all us) current new) i.0 (r u (prefix_of_all us) k) in
          stops m (Fits vars news syms (variable v) u) n (λ s f.
          let g : FitAll vars news syms (more (variable v) ps) (more u us) s = subst (λ x. FitAll vars news syms x (more u us) s) a (subst (λ x. FitAll vars news syms m.patterns x s) b f) in
          (g.0.0, (terms-first (s v) u (apply_to_all s ps) us g.1).0))
      go (more (symbol f qs) ps) (more u us) a b l k c =
          let i = node-first node (Sym f (count qs)) tail (prefix_of_all qs ++ prefix_of_all ps) l in
          let n : (new ≡ current) × ((rest : List FoNode) → prefix u ++ prefix_of_all us ≡ Sym f (count qs) ∷ rest → ⊥) = subst (λ x. IsRefused vars news syms x u (prefix_of_all us) current new) i.0 (r u (prefix_of_all us) k) in
          stops m (Fits vars news syms (symbol f qs) u) (stays current new (Fits vars news syms (symbol f qs) u) m.sound n.0 (λ s g.
          n.1 (prefix_of_all (apply_to_all s qs) ++ prefix_of_all us)
          (ap (λ x. prefix x ++ prefix_of_all us) (sym g.1) ∙ ap (λ z. Sym f z ∷ (prefix_of_all (apply_to_all s qs) ++ prefix_of_all us)) (count-applied s qs))))
          (λ s h.
          let g : FitAll vars news syms (more (symbol f qs) ps) (more u us) s = subst (λ x. FitAll vars news syms x (more u us) s) a (subst (λ x. FitAll vars news syms m.patterns x s) b h) in
          (g.0.0, (terms-first (symbol f (apply_to_all s qs)) u (apply_to_all s ps) us g.1).0))

  -- a node that fits
  pub matching-next : (old current new : List Binding) (p t : Term) (left right : List FoNode) (node : FoNode) (tail rest : List FoNode) → left ≡ node ∷ tail → IsMatching old p t current left right →
      ((u : Term) (back : List FoNode) → right ≡ prefix u ++ back → IsPassed vars news syms node u back current new rest) → IsMatching old p t new tail rest
  matching-next old current new p t left right node tail rest e m r = go m.patterns m.terms refl refl (sym e ∙ m.left_is) m.right_is m.count_is
    where
      gained-by : (ps ts : Terms) → m.patterns ≡ ps → m.terms ≡ ts → (s : Substitution) → Obeys current s → FitAll vars news syms ps ts s → Fits vars news syms p t s
      gained-by ps ts a b s o f = m.gained s o (subst (λ x. FitAll vars news syms x m.terms s) (sym a) (subst (λ x. FitAll vars news syms ps x s) (sym b) f))

      kept-by : (ps ts : Terms) → m.patterns ≡ ps → m.terms ≡ ts → (s : Substitution) → Obeys old s → Fits vars news syms p t s → Obeys current s × FitAll vars news syms ps ts s
      kept-by ps ts a b s o f = let k = m.kept s o f in (k.0, subst (λ x. FitAll vars news syms x ts s) a (subst (λ x. FitAll vars news syms m.patterns x s) b k.1))

      go : (ps ts : Terms) → m.patterns ≡ ps → m.terms ≡ ts → node ∷ tail ≡ prefix_of_all ps → right ≡ prefix_of_all ts → count ps ≡ count ts → IsMatching old p t new tail rest
      go none ts a b l k c = absurd (let f : ⊥ = cc in f)
      go (more q ps) none a b l k c = absurd (let f : ⊥ = omega arith in f)
      go (more (variable v) ps) (more u us) a b l k c =
          let i = node-first node (Var v) tail (prefix_of_all ps) l in
          let n : Narrows vars news syms current new true (Fits vars news syms (variable v) u) × (rest ≡ prefix_of_all us) = subst (λ x. IsPassed vars news syms x u (prefix_of_all us) current new rest) i.0 (r u (prefix_of_all us) k) in
          record {
            patterns = ps;
            terms = us;
            left_is = i.1;
            right_is = n.1;
            count_is = omega arith;
            more_bindings = m.more_bindings ++ n.0.more;
            extends = n.0.extends ∙ ap (λ (xs : List Binding). xs ++ n.0.more) m.extends ∙ append_assoc old m.more_bindings n.0.more;
            sound = n.0.sound;
            gained = λ s o f.
                (let g = n.0.gained refl s o in
                gained-by (more (variable v) ps) (more u us) a b s (obeys-front current n.0.more s (subst (λ (x : List Binding). Obeys x s) n.0.extends o)) ((g.0, f.0), ap (λ x. more x (apply_to_all s ps)) g.1 ∙ ap (more u) f.1));
            kept = λ s o f.
                (let h = kept-by (more (variable v) ps) (more u us) a b s o f in
                let d = terms-first (s v) u (apply_to_all s ps) us h.1.1 in
                (n.0.kept refl s h.0 (h.1.0.0, d.0), (h.1.0.1, d.1)));
          }
      go (more (symbol f qs) ps) (more u us) a b l k c =
          let i = node-first node (Sym f (count qs)) tail (prefix_of_all qs ++ prefix_of_all ps) l in
          let n : (new ≡ current) × (prefix u ++ prefix_of_all us ≡ Sym f (count qs) ∷ rest) = subst (λ x. IsPassed vars news syms x u (prefix_of_all us) current new rest) i.0 (r u (prefix_of_all us) k) in
          opened f qs ps u us a b i.1 n.0 n.1 c
        where
          opened : (f : ℕ) (qs ps : Terms) (u : Term) (us : Terms) → m.patterns ≡ more (symbol f qs) ps → m.terms ≡ more u us → tail ≡ prefix_of_all qs ++ prefix_of_all ps → new ≡ current → prefix u ++ prefix_of_all us ≡ Sym f (count qs) ∷ rest → suc (count ps) ≡ suc (count us) → IsMatching old p t new tail rest
          opened f qs ps (variable w) us a b l same h c = absurd (let g : ⊥ = cc in g)
          opened f qs ps (symbol g ws) us a b l same h c =
              let d = node-first (Sym g (count ws)) (Sym f (count qs)) (prefix_of_all ws ++ prefix_of_all us) rest h in
              let x : g ≡ f = symbols d.0 in
              let y : count ws ≡ count qs = counts d.0 in
              let z : m.terms ≡ more (symbol f ws) us = b ∙ ap (λ v. more (symbol v ws) us) x in
              record {
                patterns = joined qs ps;
                terms = joined ws us;
                left_is = l ∙ sym (prefix_of_all-joined qs ps);
                right_is = sym d.1 ∙ sym (prefix_of_all-joined ws us);
                count_is = (let j = count-both qs ps in let k = count-both ws us in omega arith);
                more_bindings = m.more_bindings;
                extends = same ∙ m.extends;
                sound = subst (AreBindings vars news syms) (sym same) m.sound;
                gained = λ s o fits. gained-by (more (symbol f qs) ps) (more (symbol f ws) us) a z s (subst (λ (v : List Binding). Obeys v s) same o) (close-fits s f qs ps ws us (sym y) fits);
                kept = λ s o fits. (let h = kept-by (more (symbol f qs) ps) (more (symbol f ws) us) a z s o fits in (subst (λ (v : List Binding). Obeys v s) (sym same) h.0, open-fits s f qs ps ws us (sym y) h.1));
              }
            where
              symbols : {a b i j : ℕ} → Sym i a ≡ Sym j b → i ≡ j
              symbols e = cc

              counts : {a b i j : ℕ} → Sym i a ≡ Sym j b → a ≡ b
              counts e = cc

  pub matching-ends : (old current : List Binding) (p t : Term) (left right : List FoNode) → length left ≡ 0 → IsMatching old p t current left right → Narrows vars news syms old current true (Fits vars news syms p t)
  matching-ends old current p t left right e m = record {
    more = m.more_bindings;
    extends = m.extends;
    sound = m.sound;
    gained = λ i s o. m.gained s o (done m.patterns m.terms (sym (nothing left e) ∙ m.left_is) m.count_is s);
    kept = λ i s o q. (m.kept s o q).0;
    refused = λ i. (let g : ⊥ = cc in absurd g);
  }
    where
      nothing : (ns : List FoNode) → length ns ≡ 0 → ns ≡ []
      nothing [] l = refl
      nothing (n ∷ ns) l = absurd (let f : ⊥ = omega arith in f)

      done : (ps ts : Terms) → [] ≡ prefix_of_all ps → count ps ≡ count ts → (s : Substitution) → FitAll vars news syms ps ts s
      done none none l c s = (tt, refl)
      done none (more t ts) l c s = absurd (let f : ⊥ = omega arith in f)
      done (more (variable v) ps) ts l c s = absurd (let f : ⊥ = cc in f)
      done (more (symbol f qs) ps) ts l c s = absurd (let g : ⊥ = cc in g)
