-- Taking equations apart.
use Rattle.std.proofs.Common.{ℕ, suc, ◌≡◌, ◌≢◌, ◌<◌, ◌≤◌, List, [], ◌∷◌, ◌++◌, length, Some, refl, sym, ◌∙◌, ap, arith, ◌⊎◌}
use Rattle.std.specs.Prelude.{slice_get}
use Rattle.std.proofs.lemmas.List.{append-nil}
use Rattle.std.proofs.lemmas.List.Elements.{All-nil, All-cons, All-head}
use Rattle.fo_terms.specs.declared.term.FoNode.{FoNode}
use Rattle.fo_terms.specs.declared.term.FoNode.TheVariants.{Var, Sym}
use Rattle.fo_terms.specs.declared.bindings.Binding.{Binding}
use Rattle.fo_terms.specs.declared.bindings.Equation.{Equation}
use Rattle.fo_terms.specs.declared.solve.Step.{Step}
use Rattle.fo_terms.specs.declared.solve.Step.TheVariants.{Split, Clash, Bind, Open}
use Rattle.fo_terms.specs.Terms.{Term, Terms, symbol, more, count, first_terms, terms_after}
use Rattle.fo_terms.specs.Substitutions.{Substitution, apply, apply_to_all}
use Rattle.fo_terms.specs.Places.{terms_at, term_at, IsFull}
use Rattle.fo_terms.specs.Bindings.{IsResolved, Obeys}
use Rattle.fo_terms.specs.Classes.{IsAlong}
use Rattle.fo_terms.specs.Depths.{mapped}
use Rattle.fo_terms.specs.Solving.{seen, IsWithin, Solves, HaveDifferentHeads, IsMove, IsStep}
use Rattle.fo_terms.proofs.AtPlaces.{count-first_terms}
use Rattle.fo_terms.proofs.Walking.{first_terms-span, count-behind, term_at-symbol, term_at-variable}

-- symbol terms are equal where the symbols are and the arguments are
pub symbol-parts : (f g : ℕ) (ts us : Terms) → symbol f ts ≡ symbol g us → (f ≡ g) × (ts ≡ us)
symbol-parts f g ts us e = ((cc), (cc))

more-parts : (t u : Term) (ts us : Terms) → more t ts ≡ more u us → (t ≡ u) × (ts ≡ us)
more-parts t u ts us e = ((cc), (cc))

-- what a substitution makes of a symbol with its arguments
pub seen-symbol : (ns : List FoNode) (h : Term → Term) (r : Substitution) (at f k : ℕ) → slice_get ns at ≡ Some (Sym f k) → seen ns h r at ≡ h (symbol f (apply_to_all r (first_terms k (terms_at ns (suc at)))))
seen-symbol ns h r at f k e = ap (λ (t : Term). h (apply r t)) (term_at-symbol ns at f k e)

same_variable : (v w : ℕ) → Some (Var v) ≡ Some (Var w) → v ≡ w
same_variable v w e = cc

seen-variable : (ns : List FoNode) (h : Term → Term) (r : Substitution) (at v : ℕ) → slice_get ns at ≡ Some (Var v) → seen ns h r at ≡ h (r v)
seen-variable ns h r at v e = ap (λ (t : Term). h (apply r t)) (term_at-variable ns at v e)

module _ (ns : List FoNode) (bs : List Binding) (ps : List ℕ) (left right : ℕ) (left_inside : left < length ns) (right_inside : right < length ns) where
  pub move-same : (v : ℕ) → slice_get ns left ≡ Some (Var v) → slice_get ns right ≡ Some (Var v) → IsMove ns bs ps left right Split
  move-same v l r = record {
    can = tt;
    from = λ h s a e. tt;
    back = λ h s a e. seen-variable ns h s left v l ∙ sym (seen-variable ns h s right v r);
  }

  pub move-left : (v : ℕ) (n : FoNode) → IsResolved ns bs left → IsResolved ns bs right → slice_get ns left ≡ Some (Var v) → slice_get ns right ≡ Some n → (n ≡ Var v → ⊥) → IsMove ns bs ps left right (Bind (record { variable = v; place = right }))
  move-left v n left_resolved right_resolved l r other = record {
    can = record { free = left_resolved v l; inside = right_inside; resolved = right_resolved; other = (λ e. let same : n ≡ Var v = cc in other same); stands = (left, l) };
    from = λ h s a e. sym (seen-variable ns h s left v l) ∙ e;
    back = λ h s a e. seen-variable ns h s left v l ∙ e;
  }

  pub move-right : (v f k : ℕ) → IsResolved ns bs left → IsResolved ns bs right → slice_get ns left ≡ Some (Sym f k) → slice_get ns right ≡ Some (Var v) → IsMove ns bs ps left right (Bind (record { variable = v; place = left }))
  move-right v f k left_resolved right_resolved l r = record {
    can = record { free = right_resolved v r; inside = left_inside; resolved = left_resolved; other = (λ e. cc); stands = (right, r) };
    from = λ h s a e. sym (seen-variable ns h s right v r) ∙ sym e;
    back = λ h s a e. sym (seen-variable ns h s right v r ∙ e);
  }

  pub move-turned : (v w : ℕ) → IsResolved ns bs left → IsResolved ns bs right → slice_get ns left ≡ Some (Var v) → slice_get ns right ≡ Some (Var w) → v ≢ w → IsMove ns bs ps left right (Bind (record { variable = w; place = left }))
  move-turned v w left_resolved right_resolved l r d = record {
    can = record { free = right_resolved w r; inside = left_inside; resolved = left_resolved; other = (λ e. let same : v ≡ w = same_variable v w (sym l ∙ e) in d same); stands = (right, r) };
    from = λ h s a e. sym (seen-variable ns h s right w r) ∙ sym e;
    back = λ h s a e. sym (seen-variable ns h s right w r ∙ e);
  }

  pub move-clash : (f k g m : ℕ) → IsFull ns → slice_get ns left ≡ Some (Sym f k) → slice_get ns right ≡ Some (Sym g m) → (f ≢ g) ⊎ (k ≢ m) → IsMove ns bs ps left right Clash
  move-clash f k g m full l r d =
      let a : count (first_terms k (terms_at ns (suc left))) ≡ k = count-first_terms k (terms_at ns (suc left)) (full left (Sym f k) l) in
      let b : count (first_terms m (terms_at ns (suc right))) ≡ m = count-first_terms m (terms_at ns (suc right)) (full right (Sym g m) r) in
      let apart : HaveDifferentHeads (term_at ns left) (term_at ns right) = rw (term_at-symbol ns left f k l, term_at-symbol ns right g m r, a, b) d in
      record {
        can = tt;
        from = λ h s al e. (term_at ns left, term_at ns right, apart, e);
        back = λ h s al e. absurd e;
      }

  module _ (left_root right_root : ℕ) (left_same : (g : ℕ → Term) → IsAlong g ps → g left_root ≡ g left) (right_same : (g : ℕ → Term) → IsAlong g ps → g right_root ≡ g right) where
    pub move-class : left_root ≡ right_root → IsMove ns bs ps left right Split
    move-class e = record {
      can = tt;
      from = λ h s a q. tt;
      back = λ h s a q. sym (left_same (seen ns h s) a) ∙ ap (seen ns h s) e ∙ right_same (seen ns h s) a;
    }

    pub move-open : (f k : ℕ) → slice_get ns left ≡ Some (Sym f k) → slice_get ns right ≡ Some (Sym f k) → slice_get ps left_root ≡ Some left_root → slice_get ps right_root ≡ Some right_root → left_root ≢ right_root
        → IsMove ns bs ps left right (Open (record { left_root = left_root; right_root = right_root; arguments = record { left = suc left; right = suc right; count = k } }))
    move-open f k l r lr rr d = record {
      can = record {
        left = left;
        right = right;
        symbol = f;
        left_is = l;
        right_is = r;
        left_place = refl;
        right_place = refl;
        left_root = lr;
        right_root = rr;
        left_same = left_same;
        right_same = right_same;
        apart = d;
      };
      from = λ h s a e. left_same (seen ns h s) a ∙ e ∙ sym (right_same (seen ns h s) a);
      back = λ h s a e. sym (left_same (seen ns h s) a) ∙ e ∙ right_same (seen ns h s) a;
    }

-- an equation of no terms says nothing
pub step-nothing : (ns : List FoNode) (bs : List Binding) (ps : List ℕ) (e : Equation) (old : List Equation) → e.count ≡ 0 → IsStep ns bs ps e old old Split
step-nothing ns bs ps e old z = record {
  added = [];
  grown = sym (append-nil old);
  within = All-nil (IsWithin ns);
  fewer = omega arith;
  can = tt;
  from = λ h s o a k. (All-nil (Solves ns h s), tt);
  back = λ h s o a k g. rw z refl;
}

-- the first terms are compared, and the others are an equation of their own
module _ (ns : List FoNode) (bs : List Binding) (ps : List ℕ) (e : Equation) (n left_behind right_behind left right : ℕ) (counted : e.count ≡ suc n) (within : IsWithin ns e)
    (left_reads : terms_at ns left_behind ≡ terms_after 1 (terms_at ns e.left)) (right_reads : terms_at ns right_behind ≡ terms_after 1 (terms_at ns e.right))
    (left_same : (s : Substitution) → Obeys ns bs s → apply s (term_at ns left) ≡ apply s (term_at ns e.left))
    (right_same : (s : Substitution) → Obeys ns bs s → apply s (term_at ns right) ≡ apply s (term_at ns e.right)) where
  abbrev others : Equation
  others = record { left = left_behind; right = right_behind; count = n }

  left_enough : suc n ≤ count (terms_at ns e.left)
  left_enough = rw counted at within.left

  right_enough : suc n ≤ count (terms_at ns e.right)
  right_enough = rw counted at within.right

  left_parts : first_terms e.count (terms_at ns e.left) ≡ more (term_at ns e.left) (first_terms n (terms_at ns left_behind))
  left_parts = rw counted (first_terms-span ns e.left left_behind n left_enough left_reads)

  right_parts : first_terms e.count (terms_at ns e.right) ≡ more (term_at ns e.right) (first_terms n (terms_at ns right_behind))
  right_parts = rw counted (first_terms-span ns e.right right_behind n right_enough right_reads)

  others_within : IsWithin ns others
  others_within = record { left = count-behind ns e.left left_behind n left_enough left_reads; right = count-behind ns e.right right_behind n right_enough right_reads }

  abbrev made : (Term → Term) → Substitution → Terms → Terms
  made h s ts = mapped h (apply_to_all s ts)

  solved_parts : (h : Term → Term) (s : Substitution) → Solves ns h s e → (seen ns h s e.left ≡ seen ns h s e.right) × Solves ns h s others
  solved_parts h s k =
      more-parts (seen ns h s e.left) (seen ns h s e.right) (made h s (first_terms n (terms_at ns left_behind))) (made h s (first_terms n (terms_at ns right_behind)))
      (sym (ap (made h s) left_parts) ∙ k ∙ ap (made h s) right_parts)

  parts_solve : (h : Term → Term) (s : Substitution) → seen ns h s e.left ≡ seen ns h s e.right → Solves ns h s others → Solves ns h s e
  parts_solve h s k l = ap (made h s) left_parts ∙ rw (k, l) refl ∙ sym (ap (made h s) right_parts)

  pub step-first : (old : List Equation) (step : Step) → IsMove ns bs ps left right step → IsStep ns bs ps e old (old ++ others ∷ []) step
  step-first old step m = record {
    added = others ∷ [];
    grown = refl;
    within = All-cons (IsWithin ns) others [] others_within (All-nil (IsWithin ns));
    fewer = omega arith;
    can = m.can;
    from = λ h s o a k.
        (let p = solved_parts h s k in
        (All-cons (Solves ns h s) others [] p.1 (All-nil (Solves ns h s)), m.from h s a (ap h (left_same s o) ∙ p.0 ∙ sym (ap h (right_same s o)))));
    back = λ h s o a k g.
        parts_solve h s (sym (ap h (left_same s o)) ∙ m.back h s a g ∙ ap h (right_same s o)) (All-head (Solves ns h s) others [] k);
  }
