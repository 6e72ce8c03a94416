-- Equations between terms made of the variables x and y and of closed terms, at any two formulas.
use Rattle.std.proofs.Common.{◌≡◌, suc, Bool, true, false, ◌&&◌, ◌||◌, not, List, [], ◌∷◌, refl, subst, arith}
use Rattle.std.proofs.lemmas.Bool.{and_from, and_parts}
use Rattle.leo_q0.specs.Terms.{SimpleType, truth, Variable, same_variable, Term, variable, constant, identity, choice, apply, lambda, of_variable, IsFormula}
use Rattle.leo_q0.specs.Substitution.{is_free, is_free_for, replace}
use Rattle.leo_q0.specs.Connectives.{x_of, y_of, true_term, false_term, and_term, imp_term, not_term, or_term}
use Rattle.leo_q0.proofs.Variables.{equal_variables, same_variable-refl}
use Rattle.leo_q0.proofs.Fresh.{limit, IsBelow-more, IsBelow-limit, not_free_above, different}
use Rattle.leo_sound.proofs.Unfree.{replace_unfree, free_for_unfree}
use Rattle.leo_q0.proofs.Equations.{Equal}
use Rattle.leo_q0.proofs.Renaming.{instance}

-- the variable is one of the list
abbrev among : Variable → List Variable → Bool
among v [] = false
among v (w ∷ ws) = same_variable v w || among v ws

-- all free variables of the term are in the list, by a test that computes
abbrev closed_in : List Variable → Term → Bool
closed_in ws (variable v) = among v ws
closed_in ws (constant n a) = true
closed_in ws (identity a) = true
closed_in ws (choice a) = true
closed_in ws (apply f t) = closed_in ws f && closed_in ws t
closed_in ws (lambda v t) = closed_in (v ∷ ws) t

not_among : (ws : List Variable) (v w : Variable) → among v ws ≡ true → among w ws ≡ false → same_variable w v ≡ false
not_among ws v w h k = go (same_variable w v) refl
  where
    go : (c : Bool) → same_variable w v ≡ c → c ≡ false
    go true e = let m = subst (λ (u : Variable). among u ws ≡ false) (equal_variables w v e) k in cc
    go false e = refl

not_free_outside : (ws : List Variable) (t : Term) → closed_in ws t ≡ true → (w : Variable) → among w ws ≡ false → is_free w t ≡ false
not_free_outside ws (variable v) h w k = not_among ws v w h k
not_free_outside ws (constant n a) h w k = refl
not_free_outside ws (identity a) h w k = refl
not_free_outside ws (choice a) h w k = refl
not_free_outside ws (apply f t) h w k =
    let p = and_parts (closed_in ws f) (closed_in ws t) h in
    rw (not_free_outside ws f p.0 w k) (not_free_outside ws t p.1 w k)
not_free_outside ws (lambda v t) h w k = go (not_free_outside (v ∷ ws) t h w) (same_variable w v) refl
  where
    go : (among w (v ∷ ws) ≡ false → is_free w t ≡ false) → (c : Bool) → same_variable w v ≡ c → (not c && is_free w t) ≡ false
    go inner true e = refl
    go inner false e = inner (rw e k)

-- the term has no free variable
abbrev pub Closed : Term → Type 0
Closed t = (w : Variable) → is_free w t ≡ false

pub and_closed : Closed and_term
and_closed w = not_free_outside [] and_term refl w refl

pub imp_closed : Closed imp_term
imp_closed w = not_free_outside [] imp_term refl w refl

pub not_closed : Closed not_term
not_closed w = not_free_outside [] not_term refl w refl

pub or_closed : Closed or_term
or_closed w = not_free_outside [] or_term refl w refl

pub true_closed : Closed true_term
true_closed w = refl

pub false_closed : Closed false_term
false_closed w = not_free_outside [] false_term refl w refl

-- a term made by application from x, y and closed terms
pub data Flat : Term → Type 0 where
  flat_x : Flat (variable (x_of truth))
  flat_y : Flat (variable (y_of truth))
  flat_closed : (c : Term) → Closed c → Flat c
  flat_apply : {f t : Term} → Flat f → Flat t → Flat (apply f t)

-- the term with two others in the places of x and y
abbrev pub filled : (s t : Term) {l : Term} → Flat l → Term
filled s t flat_x = s
filled s t flat_y = t
filled s t (flat_closed c h) = c
filled s t (flat_apply f u) = apply (filled s t f) (filled s t u)

-- a variable that is above x, y and the numbers of a term
abbrev pub fresh : Term → SimpleType → Variable
fresh s a = record { number = suc (suc (limit s)); type = a }

pub not_free-fresh : (s : Term) (a : SimpleType) → is_free (fresh s a) s ≡ false
not_free-fresh s a = not_free_above (fresh s a) s (IsBelow-more (limit s) (suc (suc (limit s))) s (omega arith) (IsBelow-limit s))

free_first : (v : Variable) (b : Term) {l : Term} → Flat l → is_free_for b v l ≡ true
free_first v b flat_x = refl
free_first v b flat_y = refl
free_first v b (flat_closed c h) = free_for_unfree v b c (h v)
free_first v b (flat_apply f t) = and_from _ _ (free_first v b f) (free_first v b t)

module _ (s t : Term) where
  first : Term → Term
  first l = replace (y_of truth) (variable (fresh s truth)) l

  second : Term → Term
  second l = replace (x_of truth) s (first l)

  third : Term → Term
  third l = replace (fresh s truth) t (second l)

  x_is_not_fresh : same_variable (x_of truth) (fresh s truth) ≡ false
  x_is_not_fresh = different (x_of truth) (fresh s truth) (λ (e : 0 ≡ suc (suc (limit s))). omega (arith, e))

  second-x : second (variable (x_of truth)) ≡ s
  unfolding first second
  second-x = refl

  second-y : second (variable (y_of truth)) ≡ variable (fresh s truth)
  unfolding first second
  second-y = rw x_is_not_fresh refl

  second-closed : (c : Term) → Closed c → second c ≡ c
  unfolding first second
  second-closed c h = rw (replace_unfree (y_of truth) (variable (fresh s truth)) c (h (y_of truth))) (replace_unfree (x_of truth) s c (h (x_of truth)))

  free_second : {l : Term} → Flat l → is_free_for s (x_of truth) (first l) ≡ true
  unfolding first
  free_second flat_x = refl
  free_second flat_y = refl
  free_second (flat_closed c h) =
      rw (replace_unfree (y_of truth) (variable (fresh s truth)) c (h (y_of truth))) (free_for_unfree (x_of truth) s c (h (x_of truth)))
  free_second (flat_apply f u) = and_from _ _ (free_second f) (free_second u)

  free_third : {l : Term} → Flat l → is_free_for t (fresh s truth) (second l) ≡ true
  unfolding first second
  free_third flat_x = free_for_unfree (fresh s truth) t s (not_free-fresh s truth)
  free_third flat_y = rw x_is_not_fresh refl
  free_third (flat_closed c h) = rw (second-closed c h) (free_for_unfree (fresh s truth) t c (h (fresh s truth)))
  free_third (flat_apply f u) = and_from _ _ (free_third f) (free_third u)

  third_filled : {l : Term} (f : Flat l) → third l ≡ filled s t f
  unfolding first second third
  third_filled flat_x = replace_unfree (fresh s truth) t s (not_free-fresh s truth)
  third_filled flat_y = rw (x_is_not_fresh, same_variable-refl (fresh s truth)) refl
  third_filled (flat_closed c h) = rw (second-closed c h) (replace_unfree (fresh s truth) t c (h (fresh s truth)))
  third_filled (flat_apply f u) = let e = third_filled f in let k = third_filled u in cc

  -- an equation of flat terms holds at all formulas
  pub at_formulas : {H : List Term} {a : SimpleType} {l r : Term} (f : Flat l) (g : Flat r) → IsFormula s → IsFormula t → Equal H a l r →
      Equal H a (filled s t f) (filled s t g)
  unfolding first second third
  at_formulas {H} {a} {l} {r} f g hs ht e =
      let z = fresh s truth in
      let one = instance (y_of truth) (variable z) e (of_variable z) (free_first (y_of truth) (variable z) f) (free_first (y_of truth) (variable z) g) in
      let two = instance (x_of truth) s one hs (free_second f) (free_second g) in
      let three = instance z t two ht (free_third f) (free_third g) in
      subst (λ (u : Term). Equal H a (filled s t f) u) (third_filled g) (subst (λ (u : Term). Equal H a u (third r)) (third_filled f) three)
