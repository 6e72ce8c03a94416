-- Variables that are not free, and the closed terms that stand for logical constants.
use Rattle.std.proofs.Common.{◌≡◌, Bool, true, false, ◌&&◌, ◌||◌, not, cond, List, [], ◌∷◌, refl, ap, subst}
use Rattle.std.proofs.lemmas.Bool.{and_from, and_parts}
use Rattle.leo_q0.specs.Terms.{Variable, same_variable, Term, variable, constant, identity, choice, apply, lambda}
use Rattle.leo_q0.specs.Substitution.{is_free, is_free_for, replace}
use Rattle.leo_q0.specs.Connectives.{false_term, and_term, imp_term, not_term, or_term}
use Rattle.leo_q0.proofs.Variables.{equal_variables}

or_parts : (b c : Bool) → (b || c) ≡ false → (b ≡ false) × (c ≡ false)
or_parts true c h = cc
or_parts false c h = (refl, h)

-- what replaces a variable that is not free replaces nothing
pub replace_unfree : (x : Variable) (b t : Term) → is_free x t ≡ false → replace x b t ≡ t
replace_unfree x b (variable v) h = rw h refl
replace_unfree x b (constant n a) h = refl
replace_unfree x b (identity a) h = refl
replace_unfree x b (choice a) h = refl
replace_unfree x b (apply f t) h =
    let p = or_parts (is_free x f) (is_free x t) h in
    let e = replace_unfree x b f p.0 in
    let k = replace_unfree x b t p.1 in cc
replace_unfree x b (lambda v t) h = go (replace_unfree x b t) (same_variable x v) h
  where
    go : (is_free x t ≡ false → replace x b t ≡ t) → (c : Bool) → (not c && is_free x t) ≡ false → cond c (lambda v t) (lambda v (replace x b t)) ≡ lambda v t
    go inner true h = refl
    go inner false h = ap (lambda v) (inner h)

-- each term is free for a variable that is not free
pub free_for_unfree : (x : Variable) (b t : Term) → is_free x t ≡ false → is_free_for b x t ≡ true
free_for_unfree x b (variable v) h = refl
free_for_unfree x b (constant n a) h = refl
free_for_unfree x b (identity a) h = refl
free_for_unfree x b (choice a) h = refl
free_for_unfree x b (apply f t) h =
    let p = or_parts (is_free x f) (is_free x t) h in
    and_from _ _ (free_for_unfree x b f p.0) (free_for_unfree x b t p.1)
free_for_unfree x b (lambda v t) h = rw h refl

-- the variable is one of the list
abbrev among : Variable → List Variable → Bool
among v [] = false
among v (w ∷ ws) = same_variable v w || among v ws

-- all free variables of the term are in the list, by a test that computes
abbrev closed_in : List Variable → Term → Bool
closed_in ws (variable v) = among v ws
closed_in ws (constant n a) = true
closed_in ws (identity a) = true
closed_in ws (choice a) = true
closed_in ws (apply f t) = closed_in ws f && closed_in ws t
closed_in ws (lambda v t) = closed_in (v ∷ ws) t

not_among : (ws : List Variable) (v w : Variable) → among v ws ≡ true → among w ws ≡ false → same_variable w v ≡ false
not_among ws v w h k = go (same_variable w v) refl
  where
    go : (c : Bool) → same_variable w v ≡ c → c ≡ false
    go true e = let m = subst (λ (u : Variable). among u ws ≡ false) (equal_variables w v e) k in cc
    go false e = refl

not_free_outside : (ws : List Variable) (t : Term) → closed_in ws t ≡ true → (w : Variable) → among w ws ≡ false → is_free w t ≡ false
not_free_outside ws (variable v) h w k = not_among ws v w h k
not_free_outside ws (constant n a) h w k = refl
not_free_outside ws (identity a) h w k = refl
not_free_outside ws (choice a) h w k = refl
not_free_outside ws (apply f t) h w k =
    let p = and_parts (closed_in ws f) (closed_in ws t) h in
    rw (not_free_outside ws f p.0 w k) (not_free_outside ws t p.1 w k)
not_free_outside ws (lambda v t) h w k = go (not_free_outside (v ∷ ws) t h w) (same_variable w v) refl
  where
    go : (among w (v ∷ ws) ≡ false → is_free w t ≡ false) → (c : Bool) → same_variable w v ≡ c → (not c && is_free w t) ≡ false
    go inner true e = refl
    go inner false e = inner (rw e k)

-- the term has no free variable
abbrev pub Closed : Term → Type 0
Closed t = (w : Variable) → is_free w t ≡ false

pub and_closed : Closed and_term
and_closed w = not_free_outside [] and_term refl w refl

pub imp_closed : Closed imp_term
imp_closed w = not_free_outside [] imp_term refl w refl

pub not_closed : Closed not_term
not_closed w = not_free_outside [] not_term refl w refl

pub or_closed : Closed or_term
or_closed w = not_free_outside [] or_term refl w refl

pub false_closed : Closed false_term
false_closed w = not_free_outside [] false_term refl w refl
