-- Names, and the places at which they stand.
use Rattle.std.proofs.Common.{ℕ, zero, suc, nat_eq, ◌≡◌, ◌∙◌, ◌+◌, ◌<◌, Bool, true, false, List, [], ◌∷◌, ◌++◌, length, map, slice_get, Some, append_assoc, length-append, refl, sym, ap, subst, arith, ◌⊎◌, inl, inr}
use Rattle.std.specs.Bool.{if◌then◌else◌}
use Rattle.std.specs.List.{list_any, fold}
use Rattle.std.proofs.lemmas.Bool.{or_cases, or_left, or_right}
use Rattle.std.proofs.lemmas.List.{append-nil}
use Rattle.fo_terms.specs.Terms.{Term}
use Rattle.fo_terms.specs.Substitutions.{Substitution, apply, IsMostGeneralUnifier}
use Rattle.fo_terms.proofs.Substituting.{apply-apply, apply-same}
use Rattle.fo_super.specs.Matching.{IsFirstPlace, HasNoPlace}
use Rattle.fo_super.specs.Numbering.{with_name, place_in, renumbered, IsNumbered, renaming}
use Rattle.fo_super.proofs.Answering.{same-number, other-number, equal-numbers}

-- a name that stands somewhere, or nowhere
pub has-at : (ns : List ℕ) (v i : ℕ) → slice_get ns i ≡ Some v → list_any (nat_eq v) ns ≡ true
has-at [] v i e = absurd (let f : ⊥ = cc in f)
has-at (n ∷ ns) v zero e = let f : n ≡ v = cc in or_left (nat_eq v n) (list_any (nat_eq v) ns) (subst (λ x. nat_eq v x ≡ true) (sym f) (same-number v))
has-at (n ∷ ns) v (suc i) e = or_right (nat_eq v n) (list_any (nat_eq v) ns) (has-at ns v i e)

pub has-nowhere : (ns : List ℕ) (v : ℕ) → HasNoPlace ns v → list_any (nat_eq v) ns ≡ false
has-nowhere [] v h = refl
has-nowhere (n ∷ ns) v h = rw (other-number v n (λ e. h zero n refl (sym e))) (has-nowhere ns v (λ i m e. h (suc i) m e))

pub place-at : (ns : List ℕ) (v i : ℕ) → IsFirstPlace ns v i → place_in ns v ≡ i
place-at [] v i h = absurd (let e = h.stands in let f : ⊥ = cc in f)
place-at (n ∷ ns) v zero h = let e = h.stands in let f : n ≡ v = cc in rw (f, same-number v) refl
place-at (n ∷ ns) v (suc i) h =
    rw (other-number v n (λ e. h.first zero n (omega arith) refl (sym e)))
    (ap suc (place-at ns v i (record { stands = h.stands; first = λ j m l e. h.first (suc j) m (omega arith) e })))

pub renumbered-at : (ns : List ℕ) (v i : ℕ) → IsFirstPlace ns v i → i ≡ renumbered ns v
renumbered-at ns v i h = rw (has-at ns v i h.stands) (sym (place-at ns v i h))

pub renumbered-behind : (ns : List ℕ) (v n : ℕ) → HasNoPlace ns v → n ≡ length ns + v → n ≡ renumbered ns v
renumbered-behind ns v n h e = rw (has-nowhere ns v h) e

pub with-there : (ns : List ℕ) (v i : ℕ) → IsFirstPlace ns v i → ns ≡ with_name ns v
with-there ns v i h = rw (has-at ns v i h.stands) refl

pub with-new : (ns ms : List ℕ) (v : ℕ) → HasNoPlace ns v → ms ≡ ns ++ v ∷ [] → ms ≡ with_name ns v
with-new ns ms v h e = rw (has-nowhere ns v h) e

-- the names of a list, numbered
pub fold-both : (ns vs ws : List ℕ) → fold with_name ns (vs ++ ws) ≡ fold with_name (fold with_name ns vs) ws
fold-both ns [] ws = refl
fold-both ns (v ∷ vs) ws = fold-both (with_name ns v) vs ws

-- names that begin with others
record Extends (ns all : List ℕ) : Type 0 where
  pub more : List ℕ
  pub is : all ≡ ns ++ more

extends-with : (ns : List ℕ) (v : ℕ) → Extends ns (with_name ns v)
extends-with ns v = go (list_any (nat_eq v) ns)
  where
    go : (b : Bool) → Extends ns (if b then ns else ns ++ v ∷ [])
    go true = record { more = []; is = sym (append-nil ns) }
    go false = record { more = v ∷ []; is = refl }

extends-fold : (ns vs : List ℕ) → Extends ns (fold with_name ns vs)
extends-fold ns [] = record { more = []; is = sym (append-nil ns) }
extends-fold ns (v ∷ vs) =
    let a = extends-with ns v in
    let b = extends-fold (with_name ns v) vs in
    record { more = a.more ++ b.more; is = b.is ∙ ap (λ xs. xs ++ b.more) a.is ∙ append_assoc ns a.more b.more }

has-front : (ns more : List ℕ) (v : ℕ) → list_any (nat_eq v) ns ≡ true → list_any (nat_eq v) (ns ++ more) ≡ true
has-front [] more v h = absurd (let f : ⊥ = cc in f)
has-front (n ∷ ns) more v h =
    elim (or_cases (nat_eq v n) (list_any (nat_eq v) ns) h) [
      | inl e ↦ or_left (nat_eq v n) (list_any (nat_eq v) (ns ++ more)) e
      | inr e ↦ or_right (nat_eq v n) (list_any (nat_eq v) (ns ++ more)) (has-front ns more v e)
    ]

place-front : (ns more : List ℕ) (v : ℕ) → list_any (nat_eq v) ns ≡ true → place_in (ns ++ more) v < length ns
place-front [] more v h = absurd (let f : ⊥ = cc in f)
place-front (n ∷ ns) more v h = go (nat_eq v n) refl (place-front ns more v)
  where
    go : (b : Bool) → nat_eq v n ≡ b → (list_any (nat_eq v) ns ≡ true → place_in (ns ++ more) v < length ns) → place_in (n ∷ (ns ++ more)) v < length (n ∷ ns)
    go true e r = rw e (omega arith)
    go false e r = rw e (let k : list_any (nat_eq v) ns ≡ true = rw e at h in let q = r k in omega arith)

place-new : (ns more : List ℕ) (v : ℕ) → list_any (nat_eq v) ns ≡ false → place_in (ns ++ v ∷ more) v ≡ length ns
place-new [] more v h = rw (same-number v) refl
place-new (n ∷ ns) more v h = go (nat_eq v n) refl (place-new ns more v)
  where
    go : (b : Bool) → nat_eq v n ≡ b → (list_any (nat_eq v) ns ≡ false → place_in (ns ++ v ∷ more) v ≡ length ns) → place_in (n ∷ (ns ++ v ∷ more)) v ≡ length (n ∷ ns)
    go true e r = absurd (let k : true ≡ false = rw e at h in let f : ⊥ = cc in f)
    go false e r = rw e (ap suc (r (rw e at h)))

has-new : (ns more : List ℕ) (v : ℕ) → list_any (nat_eq v) (ns ++ v ∷ more) ≡ true
has-new [] more v = or_left (nat_eq v v) (list_any (nat_eq v) more) (same-number v)
has-new (n ∷ ns) more v = or_right (nat_eq v n) (list_any (nat_eq v) (ns ++ v ∷ more)) (has-new ns more v)

numbered-from : (all ns vs : List ℕ) → all ≡ fold with_name ns vs → IsNumbered (length ns) (map (renumbered all) vs) (length all)
numbered-from all ns [] e = ap length (sym e)
numbered-from all ns (v ∷ vs) e = go (list_any (nat_eq v) ns) refl (λ ms f. numbered-from all ms vs f)
  where
    go : (b : Bool) → list_any (nat_eq v) ns ≡ b → ((ms : List ℕ) → all ≡ fold with_name ms vs → IsNumbered (length ms) (map (renumbered all) vs) (length all)) → ((renumbered all v < length ns) × IsNumbered (length ns) (map (renumbered all) vs) (length all)) ⊎ ((renumbered all v ≡ length ns) × IsNumbered (suc (length ns)) (map (renumbered all) vs) (length all))
    go true h rec =
        let w : with_name ns v ≡ ns = rw h refl in
        let f : all ≡ fold with_name ns vs = e ∙ ap (λ (x : List ℕ). fold with_name x vs) w in
        let x = extends-fold ns vs in
        let g : all ≡ ns ++ x.more = f ∙ x.is in
        let p : renumbered (ns ++ x.more) v < length ns = rw (has-front ns x.more v h) (place-front ns x.more v h) in
        inl (subst (λ y. renumbered y v < length ns) (sym g) p, rec ns f)
    go false h rec =
        let w : with_name ns v ≡ ns ++ v ∷ [] = rw h refl in
        let f : all ≡ fold with_name (ns ++ v ∷ []) vs = e ∙ ap (λ (x : List ℕ). fold with_name x vs) w in
        let x = extends-fold (ns ++ v ∷ []) vs in
        let g : all ≡ ns ++ v ∷ x.more = f ∙ x.is ∙ append_assoc ns (v ∷ []) x.more in
        let p : renumbered (ns ++ v ∷ x.more) v ≡ length ns = rw (has-new ns x.more v) (place-new ns x.more v h) in
        let l : length (ns ++ v ∷ []) ≡ suc (length ns) = length-append ns (v ∷ []) ∙ (let k : length ns + 1 ≡ suc (length ns) = omega arith in k) in
        inr (subst (λ y. renumbered y v ≡ length ns) (sym g) p, subst (λ k. IsNumbered k (map (renumbered all) vs) (length all)) l (rec (ns ++ v ∷ []) f))

pub numbered : (vs : List ℕ) → IsNumbered 0 (map (renumbered (fold with_name [] vs)) vs) (length (fold with_name [] vs))
numbered vs = numbered-from (fold with_name [] vs) [] vs refl

-- the name at a place, or the number behind all places
abbrev name_at : List ℕ → ℕ → ℕ
name_at [] n = n
name_at (v ∷ vs) zero = v
name_at (v ∷ vs) (suc n) = name_at vs n

name-back : (ns : List ℕ) (v : ℕ) → list_any (nat_eq v) ns ≡ true → name_at ns (place_in ns v) ≡ v
name-back [] v h = absurd (let f : ⊥ = cc in f)
name-back (n ∷ ns) v h = go (nat_eq v n) refl (name-back ns v)
  where
    go : (b : Bool) → nat_eq v n ≡ b → (list_any (nat_eq v) ns ≡ true → name_at ns (place_in ns v) ≡ v) → name_at (n ∷ ns) (place_in (n ∷ ns) v) ≡ v
    go true e r = rw e (sym (equal-numbers v n e))
    go false e r = rw e (r (rw e at h))

name-behind : (ns : List ℕ) (v : ℕ) → name_at ns (length ns + v) ≡ v
name-behind [] v = (let e : 0 + v ≡ v = omega arith in e)
name-behind (n ∷ ns) v = ap (name_at (n ∷ ns)) (let e : suc (length ns) + v ≡ suc (length ns + v) = omega arith in e) ∙ name-behind ns v

pub name-renumbered : (ns : List ℕ) (v : ℕ) → name_at ns (renumbered ns v) ≡ v
name-renumbered ns v = go (list_any (nat_eq v) ns) refl
  where
    go : (b : Bool) → list_any (nat_eq v) ns ≡ b → name_at ns (renumbered ns v) ≡ v
    go true e = rw e (name-back ns v e)
    go false e = rw e (name-behind ns v)

-- a most general unifier stays one once its variables are renumbered
pub renamed-general : (ns : List ℕ) (s : Substitution) (t u : Term) → IsMostGeneralUnifier s t u → IsMostGeneralUnifier (λ v. apply (renaming ns) (s v)) t u
renamed-general ns s t u h = record {
  unifies = sym (apply-apply (renaming ns) s t) ∙ ap (apply (renaming ns)) h.unifies ∙ apply-apply (renaming ns) s u;
  general = λ other e.
      (let g = h.general other e in (
        λ w. g.0 (name_at ns w),
        λ v. g.1 v ∙ sym (apply-apply (λ w. g.0 (name_at ns w)) (renaming ns) (s v) ∙ apply-same (λ w. g.0 (name_at ns (renumbered ns w))) g.0 (s v) (λ w o. ap g.0 (name-renumbered ns w))),
      ));
}
