-- Members of a disjunction, by their places.
use Rattle.std.proofs.Common.{◌≡◌, ℕ, zero, suc, List, [], ◌∷◌, ◌++◌, map, take, drop, slice_get, Some, refl, ap, subst}
use Rattle.leo_q0.specs.Terms.{Term}
use Rattle.leo_q0.specs.Derivations.{Derivable}
use Rattle.leo_sound.specs.Propositions.{disjunction}
use Rattle.leo_sound.proofs.Logic.{imp_of}
use Rattle.leo_sound.proofs.Tautologies.{AreFormulas}
use Rattle.leo_simulation.proofs.Disjunctions.{AllImply, none, also, members_imply}

some_value : {X : Type 0} {x y : X} → Some x ≡ Some y → x ≡ y
some_value e = cc

module _ {H : List Term} {u : Term} where
  pub implies_at : (ss : List Term) (i : ℕ) (s : Term) → slice_get ss i ≡ Some s → AllImply H u ss → Derivable H (imp_of s u)
  implies_at [] i s e none = cc
  implies_at (t ∷ ts) zero s e (also d all) = subst (λ (x : Term). Derivable H (imp_of x u)) (some_value e) d
  implies_at (t ∷ ts) (suc i) s e (also d all) = implies_at ts i s e all

-- a member implies the disjunction
pub member_implies : {H : List Term} (ss : List Term) (i : ℕ) (s : Term) → slice_get ss i ≡ Some s → AreFormulas ss → Derivable H (imp_of s (disjunction ss))
member_implies ss i s e h = implies_at ss i s e (members_imply ss h)

pub at_map : {X Y : Type 0} (f : X → Y) (xs : List X) (i : ℕ) (x : X) → slice_get xs i ≡ Some x → slice_get (map f xs) i ≡ Some (f x)
at_map f [] i x e = cc
at_map f (y ∷ ys) zero x e = ap (λ z. Some (f z)) (some_value e)
at_map f (y ∷ ys) (suc i) x e = at_map f ys i x e

-- what stands at one place stands in the list without another place
pub at_without : {X : Type 0} (xs : List X) (i j : ℕ) (x : X) → slice_get xs i ≡ Some x → (i ≡ j → ⊥) → (m : ℕ) × (slice_get (take j xs ++ drop (suc j) xs) m ≡ Some x)
at_without [] i j x e n = cc
at_without (y ∷ ys) zero zero x e n = absurd (n refl)
at_without (y ∷ ys) (suc i) zero x e n = (i, e)
at_without (y ∷ ys) zero (suc j) x e n = (0, e)
at_without (y ∷ ys) (suc i) (suc j) x e n =
    let p = at_without ys i j x e (λ k. n (ap suc k)) in
    (suc p.0, p.1)

-- what stands in the front, or behind it, stands in the whole
pub at_front : {X : Type 0} (xs ys : List X) (i : ℕ) (x : X) → slice_get xs i ≡ Some x → slice_get (xs ++ ys) i ≡ Some x
at_front [] ys i x e = cc
at_front (z ∷ xs) ys zero x e = e
at_front (z ∷ xs) ys (suc i) x e = at_front xs ys i x e
