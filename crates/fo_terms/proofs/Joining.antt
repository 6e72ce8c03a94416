-- Classes of places, and two of them made one.
use Rattle.std.proofs.Common.{ℕ, zero, suc, ◌+◌, ◌≡◌, ◌≢◌, ◌<◌, true, false, List, [], ◌∷◌, ◌++◌, length, set, Some, arith, rules, inl, inr}
use Rattle.std.specs.Prelude.{slice_get, nat_eq, if◌then◌else◌}
use Rattle.fo_terms.specs.Classes.{AreAlone, roots_from}
use Rattle.fo_terms.proofs.Extending.{slice_get-push}

not_equal : (v h : ℕ) → v ≢ h → nat_eq v h ≡ false
not_equal v h d = search rules

fewer_here : (p k v : ℕ) (n : ℕ) → p ≡ k → v ≢ k → (if nat_eq v k then 1 else 0) + n < (if nat_eq p k then 1 else 0) + n
fewer_here p k v n e d =
    let a : nat_eq p k ≡ true = search rules in
    let b : nat_eq v k ≡ false = not_equal v k d in
    rw (a, b) (omega arith)

-- a root that is put under another place is none any more
pub roots_from-set : (k i h v : ℕ) (ps : List ℕ) → h ≡ k + i → slice_get ps i ≡ Some h → v ≢ h → roots_from k (set ps i v) < roots_from k ps
roots_from-set k i h v [] e s d = absurd cc
roots_from-set k zero h v (p ∷ ps) e s d =
    let here : p ≡ h = cc in
    let same : p ≡ k = omega arith in
    fewer_here p k v (roots_from (suc k) ps) same (λ q. d (omega arith))
roots_from-set k (suc i) h v (p ∷ ps) e s d =
    let others = roots_from-set (suc k) i h v ps (omega arith) s d in
    omega arith

pub AreAlone-push : (ps : List ℕ) (n : ℕ) → length ps ≡ n → AreAlone ps → AreAlone (ps ++ n ∷ [])
AreAlone-push ps n l a i j h = elim (slice_get-push ps n i j h) [
  | inl m ↦ a i j m
  | inr m ↦ (let e = m.0 in let f = m.1 in omega arith)
]
