-- The lightest of the passive clauses, and the clause that is given.
use Rattle.std.proofs.Common.{ℕ, zero, suc, ◌≡◌, ◌∙◌, ◌+◌, ◌<◌, ◌≤◌, ◌%◌, Bool, true, false, List, [], ◌∷◌, length, map, slice_get, slice_index_or, Some, refl, sym, ap, subst, arith, inl, inr}
use Rattle.std.specs.List.{AllByRecursion}
use Rattle.std.proofs.lemmas.Bool.{cases_lt}
use Rattle.fo_text.specs.declared.problem.FoClause.{FoClause}
use Rattle.fo_replay.specs.Replays.{clause_weight}
use Rattle.fo_super.specs.declared.state.FoState.{FoState}
use Rattle.fo_super.specs.declared.turning.Weighed.{Weighed}
use Rattle.fo_super.specs.Passives.{IsFirst, IsRisingFrom}
use Rattle.fo_super.specs.Runs.{search_of, IsState}
use Rattle.fo_super.specs.Turns.{IsByNumber, IsGiven}
use Rattle.fo_super.proofs.Answering.{get-index, same-item}
use Rattle.fo_super.proofs.Choosing.{first-by-number, kind-false, kind-true, lightest-first, lightest-step, IsLightest}
use Rattle.fo_super.proofs.Fronts.{get-some}
use Rattle.fo_super.proofs.Never.{length-mapped}
use Rattle.fo_super.proofs.Sorting.{all-at}
use Rattle.fo_super.proofs.Turned.{chosen}
use Rattle.fo_super.proofs.Works.{item-at}

nonempty : (ns : List ℕ) → (ns ≡ [] → ⊥) → 0 < length ns
nonempty [] f = absurd (f refl)
nonempty (n ∷ ns) f = omega arith

map-index : (clauses : List FoClause) (i : ℕ) → i < length clauses → (d : FoClause) × (slice_get clauses i ≡ Some d) × (slice_index_or (map clause_weight clauses) i 0 ≡ clause_weight d)
map-index [] i l = absurd (omega (arith, l))
map-index (c ∷ clauses) zero l = (c, refl, refl)
map-index (c ∷ clauses) (suc i) l = map-index clauses i (omega (arith, l))

-- as many weights as clauses
pub named-so : (weights : List ℕ) (clauses : List FoClause) (ns : List ℕ) → weights ≡ map clause_weight clauses → AllByRecursion (λ (n : ℕ). n < length weights) ns → AllByRecursion (λ (n : ℕ). n < length clauses) ns
named-so weights clauses ns e h = subst (λ m. AllByRecursion (λ (n : ℕ). n < m) ns) (ap length e ∙ length-mapped clause_weight clauses) h

pub named-too : (weights : List ℕ) (clauses : List FoClause) (ns : List ℕ) → weights ≡ map clause_weight clauses → AllByRecursion (λ (n : ℕ). n < length clauses) ns → AllByRecursion (λ (n : ℕ). n < length weights) ns
named-too weights clauses ns e h = subst (λ m. AllByRecursion (λ (n : ℕ). n < m) ns) (sym (ap length e ∙ length-mapped clause_weight clauses)) h

module _ (clauses : List FoClause) (ns : List ℕ) (named : AllByRecursion (λ (n : ℕ). n < length clauses) ns) where
  -- the weight at a place
  pub weighed-right : (weights : List ℕ) (place w : ℕ) → weights ≡ map clause_weight clauses → place < length ns → w ≡ slice_index_or weights (slice_index_or ns place 0) 0 → (n : ℕ) (d : FoClause) → slice_get ns place ≡ Some n → slice_get clauses n ≡ Some d → w ≡ clause_weight d
  weighed-right weights place w are l v n d e f =
      let i : slice_get ns place ≡ Some (slice_index_or ns place 0) = item-at ns place 0 l in
      let same : slice_index_or ns place 0 ≡ n = same-item (slice_get ns place) (slice_index_or ns place 0) n i e in
      let less : n < length clauses = all-at (λ (m : ℕ). m < length clauses) ns named place n e in
      let x = map-index clauses n less in
      v ∙ ap (λ (y : List ℕ). slice_index_or y (slice_index_or ns place 0) 0) are ∙ ap (λ m. slice_index_or (map clause_weight clauses) m 0) same ∙ x.2 ∙ ap clause_weight (same-item (slice_get clauses n) x.0 d x.1 f)

  module _ (rising : IsRisingFrom 0 ns) where
    pub lightest-init : (r : Weighed) → (ns ≡ [] → ⊥) → r.place ≡ 0 → ((n : ℕ) (c : FoClause) → slice_get ns 0 ≡ Some n → slice_get clauses n ≡ Some c → r.weight ≡ clause_weight c) → IsLightest clauses ns r.place 1 r.weight
    lightest-init r some p w =
        let g = get-some ns 0 (nonempty ns some) in
        let d = get-some clauses g.0 (all-at (λ (m : ℕ). m < length clauses) ns named 0 g.0 g.1) in
        subst (λ m. IsLightest clauses ns m 1 r.weight) (sym p) (lightest-first clauses ns rising g.0 d.0 r.weight g.1 d.1 (w g.0 d.0 g.1 d.1))

    pub lightest-more : (best other chosen : Weighed) (place : ℕ) → IsLightest clauses ns best.place place best.weight → place < length ns → other.place ≡ place → ((n : ℕ) (c : FoClause) → slice_get ns place ≡ Some n → slice_get clauses n ≡ Some c → other.weight ≡ clause_weight c) →
        (other.weight < best.weight → chosen ≡ other) → (best.weight ≤ other.weight → chosen ≡ best) → IsLightest clauses ns chosen.place (place + 1) chosen.weight
    lightest-more best other chosen place h l p w second first =
        let g = get-some ns place l in
        let d = get-some clauses g.0 (all-at (λ (m : ℕ). m < length clauses) ns named place g.0 g.1) in
        lightest-step clauses ns rising best other chosen place g.0 d.0 h p (w g.0 d.0 g.1 d.1) g.1 d.1 second first

-- the place of the lightest so far
pub least-within : {n : ℕ} → n ≡ 0 → n < 1
least-within e = omega (arith, e)

pub more-within : (best other chosen : Weighed) (place : ℕ) → best.place < place → other.place ≡ place → (other.weight < best.weight → chosen ≡ other) → (best.weight ≤ other.weight → chosen ≡ best) → chosen.place < place + 1
more-within best other chosen place l e second first =
    elim (cases_lt other.weight best.weight) [
      | inl a ↦ (let f : chosen.place ≡ other.place = ap (λ (x : Weighed). x.place) (second a) in omega (arith, e, f))
      | inr a ↦ (let f : chosen.place ≡ best.place = ap (λ (x : Weighed). x.place) (first a) in omega (arith, l, f))
    ]

-- the clause that is given
module _ (s : FoState) (state : IsState s) (ns : List ℕ) (are : ns ≡ s.passive) where
  pub given-first : (s.passive ≡ [] → ⊥) → (s.turns + 1) % 5 ≡ 0 → (c : FoClause) × IsGiven (search_of s) (slice_index_or ns 0 0) c
  given-first some e =
      let l : 0 < length s.passive = nonempty s.passive some in
      let i : slice_get s.passive 0 ≡ Some (slice_index_or s.passive 0 0) = item-at s.passive 0 0 l in
      let d = get-some s.clauses (slice_index_or s.passive 0 0) (all-at (λ (m : ℕ). m < length s.clauses) s.passive state.named 0 (slice_index_or s.passive 0 0) i) in
      let one : s.turns + 1 ≡ suc s.turns = omega arith in
      subst (λ (x : List ℕ). (c : FoClause) × IsGiven (search_of s) (slice_index_or x 0 0) c) (sym are)
      (chosen s true (slice_index_or s.passive 0 0) (first-by-number s.clauses s.passive (slice_index_or s.passive 0 0) d.0 state.rising i d.1) (kind-true (suc s.turns) (ap (λ n. n % 5) (sym one) ∙ e)))

  pub given-lightest : (place : ℕ) → place < length ns → ((g : ℕ) → slice_get ns place ≡ Some g → IsFirst false s.clauses ns g) → ((s.turns + 1) % 5 ≡ 0 → ⊥) → (c : FoClause) × IsGiven (search_of s) (slice_index_or ns place 0) c
  given-lightest place l first f =
      let i : slice_get ns place ≡ Some (slice_index_or ns place 0) = item-at ns place 0 l in
      let one : s.turns + 1 ≡ suc s.turns = omega arith in
      chosen s false (slice_index_or ns place 0) (subst (λ (x : List ℕ). IsFirst false s.clauses x (slice_index_or ns place 0)) are (first (slice_index_or ns place 0) i)) (kind-false (suc s.turns) (λ e. f (ap (λ n. n % 5) one ∙ e)))
