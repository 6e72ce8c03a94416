-- Symbols that were met, and terms whose symbols were met.
use Rattle.std.proofs.Common.{ℕ, zero, suc, nat_eq, ◌≡◌, ◌∙◌, ◌+◌, ◌<◌, Bool, true, false, ◌||◌, List, [], ◌∷◌, ◌++◌, length, map, drop, slice_index_or, refl, sym, ap, arith, inl, inr}
use Rattle.std.specs.Bool.{if◌then◌else◌}
use Rattle.std.specs.List.{list_any}
use Rattle.leo_terms.specs.Contents.{Contents, tree_at}
use Rattle.leo_clause.specs.declared.clause.Lit.{Lit}
use Rattle.leo_clause.specs.Trees.{literal_at}
use Rattle.leo_clause.specs.Arranging.{firsts}
use Rattle.leo_clause.specs.Renaming.{AreSeen}
use Rattle.leo_clause.proofs.Seen.{firsts-append, AreSeen-with}
use Rattle.leo_clause.proofs.Meeting.{end-only}
use Rattle.leo_derive.specs.Symbols.{symbols_of, symbols_in, symbols_in_literals, AreCollected}

known-step : (c : Contents) (t v : ℕ) (order : List ℕ) (b d : Bool) → (b ≡ true → t ≡ v) → AreSeen order (symbols_of (tree_at c v)) → (b || d) ≡ true → (d ≡ true → AreSeen order (symbols_of (tree_at c t))) → AreSeen order (symbols_of (tree_at c t))
known-step c t v order true d same here h later = rw (same refl) here
known-step c t v order false d same here h later = later h

-- a term that was visited has its symbols met
pub known : (c : Contents) (t : ℕ) (test : ℕ → Bool) → ((v : ℕ) → test v ≡ true → t ≡ v) → (visited order : List ℕ) → AreCollected c visited order → list_any test visited ≡ true → AreSeen order (symbols_of (tree_at c t))
known c t test same [] order met h = absurd (cc)
known c t test same (v ∷ vs) order met h = known-step c t v order (test v) (list_any test vs) (same v) (met 0 v refl) h (known c t test same vs order (λ i u e. met (suc i) u e))

pub collected-with : (c : Contents) (visited order ns : List ℕ) → AreCollected c visited order → AreCollected c visited (firsts nat_eq order ns)
collected-with c visited order ns met i t e = AreSeen-with (symbols_of (tree_at c t)) ns order (met i t e)

pub collected-more : (c : Contents) (b : Bool) (visited order : List ℕ) (t : ℕ) → AreCollected c visited order → AreSeen order (symbols_of (tree_at c t)) → AreCollected c (if b then visited else visited ++ t ∷ []) order
collected-more c true visited order t met seen i u e = met i u e
collected-more c false visited order t met seen i u e =
    elim (end-only visited t i u e) [
      | inl h ↦ met i u h
      | inr h ↦ rw (← h) seen
    ]

-- ---- loops over literals and terms

drop_next : {X : Type 0} (xs : List X) (i : ℕ) (x : X) → i < length xs → x ≡ slice_index_or xs i x → drop i xs ≡ x ∷ drop (i + 1) xs
drop_next [] i x lt e = absurd (omega (arith, lt))
drop_next (y ∷ ys) zero x lt e = let f : x ≡ y = e in rw f refl
drop_next (y ∷ ys) (suc i) x lt e = let n : suc i + 1 ≡ suc (i + 1) = omega arith in rw n (drop_next ys i x (omega (arith, lt)) e)

pub literals_next : (c : Contents) (ls : List Lit) (i : ℕ) (l : Lit) (order middle end whole : List ℕ) → i < length ls → l ≡ slice_index_or ls i l → firsts nat_eq order (symbols_in_literals (map (literal_at c) (drop i ls))) ≡ whole
    → middle ≡ firsts nat_eq order (symbols_of (tree_at c l.left)) → end ≡ firsts nat_eq middle (symbols_of (tree_at c l.right)) → firsts nat_eq end (symbols_in_literals (map (literal_at c) (drop (i + 1) ls))) ≡ whole
literals_next c ls i l order middle end whole lt e h p q =
    let a = symbols_of (tree_at c l.left) in
    let b = symbols_of (tree_at c l.right) in
    let r = symbols_in_literals (map (literal_at c) (drop (i + 1) ls)) in
    let start : firsts nat_eq order ((a ++ b) ++ r) ≡ whole = ap (λ ys. firsts nat_eq order (symbols_in_literals (map (literal_at c) ys))) (sym (drop_next ls i l lt e)) ∙ h in
    rw (q, p) (sym (firsts-append nat_eq (a ++ b) r order ∙ ap (λ o. firsts nat_eq o r) (firsts-append nat_eq a b order)) ∙ start)

pub terms_next : (c : Contents) (ts : List ℕ) (i t : ℕ) (order end whole : List ℕ) → i < length ts → t ≡ slice_index_or ts i t → firsts nat_eq order (symbols_in (map (tree_at c) (drop i ts))) ≡ whole
    → end ≡ firsts nat_eq order (symbols_of (tree_at c t)) → firsts nat_eq end (symbols_in (map (tree_at c) (drop (i + 1) ts))) ≡ whole
terms_next c ts i t order end whole lt e h p =
    let a = symbols_of (tree_at c t) in
    let r = symbols_in (map (tree_at c) (drop (i + 1) ts)) in
    let start : firsts nat_eq order (a ++ r) ≡ whole = ap (λ ys. firsts nat_eq order (symbols_in (map (tree_at c) ys))) (sym (drop_next ts i t lt e)) ∙ h in
    rw p (sym (firsts-append nat_eq a r order) ∙ start)
