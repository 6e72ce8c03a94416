-- A literal between others, and new literals in its place.
use Rattle.std.proofs.Common.{ℕ, zero, suc, ◌≡◌, ◌∙◌, ◌+◌, ◌<◌, List, [], ◌∷◌, ◌++◌, length, map, slice_get, Some, refl, sym, ap, append_assoc, arith}
use Rattle.std.proofs.lemmas.List.{length-append, map-append}
use Rattle.leo_clause.specs.Trees.{Literal}
use Rattle.leo_kernel.specs.Conclusions.{with_literals}
use Rattle.leo_unify.specs.Pairs.{Pair}
use Rattle.leo_conclude.specs.Conclusions.{unequal_pair}
use Rattle.leo_conclude.specs.Leaving.{Stands}

get-between : (front back : List Literal) (l : Literal) → slice_get (front ++ (l ∷ back)) (length front) ≡ Some l
get-between [] back l = refl
get-between (k ∷ front) back l = get-between front back l

with-between : (front back new : List Literal) (l : Literal) → with_literals (front ++ (l ∷ back)) (length front) new ≡ front ++ (new ++ back)
with-between [] back new l = refl
with-between (k ∷ front) back new l = ap (λ (ls : List Literal). k ∷ ls) (with-between front back new l)

module _ (literals front back : List Literal) (at : ℕ) (l : Literal) (is : literals ≡ front ++ (l ∷ back)) (count : length front ≡ at) where
  pub between-get : slice_get literals at ≡ Some l
  between-get = rw (is, ← count) (get-between front back l)

  pub between-with : (new : List Literal) → with_literals literals at new ≡ front ++ (new ++ back)
  between-with new = rw (is, ← count) (with-between front back new l)

-- the parts of a list at a place
pub stands-at : (literals : List Literal) (at : ℕ) (l : Literal) → slice_get literals at ≡ Some l → Stands literals at l
stands-at [] at l e = absurd (cc)
stands-at (k ∷ ls) zero l e = let f : k ≡ l = cc in record { front = []; back = ls; is = ap (λ (x : Literal). x ∷ ls) f; count = refl }
stands-at (k ∷ ls) (suc n) l e =
    let h = stands-at ls n l e in
    record { front = k ∷ h.front; back = h.back; is = ap (λ (xs : List Literal). k ∷ xs) h.is; count = ap suc h.count }

pub stands-within : (literals : List Literal) (at : ℕ) (l : Literal) → Stands literals at l → at < length literals
stands-within literals at l h = (let e = ap length h.is in let f = length-append h.front (l ∷ h.back) in let g = h.count in omega arith)

-- the next of two that stand behind one another
pub stands-next : (literals front back new : List Literal) (at end : ℕ) (l : Literal) → literals ≡ front ++ (new ++ (l ∷ back)) → length front ≡ at → end ≡ at + length new → Stands literals end l
stands-next literals front back new at end l is count e = record {
  front = front ++ new;
  back = back;
  is = is ∙ sym (append_assoc front new (l ∷ back));
  count = length-append front new ∙ rw count (sym e);
}

pub three : (front a b back : List Literal) → (front ++ a) ++ (b ++ back) ≡ front ++ ((a ++ b) ++ back)
three front a b back = append_assoc front a (b ++ back) ∙ ap (λ (ls : List Literal). front ++ ls) (sym (append_assoc a b back))

pub pairs-append : (ps qs : List Pair) → map unequal_pair ps ++ map unequal_pair qs ≡ map unequal_pair (ps ++ qs)
pairs-append ps qs = sym (map-append unequal_pair ps qs)

pub pairs-count : (ps : List Pair) → length (map unequal_pair ps) ≡ length ps
pairs-count [] = refl
pairs-count (p ∷ ps) = ap suc (pairs-count ps)

pub count-pairs : (front : List Literal) (ps : List Pair) (at : ℕ) → length front ≡ at → length (front ++ map unequal_pair ps) ≡ at + length ps
count-pairs front ps at e = (let a = length-append front (map unequal_pair ps) in let b = pairs-count ps in omega arith)

pub count-both : (at : ℕ) (ps qs : List Pair) → (at + length ps) + length qs ≡ at + length (ps ++ qs)
count-both at ps qs = (let a = length-append ps qs in omega arith)

pub regrouped : (front : List Literal) (ps qs : List Pair) (back : List Literal) → (front ++ map unequal_pair ps) ++ (map unequal_pair qs ++ back) ≡ front ++ (map unequal_pair (ps ++ qs) ++ back)
regrouped front ps qs back = three front (map unequal_pair ps) (map unequal_pair qs) back ∙ ap (λ (ls : List Literal). front ++ (ls ++ back)) (pairs-append ps qs)
