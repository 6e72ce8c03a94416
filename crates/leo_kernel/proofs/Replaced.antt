-- Lists with new items in the place of one.
use Rattle.std.proofs.Common.{ℕ, zero, suc, ◌≡◌, ◌∙◌, ◌+◌, ◌-◌, ◌<◌, ◌≤◌, Bool, true, List, [], ◌∷◌, ◌++◌, length, take, drop, refl, sym, ap, arith, add-one}
use Rattle.std.proofs.lemmas.List.{take-append-drop, length-drop}
use Rattle.std.proofs.Math.Seq.{drop-append_seam}
use Rattle.std.specs.Bool.{Decides}
use Rattle.std.proofs.lemmas.Bool.Decides.{Decides-like}

take-length : {X : Type 0} (p : ℕ) (xs : List X) → p ≤ length xs → length (take p xs) ≡ p
take-length zero xs h = refl
take-length (suc p) [] h = absurd (omega arith)
take-length (suc p) (x ∷ xs) h = ap suc (take-length p xs (omega arith))

drop-seam : {X : Type 0} (n : ℕ) (xs ys zs : List X) → length xs ≡ n → zs ≡ xs ++ ys → drop n zs ≡ ys
drop-seam n xs ys zs e h = rw (h, ← e) (drop-append_seam xs ys)

-- the parts of the list are those of the other, with new items between
pub replaced-decides : {X : Type 0} (b : Bool) (xs old new : List X) (p : ℕ) → p < length old → take p xs ≡ take p old → take (length new) (drop p xs) ≡ new → Decides b (drop (length new) (drop p xs) ≡ drop (p + 1) old) → Decides b (xs ≡ take p old ++ (new ++ drop (suc p) old))
replaced-decides b xs old new p l e f d =
    Decides-like b
    (λ g.
    let back : drop (length new) (drop p xs) ≡ drop (suc p) old = g ∙ rw add-one refl in
    let rest : drop p xs ≡ new ++ drop (suc p) old = sym (take-append-drop (length new) (drop p xs)) ∙ rw (f, back) refl in
    sym (take-append-drop p xs) ∙ rw (e, rest) refl)
    (λ g.
    let size : length (take p old) ≡ p = take-length p old (omega arith) in
    let rest : drop p xs ≡ new ++ drop (suc p) old = drop-seam p (take p old) (new ++ drop (suc p) old) xs size g in
    let back : drop (length new) (drop p xs) ≡ drop (suc p) old = drop-seam (length new) new (drop (suc p) old) (drop p xs) refl rest in
    back ∙ rw add-one refl)
    d

whole : {X : Type 0} (xs : List X) (n : ℕ) → length xs ≤ n → take n xs ≡ xs
whole [] zero h = refl
whole [] (suc n) h = refl
whole (x ∷ xs) zero h = absurd (omega arith)
whole (x ∷ xs) (suc n) h = ap (λ ys. x ∷ ys) (whole xs n (omega arith))

-- the same by the three comparisons of a call
pub replaced-by_parts : {X : Type 0} (r a b : Bool) (xs old new front rest middle back : List X) (p : ℕ) → p < length old → front ≡ take p xs → rest ≡ drop p xs → middle ≡ take (length new) rest → back ≡ drop (length new) rest → Decides a (front ≡ take p old) → a ≡ true → Decides b (middle ≡ new) → b ≡ true → Decides r (back ≡ take (length old - (p + 1)) (drop (p + 1) old)) → Decides r (xs ≡ take p old ++ (new ++ drop (suc p) old))
replaced-by_parts r a b xs old new front rest middle back p l f g h k d e u v w =
    let tail : take (length old - (p + 1)) (drop (p + 1) old) ≡ drop (p + 1) old = whole (drop (p + 1) old) (length old - (p + 1)) (omega (arith, length-drop (p + 1) old)) in
    replaced-decides r xs old new p l (sym f ∙ d.0 e) (sym (h ∙ rw g refl) ∙ u.0 v) (rw tail at (rw (k, g) at w))
