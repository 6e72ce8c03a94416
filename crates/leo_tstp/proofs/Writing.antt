-- Lists that are written item by item.
use Rattle.std.proofs.Common.{ℕ, zero, suc, ◌≡◌, ◌∙◌, ◌+◌, ◌<◌, List, [], ◌∷◌, ◌++◌, length, map, take, slice_get, slice_index_or, Option, Some, None, append_assoc, refl, sym, ap, arith}
use Rattle.std.specs.List.{flat_map}
use Rattle.std.proofs.lemmas.List.{take_more, map-append}
use Rattle.std.proofs.lemmas.Grind.{flat_map-append}
use Rattle.std.specs.Option.{option_map}
use Rattle.leo_terms.specs.Contents.{Contents, Symbol, IsSymbolOf, symbol_type, symbol_type_in}
use Rattle.leo_problem.specs.declared.loaded.Hyp.{Hyp}
use Rattle.leo_problem.specs.Loading.{AreClosedFormulas}
use Rattle.leo_clause.specs.Typed.{AreTypesOf}

end-nil : {A : Type 0} (xs : List A) → xs ++ [] ≡ xs
end-nil [] = refl
end-nil (x ∷ xs) = ap (λ ys. x ∷ ys) (end-nil xs)

-- one item more, of a list whose items are read first
pub one-more : {A B C : Type 0} (text : B → List C) (read : A → B) (xs : List A) (i : ℕ) (x : A) (start before after : List C) → i < length xs → x ≡ slice_index_or xs i x
    → before ≡ start ++ flat_map text (map read (take i xs)) → after ≡ before ++ text (read x) → after ≡ start ++ flat_map text (map read (take (i + 1) xs))
one-more {A} {B} {C} text read xs i x start before after within is known written =
    let t : take (i + 1) xs ≡ take i xs ++ x ∷ [] = take_more xs i x within ∙ ap (λ y. take i xs ++ y ∷ []) (sym is) in
    let m : map read (take (i + 1) xs) ≡ map read (take i xs) ++ read x ∷ [] = ap (map read) t ∙ map-append read (take i xs) (x ∷ []) in
    let f : flat_map text (map read (take (i + 1) xs)) ≡ flat_map text (map read (take i xs)) ++ text (read x) =
    ap (flat_map text) m ∙ (flat_map-append text (map read (take i xs)) (read x ∷ []) ∙ ap (λ z. flat_map text (map read (take i xs)) ++ z) (end-nil (text (read x)))) in
    written ∙ (ap (λ z. z ++ text (read x)) known ∙ (append_assoc start (flat_map text (map read (take i xs))) (text (read x)) ∙ ap (λ z. start ++ z) (sym f)))

-- the types of a clause are types of the bank
pub types-at : (c : Contents) (ts : List ℕ) → AreTypesOf c ts → (i t : ℕ) → i < length ts → t ≡ slice_index_or ts i t → t < length c.types
types-at c [] h i t lt e = absurd (omega arith)
types-at c (k ∷ ts) h zero t lt e = rw e h.0
types-at c (k ∷ ts) h (suc i) t lt e = types-at c ts h.1 i t (omega arith) e

-- the formulas of hypotheses are terms of the bank
pub formulas-at : (c : Contents) (hs : List Hyp) → AreClosedFormulas c hs → (i : ℕ) (h : Hyp) → i < length hs → h ≡ slice_index_or hs i h → h.term < length c.terms
formulas-at c [] a i h lt e = absurd (omega arith)
formulas-at c (k ∷ hs) a zero h lt e = rw e a.0.within
formulas-at c (k ∷ hs) a (suc i) h lt e = formulas-at c hs a.1 i h (omega arith) e

-- a symbol's type, by a term of it
pub symbol-typed : (c : Contents) (s i : ℕ) → IsSymbolOf c s i → symbol_type c s ≡ i
unfolding symbol_type
symbol-typed c s i h = by (slice_get c.symbols s) h.symbol_type
  where
    by : (o : Option Symbol) → option_map (λ x. x.ty) o ≡ Some i → symbol_type_in o ≡ i
    by None e = absurd cc
    by (Some x) e = cc

-- three parts, one behind the other
pub three-written : {A : Type 0} (old first second third one two three : List A) → one ≡ old ++ first → two ≡ one ++ second → three ≡ two ++ third → three ≡ old ++ (first ++ (second ++ third))
three-written old first second third one two three e f g =
    g ∙ (ap (λ z. z ++ third) f ∙ (append_assoc one second third ∙ (ap (λ z. z ++ (second ++ third)) e ∙ append_assoc old first (second ++ third))))
