-- Variables that are applied to different indices, and what they become.
use Rattle.std.proofs.Common.{ℕ, zero, suc, nat_eq, nat_lt, ◌≡◌, ◌∙◌, ◌+◌, ◌-◌, ◌<◌, ◌≤◌, Bool, true, false, ◌||◌, List, [], ◌∷◌, ◌++◌, length, slice_get, Option, Some, None, refl, sym, ap, subst, arith, ◌⊎◌, inl, inr}
use Rattle.std.specs.Bool.{if◌then◌else◌}
use Rattle.std.specs.Option.{option_and_then}
use Rattle.std.specs.List.{list_any}
use Rattle.std.proofs.lemmas.Bool.{and_parts}
use Rattle.std.proofs.lemmas.Bool.Decides.{nat_tests}
use Rattle.leo_q0.specs.Terms.{SimpleType, base, arrow}
use Rattle.leo_terms.specs.Tree.{codomain, Tree, variable, bound, symbol, app, lam, logic, absent, type_of, IsBoundAt, lifted}
use Rattle.leo_terms.specs.Typing.{IsWellTyped}
use Rattle.leo_terms.specs.NormalForm.{expanded, eta_long}
use Rattle.leo_clause.specs.Typed.{IsOver}
use Rattle.leo_clause.specs.Sameness.{same_tree}
use Rattle.leo_clause.specs.Arranging.{place_in}
use Rattle.leo_clause.proofs.Same.{equal-trees}
use Rattle.leo_unify.specs.Patterns.{Pattern, index_at_head, long_index, new_index, pattern_before, is_covered, rebound, abstracted}
use Rattle.leo_unify.specs.Contexts.{AreBoundTo}

-- ---- places in an order

place-seen : (i : ℕ) (order : List ℕ) → list_any (nat_eq i) order ≡ true → slice_get order (place_in order i) ≡ Some i
place-seen i [] h = absurd (cc)
place-seen i (j ∷ order) h = at (nat_eq i j) refl h (place-seen i order)
  where
    at : (b : Bool) → nat_eq i j ≡ b → (b || list_any (nat_eq i) order) ≡ true → (list_any (nat_eq i) order ≡ true → slice_get order (place_in order i) ≡ Some i) → slice_get (j ∷ order) (if b then zero else suc (place_in order i)) ≡ Some i
    at true e h later = let f : i ≡ j = grind (arith, nat_tests) in ap Some (sym f)
    at false e h later = later h

place-within : (i : ℕ) (order : List ℕ) → list_any (nat_eq i) order ≡ true → place_in order i < length order
place-within i [] h = absurd (cc)
place-within i (j ∷ order) h = at (nat_eq i j) h (place-within i order)
  where
    at : (b : Bool) → (b || list_any (nat_eq i) order) ≡ true → (list_any (nat_eq i) order ≡ true → place_in order i < length order) → (if b then zero else suc (place_in order i)) < suc (length order)
    at true h later = omega arith
    at false h later = let p = later h in omega arith

same-item : (m n : ℕ) → Some m ≡ Some n → m ≡ n
same-item m n e = cc

or-second : (p q : Bool) → p ≡ false → (p || q) ≡ true → q ≡ true
or-second true q e h = absurd (cc)
or-second false q e h = h

-- ---- a term whose indices become places

pub type_of-rebound : (order : List ℕ) (t : Tree) (k : ℕ) → type_of (rebound order k t) ≡ type_of t
type_of-rebound order (variable n b) k = refl
type_of-rebound order (bound i b) k = at (nat_lt i k)
  where
    at : (l : Bool) → type_of (if l then bound i b else bound (k + place_in order (i - k)) b) ≡ b
    at true = refl
    at false = refl
type_of-rebound order (symbol s b) k = refl
type_of-rebound order (app f x) k = ap codomain (type_of-rebound order f k)
type_of-rebound order (lam b t) k = ap (arrow b) (type_of-rebound order t (k + 1))
type_of-rebound order (logic c x y) k = refl
type_of-rebound order absent k = refl

-- an index of the lambdas inside keeps its type
pub bound-rebound_below : (order : List ℕ) (t : Tree) (k j : ℕ) (a : SimpleType) → j < k → IsBoundAt j a t → IsBoundAt j a (rebound order k t)
bound-rebound_below order (variable n b) k j a l h = tt
bound-rebound_below order (bound i b) k j a l h = at (nat_lt i k)
  where
    at : (q : Bool) → IsBoundAt j a (if q then bound i b else bound (k + place_in order (i - k)) b)
    at true = h
    at false = λ e. absurd (omega arith)
bound-rebound_below order (symbol s b) k j a l h = tt
bound-rebound_below order (app f x) k j a l h = (bound-rebound_below order f k j a l h.0, bound-rebound_below order x k j a l h.1)
bound-rebound_below order (lam b t) k j a l h = bound-rebound_below order t (k + 1) (j + 1) a (omega arith) h
bound-rebound_below order (logic c x y) k j a l h = (bound-rebound_below order x k j a l h.0, bound-rebound_below order y k j a l h.1)
bound-rebound_below order absent k j a l h = tt

-- an index that became the place p has the type that it had
pub bound-rebound_at : (number : ℕ) (order : List ℕ) (t : Tree) (k p q i : ℕ) (a : SimpleType) → q ≡ k + p → slice_get order p ≡ Some i → is_covered number order k t ≡ true → IsBoundAt (k + i) a t → IsBoundAt q a (rebound order k t)
bound-rebound_at number order (variable n b) k p q i a e g c h = tt
bound-rebound_at number order (bound j b) k p q i a e g c h = at (nat_lt j k) refl
  where
    at : (l : Bool) → nat_lt j k ≡ l → IsBoundAt q a (if l then bound j b else bound (k + place_in order (j - k)) b)
    at true f = λ m. (let u : j < k = grind (arith, nat_tests) in absurd (omega arith))
    at false f = λ m.
        let u : k ≤ j = grind (arith, nat_tests) in
        let s = place-seen (j - k) order (or-second (nat_lt j k) (list_any (nat_eq (j - k)) order) f c) in
        let v : place_in order (j - k) ≡ p = omega arith in
        let w : slice_get order p ≡ Some (j - k) = rw v at s in
        let z : j - k ≡ i = same-item (j - k) i (sym w ∙ g) in
        h (omega arith)
bound-rebound_at number order (symbol s b) k p q i a e g c h = tt
bound-rebound_at number order (app f x) k p q i a e g c h =
    let d = and_parts (is_covered number order k f) (is_covered number order k x) c in
    (bound-rebound_at number order f k p q i a e g d.0 h.0, bound-rebound_at number order x k p q i a e g d.1 h.1)
bound-rebound_at number order (lam b t) k p q i a e g c h =
    let m : k + i + 1 ≡ k + 1 + i = omega arith in
    bound-rebound_at number order t (k + 1) p (q + 1) i a (omega arith) g c (rw m at h)
bound-rebound_at number order (logic o x y) k p q i a e g c h =
    let d = and_parts (is_covered number order k x) (is_covered number order k y) c in
    (bound-rebound_at number order x k p q i a e g d.0 h.0, bound-rebound_at number order y k p q i a e g d.1 h.1)
bound-rebound_at number order absent k p q i a e g c h = tt

pub over-rebound : (vs : List SimpleType) (number : ℕ) (order : List ℕ) (t : Tree) (d k e : ℕ) → e ≡ length order + k → is_covered number order k t ≡ true → IsOver vs d t → IsOver vs e (rebound order k t)
over-rebound vs number order (variable n b) d k e f c h = h
over-rebound vs number order (bound i b) d k e f c h = at (nat_lt i k) refl
  where
    at : (l : Bool) → nat_lt i k ≡ l → IsOver vs e (if l then bound i b else bound (k + place_in order (i - k)) b)
    at true g = let u : i < k = grind (arith, nat_tests) in omega arith
    at false g =
        let w = place-within (i - k) order (or-second (nat_lt i k) (list_any (nat_eq (i - k)) order) g c) in
        omega arith
over-rebound vs number order (symbol s b) d k e f c h = tt
over-rebound vs number order (app g x) d k e f c h =
    let p = and_parts (is_covered number order k g) (is_covered number order k x) c in
    (over-rebound vs number order g d k e f p.0 h.0, over-rebound vs number order x d k e f p.1 h.1)
over-rebound vs number order (lam b t) d k e f c h = over-rebound vs number order t (d + 1) (k + 1) (e + 1) (omega arith) c h
over-rebound vs number order (logic o x y) d k e f c h =
    let p = and_parts (is_covered number order k x) (is_covered number order k y) c in
    (over-rebound vs number order x d k e f p.0 h.0, over-rebound vs number order y d k e f p.1 h.1)
over-rebound vs number order absent d k e f c h = tt

-- ---- functions of the indices

pub abstracted-append : (types : List SimpleType) (a : SimpleType) (t : Tree) → abstracted (types ++ a ∷ []) t ≡ lam a (abstracted types t)
abstracted-append [] a t = refl
abstracted-append (b ∷ types) a t = abstracted-append types a (lam b t)

pub over-abstracted : (vs : List SimpleType) (types : List SimpleType) (t : Tree) (d e : ℕ) → e ≡ d + length types → IsOver vs e t → IsOver vs d (abstracted types t)
over-abstracted vs [] t d e f h = (let g : e ≡ d = omega arith in rw g at h)
over-abstracted vs (a ∷ types) t d e f h =
    let g : e ≡ (d + length types) + 1 = omega arith in
    over-abstracted vs types (lam a t) d (d + length types) refl (rw g at h)

-- ---- the types of a pattern

-- raising is undone
bound-unraised : (t : Tree) (from k : ℕ) (a : SimpleType) → from ≤ k → IsBoundAt (k + 1) a (lifted from 1 t) → IsBoundAt k a t
bound-unraised (variable n b) from k a l h = tt
bound-unraised (bound i b) from k a l h = at (nat_lt i from) refl h
  where
    at : (q : Bool) → nat_lt i from ≡ q → IsBoundAt (k + 1) a (if q then bound i b else bound (i + 1) b) → IsBoundAt k a (bound i b)
    at true e h = λ m. (let u : i < from = grind (arith, nat_tests) in absurd (omega arith))
    at false e h = λ m. h (omega arith)
bound-unraised (symbol s b) from k a l h = tt
bound-unraised (app f x) from k a l h = (bound-unraised f from k a l h.0, bound-unraised x from k a l h.1)
bound-unraised (lam b t) from k a l h = bound-unraised t (from + 1) (k + 1) a (omega arith) h
bound-unraised (logic c x y) from k a l h = (bound-unraised x from k a l h.0, bound-unraised y from k a l h.1)
bound-unraised absent from k a l h = tt

bound-expanded : (b : SimpleType) (t : Tree) (k : ℕ) (a : SimpleType) → IsBoundAt k a (expanded b t) → IsBoundAt k a t
bound-expanded (base n) t k a h = h
bound-expanded (arrow b c) t k a h =
    let f = bound-expanded c (app (lifted 0 1 t) (expanded b (bound 0 b))) (k + 1) a h in
    bound-unraised t 0 k a (omega arith) f.0

-- an index has the type of its eta-long form
pub long-type : (types : ℕ → SimpleType) (x : Tree) (i : ℕ) → AreBoundTo types x → long_index x ≡ Some i → types i ≡ type_of x
long-type types x i h e = by (index_at_head 0 x) e
  where
    here : (j : ℕ) (b : Bool) → same_tree x (eta_long (bound j (type_of x))) ≡ b → (if b then Some j else None) ≡ Some i → types i ≡ type_of x
    here j true f e =
        let s : x ≡ expanded (type_of x) (bound j (type_of x)) = equal-trees x (eta_long (bound j (type_of x))) f in
        let m : j ≡ i = cc in
        let w : IsBoundAt j (types j) (expanded (type_of x) (bound j (type_of x))) = subst (λ (z : Tree). IsBoundAt j (types j) z) s (h j) in
        let v : type_of x ≡ types j = bound-expanded (type_of x) (bound j (type_of x)) j (types j) w refl in
        rw (← m) (sym v)
    here j false f e = absurd (cc)

    by : (o : Option ℕ) → option_and_then (λ (j : ℕ). if same_tree x (eta_long (bound j (type_of x))) then Some j else None) o ≡ Some i → types i ≡ type_of x
    by None e = absurd (cc)
    by (Some j) e = here j (same_tree x (eta_long (bound j (type_of x)))) refl e

-- the types of the indices stand at their places
pub record AreOrdered (types : ℕ → SimpleType) (order : List ℕ) (given : List SimpleType) : Type 0 where
  pub same_length : length given ≡ length order
  pub typed : (p i : ℕ) → slice_get order p ≡ Some i → slice_get given p ≡ Some (types i)

at-end : {X : Type 0} (xs : List X) (x : X) (p : ℕ) (y : X) → slice_get (xs ++ x ∷ []) p ≡ Some y → (slice_get xs p ≡ Some y) ⊎ ((p ≡ length xs) × (x ≡ y))
at-end [] x zero y h = inr (refl, cc)
at-end [] x (suc p) y h = absurd (cc)
at-end (z ∷ xs) x zero y h = inl h
at-end (z ∷ xs) x (suc p) y h = elim (at-end xs x p y h) [ inl g ↦ inl g | inr g ↦ inr (ap suc g.0, g.1) ]

get-front : {X : Type 0} (xs ys : List X) (p : ℕ) (x : X) → slice_get xs p ≡ Some x → slice_get (xs ++ ys) p ≡ Some x
get-front [] ys p x h = absurd (cc)
get-front (z ∷ xs) ys zero x h = h
get-front (z ∷ xs) ys (suc p) x h = get-front xs ys p x h

get-last : {X : Type 0} (xs : List X) (x : X) → slice_get (xs ++ x ∷ []) (length xs) ≡ Some x
get-last [] x = refl
get-last (y ∷ xs) x = get-last xs x

length-end : {X : Type 0} (xs : List X) (x : X) → length (xs ++ x ∷ []) ≡ suc (length xs)
length-end [] x = refl
length-end (y ∷ xs) x = ap suc (length-end xs x)

pub ordered-next : (types : ℕ → SimpleType) (order : List ℕ) (given : List SimpleType) (i : ℕ) (a : SimpleType) → types i ≡ a → AreOrdered types order given → AreOrdered types (order ++ i ∷ []) (given ++ a ∷ [])
ordered-next types order given i a e o = record {
  same_length = length-end given a ∙ ap suc o.same_length ∙ sym (length-end order i);
  typed = λ p j g. elim (at-end order i p j g) [
    | inl h ↦ get-front given (a ∷ []) p (types j) (o.typed p j h)
    | inr h ↦ rw (h.0, ← o.same_length, ← h.1, e) (get-last given a)
  ];
}

-- a pattern in a context: its variable has the type of the function that it becomes
pub record IsPatternIn (vs : List SimpleType) (types : ℕ → SimpleType) (u : Tree) (p : Pattern) : Type 0 where
  pub found : slice_get vs p.number ≡ Some (type_of (abstracted p.types u))
  pub ordered : AreOrdered types p.order p.types

new-long : (order : List ℕ) (x : Tree) (i : ℕ) → new_index order x ≡ Some i → long_index x ≡ Some i
new-long order x i e = by (long_index x) e
  where
    here : (j : ℕ) (b : Bool) → (if b then None else Some j) ≡ Some i → Some j ≡ Some i
    here j true e = absurd (cc)
    here j false e = e

    by : (o : Option ℕ) → option_and_then (λ (j : ℕ). if list_any (nat_eq j) order then None else Some j) o ≡ Some i → o ≡ Some i
    by None e = absurd (cc)
    by (Some j) e = here j (list_any (nat_eq j) order) e

pub pattern-typed : (vs : List SimpleType) (types : ℕ → SimpleType) (d : ℕ) (u : Tree) (t : Tree) (order : List ℕ) (given : List SimpleType) (p : Pattern) → pattern_before order given t ≡ Some p → IsWellTyped t → IsOver vs d t → AreBoundTo types t → AreOrdered types order given → type_of t ≡ type_of (abstracted given u) → IsPatternIn vs types u p
pattern-typed vs types d u (variable n a) order given p e w h b o s =
    let f : p ≡ record { number = n; order = order; types = given } = cc in
    rw f (record { found = h ∙ ap Some s; ordered = o })
pattern-typed vs types d u (app f x) order given p e w h b o s =
    by
    (λ i l r.
    let m : type_of f ≡ type_of (abstracted (given ++ type_of x ∷ []) u) = rw (abstracted-append given (type_of x) u) (w.4 ∙ ap (arrow (type_of x)) s) in
    let v = long-type types x i (λ j. (b j).1) l in
    pattern-typed vs types d u f (order ++ i ∷ []) (given ++ type_of x ∷ []) p r w.0 h.0 (λ j. (b j).0) (ordered-next types order given i (type_of x) v o) m)
    (new_index order x) refl e
  where
    by : ((i : ℕ) → long_index x ≡ Some i → pattern_before (order ++ i ∷ []) (given ++ type_of x ∷ []) f ≡ Some p → IsPatternIn vs types u p) → (q : Option ℕ) → new_index order x ≡ q → option_and_then (λ (i : ℕ). pattern_before (order ++ i ∷ []) (given ++ type_of x ∷ []) f) q ≡ Some p → IsPatternIn vs types u p
    by next None l e = absurd (cc)
    by next (Some i) l e = next i (new-long order x i l) e
pattern-typed vs types d u (bound i a) order given p e w h b o s = absurd (cc)
pattern-typed vs types d u (symbol n a) order given p e w h b o s = absurd (cc)
pattern-typed vs types d u (lam a t) order given p e w h b o s = absurd (cc)
pattern-typed vs types d u (logic c x y) order given p e w h b o s = absurd (cc)
pattern-typed vs types d u absent order given p e w h b o s = absurd (cc)
