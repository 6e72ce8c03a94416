-- The terms at the places of a term.
use Rattle.std.proofs.Common.{ℕ, ◌≡◌, ◌∙◌, ◌<◌, List, [], ◌∷◌, ◌++◌, append_assoc, append-nil, length, map, refl, sym, ap}
use Rattle.std.proofs.lemmas.List.{map-append}
use Rattle.std.specs.List.{flat_map}
use Rattle.leo_terms.specs.Contents.{Contents, tree_at}
use Rattle.leo_terms.specs.Tree.{Tree, variable, bound, symbol, app, lam, logic, absent}
use Rattle.leo_terms.specs.Typing.{IsPresent}
use Rattle.leo_para.specs.Places.{Place, argument_places, below_child, places, whole}
use Rattle.leo_ext.specs.Terms.{AreWithin, term_of, terms_of}

terms-child : (n : ℕ) (ps : List Place) → terms_of (map (below_child n) ps) ≡ terms_of ps
terms-child n [] = refl
terms-child n (p ∷ ps) = ap (λ (ts : List Tree). p.term ∷ ts) (terms-child n ps)

-- those of two children
pub children-terms : (old middle new : List Tree) (ps qs : List Place) → middle ≡ old ++ terms_of ps → new ≡ middle ++ terms_of qs → new ≡ old ++ terms_of (map (below_child 0) ps ++ map (below_child 1) qs)
children-terms old middle new ps qs e f =
    f ∙ ap (λ (ts : List Tree). ts ++ terms_of qs) e ∙ append_assoc old (terms_of ps) (terms_of qs) ∙
    ap (λ (ts : List Tree). old ++ ts) (sym (map-append term_of (map (below_child 0) ps) (map (below_child 1) qs) ∙ rw (terms-child 0 ps, terms-child 1 qs) refl))

pub none-terms : (old : List Tree) → old ≡ old ++ []
none-terms old = sym (append-nil old)

whole-term : (t : Tree) → IsPresent t → terms_of (whole t) ≡ t ∷ []
whole-term (variable n a) h = refl
whole-term (bound i a) h = refl
whole-term (symbol s a) h = refl
whole-term (app f x) h = refl
whole-term (lam a t) h = refl
whole-term (logic c x y) h = refl
whole-term absent h = absurd h

-- a term, and behind it those in its arguments
pub whole-terms : (c : Contents) (t : ℕ) (old middle : List ℕ) (new : List Tree) → IsPresent (tree_at c t) → middle ≡ old ++ t ∷ [] → new ≡ map (tree_at c) middle ++ terms_of (argument_places (tree_at c t)) → new ≡ map (tree_at c) old ++ terms_of (places (tree_at c t))
whole-terms c t old middle new h e f =
    let s = tree_at c t in
    let a = argument_places s in
    f ∙ ap (λ (ts : List Tree). ts ++ terms_of a) (ap (map (tree_at c)) e ∙ map-append (tree_at c) old (t ∷ [])) ∙ append_assoc (map (tree_at c) old) (s ∷ []) (terms_of a) ∙
    ap (λ (ts : List Tree). map (tree_at c) old ++ ts) (ap (λ (ts : List Tree). ts ++ terms_of a) (sym (whole-term s h)) ∙ sym (map-append term_of (whole s) a))

pub terms-end : (c : Contents) (ts : List ℕ) (t : ℕ) → AreWithin c ts → t < length c.terms → AreWithin c (ts ++ t ∷ [])
terms-end c [] t h l = (l, tt)
terms-end c (s ∷ ts) t h l = (h.0, terms-end c ts t h.1 l)

pub all-terms : (old new : List Tree) (ts : List Tree) → old ≡ [] → new ≡ old ++ ts → new ≡ ts
all-terms old new ts e f = f ∙ rw e refl

-- what is given for places by their terms
pub flat_map-terms : {Y : Type 0} (f : Tree → List Y) (ps : List Place) → flat_map f (terms_of ps) ≡ flat_map (λ p. f p.term) ps
flat_map-terms f [] = refl
flat_map-terms f (p ∷ ps) = ap (λ (ys : List _). f p.term ++ ys) (flat_map-terms f ps)
