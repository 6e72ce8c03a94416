-- Literals of a bank that grows.
use Rattle.std.proofs.Common.{ℕ, zero, suc, nat_eq, ◌≡◌, ◌+◌, ◌<◌, Bool, true, false, List, [], ◌∷◌, ◌++◌, length, map, take, slice_index_or, refl, sym, ◌∙◌, ap, arith}
use Rattle.std.proofs.lemmas.Bool.Decides.{nat_tests}
use Rattle.std.proofs.lemmas.List.{map-append, take_more}
use Rattle.leo_terms.specs.Contents.{Contents, IsBank, Extends, IsTerm, tree_at, type_at, type_number}
use Rattle.leo_terms.specs.Normal.{HasNormalForm}
use Rattle.leo_terms.specs.NormalForm.{normal_form}
use Rattle.leo_terms.specs.Tree.{lam, logic, absent, choice}
use Rattle.leo_terms.proofs.CallerLemmas.{term-shared, tree-kept, type-kept, term-typed, extends-trans}
use Rattle.leo_clause.specs.declared.clause.Lit.{Lit}
use Rattle.leo_clause.specs.Sameness.{same_tree}
use Rattle.leo_clause.specs.Trees.{Literal, literal_at}
use Rattle.leo_clause.specs.Typed.{AreLiteralsOf}
use Rattle.leo_clause.proofs.Same.{same_tree-refl, equal-trees}
use Rattle.leo_kernel.specs.Shapes.{truth_tree, valued}
use Rattle.leo_kernel.proofs.Clauses.{lits-append}
use Rattle.leo_kernel.proofs.Growing.{lits-grow, lits-kept}
use Rattle.leo_kernel.proofs.Lists.{same-answer}
use Rattle.leo_clausify.specs.Forms.{never_holds}
use Rattle.leo_clausify.specs.Giving.{some_tree}
use Rattle.leo_clausify.specs.Literals.{IsLiteral, AreLiterals}
use Rattle.leo_clausify.specs.Splitting.{normal_literal}
use Rattle.leo_clausify.proofs.Following.{AreWell}

-- terms are the same where their numbers are
same-number : (m n : ℕ) → m ≡ n → nat_eq m n ≡ true
same-number m n e = grind (arith, nat_tests)

equal-number : (m n : ℕ) → nat_eq m n ≡ true → m ≡ n
equal-number m n e = grind (arith, nat_tests)

same-trees : (c : Contents) → IsBank c → (s t : ℕ) → s < length c.terms → t < length c.terms → nat_eq s t ≡ same_tree (tree_at c s) (tree_at c t)
same-trees c b s t l k =
    same-answer (nat_eq s t) (same_tree (tree_at c s) (tree_at c t))
    (λ e. let f : s ≡ t = equal-number s t e in rw f (same_tree-refl (tree_at c t)))
    (λ e. same-number s t (term-shared b s t l k (equal-trees (tree_at c s) (tree_at c t) e)))

pub never-negative : (c : Contents) → IsBank c → (s t : ℕ) (p : Bool) → s < length c.terms → t < length c.terms → p ≡ false → (r : Bool) → r ≡ nat_eq s t → r ≡ never_holds (record { positive = p; left = tree_at c s; right = tree_at c t })
never-negative c b s t p l k e r f = rw e (f ∙ same-trees c b s t l k)

-- terms as the bank grows
pub within-grow : {c d : Contents} → Extends c d → (t : ℕ) → t < length c.terms → t < length d.terms
within-grow e t l = let m = e.terms_more in omega arith

-- new literals
pub valued-made : {c d : Contents} → Extends c d → (a t : ℕ) (v : Bool) → a < length c.terms → IsTerm d t 0 (truth_tree v) → IsLiteral d (record { pos = true; left = a; right = t }) (valued (tree_at c a) v)
valued-made e a t v l m = record { left_within = within-grow e a l; right_within = m.within; reads = rw (tree-kept e a l, m.reads) refl }

pub normal-made : {c d e : Contents} → Extends c d → Extends d e → (p : Bool) (l r s t : ℕ) → l < length c.terms → r < length c.terms → HasNormalForm c d l s → HasNormalForm d e r t → IsLiteral e (record { pos = p; left = s; right = t }) (normal_literal (record { positive = p; left = tree_at c l; right = tree_at c r }))
normal-made {c} {d} {e} f g p l r s t w u m n =
    let left : tree_at e s ≡ normal_form (tree_at c l) = tree-kept g s m.within ∙ m.value in
    let right : tree_at e t ≡ normal_form (tree_at c r) = n.value ∙ ap normal_form (tree-kept f r u) in
    record { left_within = within-grow g s m.within; right_within = n.within; reads = rw (left, right) refl }

-- lists of literals
pub literals-none : (c : Contents) → AreLiterals c [] []
literals-none c = record { literals_of = tt; reads = refl }

pub literals-more : {c d : Contents} → Extends c d → (ls : List Lit) (ks : List Literal) (l : Lit) (k : Literal) → AreLiterals c ls ks → IsLiteral d l k → AreLiterals d (ls ++ l ∷ []) (ks ++ k ∷ [])
literals-more {c} {d} e ls ks l k h m = record {
  literals_of = lits-append d ls (l ∷ []) (lits-grow e ls h.literals_of) (m.left_within, m.right_within, tt);
  reads = map-append (literal_at d) ls (l ∷ []) ∙ rw (lits-kept e ls h.literals_of, h.reads, m.reads) refl;
}

pub literals-one : (d : Contents) (l : Lit) (k : Literal) → IsLiteral d l k → AreLiterals d (l ∷ []) (k ∷ [])
literals-one d l k m = record { literals_of = (m.left_within, m.right_within, tt); reads = rw m.reads refl }

pub literals-at : (c : Contents) (ls : List Lit) → AreLiteralsOf c ls → (i : ℕ) (l : Lit) → i < length ls → l ≡ slice_index_or ls i l → (l.left < length c.terms) × (l.right < length c.terms)
literals-at c [] h i l lt e = absurd (omega arith)
literals-at c (k ∷ ls) h zero l lt e = rw e (h.0, h.1)
literals-at c (k ∷ ls) h (suc i) l lt e = literals-at c ls h.2 i l (omega arith) e

-- the normal forms of the literals up to a place, and one more
pub normals-next : {old c d : Contents} → Extends old c → Extends c d → (lits out : List Lit) (i : ℕ) (l r : Lit) → AreLiteralsOf old lits → AreLiterals c out (map normal_literal (map (literal_at old) (take i lits))) → i < length lits → l ≡ slice_index_or lits i l → IsLiteral d r (normal_literal (literal_at c l)) → AreLiterals d (out ++ r ∷ []) (map normal_literal (map (literal_at old) (take (i + 1) lits)))
normals-next {old} {c} {d} f g lits out i l r h a lt e m =
    let w = literals-at old lits h i l lt e in
    let t : take (i + 1) lits ≡ take i lits ++ l ∷ [] = take_more lits i l lt ∙ ap (λ z. take i lits ++ z ∷ []) (sym e) in
    let v : map normal_literal (map (literal_at old) (take (i + 1) lits)) ≡ map normal_literal (map (literal_at old) (take i lits)) ++ normal_literal (literal_at old l) ∷ [] =
    ap (λ ls. map normal_literal (map (literal_at old) ls)) t ∙ ap (map normal_literal) (map-append (literal_at old) (take i lits) (l ∷ [])) ∙ map-append normal_literal (map (literal_at old) (take i lits)) (literal_at old l ∷ []) in
    let k : IsLiteral d r (normal_literal (literal_at old l)) = rw (tree-kept f l.left w.0, tree-kept f l.right w.1) at m in
    rw v (literals-more g out (map normal_literal (map (literal_at old) (take i lits))) r (normal_literal (literal_at old l)) a k)

-- both sides of literals of a bank are well typed
pub literals-well : (c : Contents) → IsBank c → (ls : List Lit) → AreLiteralsOf c ls → AreWell (map (literal_at c) ls)
literals-well c b [] h = tt
literals-well c b (l ∷ ls) h = (term-typed b l.left h.0, term-typed b l.right h.1, literals-well c b ls h.2)

-- a closed term of a type
pub some-made : {a b c d : Contents} → Extends a b → Extends b c → {i t p u : ℕ} → i < length a.types → IsTerm b t 0 (truth_tree true) → IsTerm c p (type_number c p) (lam (type_at b i) (tree_at b t)) → IsTerm d u i (logic (choice (type_at c i)) (tree_at c p) absent) → IsTerm d u i (some_tree (type_at a i))
some-made {a} {b} {c} {d} f g {i} {t} {p} {u} l m n o =
    let x : type_at b i ≡ type_at a i = type-kept f i l in
    let y : type_at c i ≡ type_at a i = type-kept (extends-trans f g) i l in
    let z : tree_at c p ≡ lam (type_at a i) (truth_tree true) = n.reads ∙ rw (x, m.reads) refl in
    record { within = o.within; type_is = o.type_is; reads = o.reads ∙ rw (y, z) refl }
