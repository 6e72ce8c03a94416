-- Literals that are in normal form, as they are tested.
use Rattle.std.proofs.Common.{ℕ, zero, suc, nat_eq, ◌≡◌, ◌∙◌, ◌+◌, ◌<◌, ◌≤◌, Bool, true, List, [], ◌∷◌, ◌++◌, length, map, take, slice_index_or, sym, ap, arith}
use Rattle.std.specs.Bool.{OnTrue}
use Rattle.std.proofs.lemmas.Bool.Decides.{nat_tests}
use Rattle.std.proofs.lemmas.List.{take_more, take_all}
use Rattle.leo_terms.specs.Contents.{Contents, Extends, tree_at}
use Rattle.leo_terms.specs.NormalForm.{normal_form}
use Rattle.leo_terms.proofs.CallerLemmas.{tree-kept}
use Rattle.leo_clause.specs.declared.clause.Lit.{Lit}
use Rattle.leo_clause.specs.Trees.{literal_at}
use Rattle.leo_clause.specs.Typed.{AreLiteralsOf}
use Rattle.leo_clausify.specs.Splitting.{AreNormal}
use Rattle.clausify_rows.specs.Boards.{IsNormalLiteral}
use Rattle.clausify_rows.proofs.Overs.{on-true, from-on}

-- a term that its normal form is
pub on-normal : {c d : Contents} → Extends c d → (t form : ℕ) (r : Bool) → t < length c.terms → tree_at d form ≡ normal_form (tree_at c t) → r ≡ nat_eq form t → OnTrue r (normal_form (tree_at c t) ≡ tree_at c t)
on-normal {c} {d} e t form r l value is = on-true r (λ h. (let same : form ≡ t = alike form t (sym is ∙ h) in sym value ∙ ap (tree_at d) same ∙ tree-kept e t l))
  where
    alike : (i j : ℕ) → nat_eq i j ≡ true → i ≡ j
    alike i j e = grind (arith, nat_tests)

-- both sides of a literal, the second in a bank that grew
pub on-sides : {c d : Contents} → Extends c d → (l : Lit) (r s : Bool) → l.right < length c.terms → OnTrue r (normal_form (tree_at c l.left) ≡ tree_at c l.left) → r ≡ true → OnTrue s (normal_form (tree_at d l.right) ≡ tree_at d l.right) → OnTrue s (IsNormalLiteral (literal_at c l))
on-sides {c} {d} e l r s w left t right = on-true s (λ u. (from-on r t left, (let k = tree-kept e l.right w in rw k at (from-on s u right))))

-- literals in a bank that grew
pub normal-later : {c d : Contents} → Extends c d → (ls : List Lit) → AreLiteralsOf c ls → AreNormal (map (literal_at c) ls) → AreNormal (map (literal_at d) ls)
normal-later e [] h n = tt
normal-later e (l ∷ ls) h n = (rw (tree-kept e l.left h.0) n.0, rw (tree-kept e l.right h.1) n.1, normal-later e ls h.2 n.2)

pub literals-take : (c : Contents) (i : ℕ) (ls : List Lit) → AreLiteralsOf c ls → AreLiteralsOf c (take i ls)
literals-take c zero ls h = tt
literals-take c (suc i) [] h = tt
literals-take c (suc i) (l ∷ ls) h = (h.0, h.1, literals-take c i ls h.2)

-- one after another
pub normal-next : {c d : Contents} → Extends c d → (ls : List Lit) (i : ℕ) (l : Lit) → AreLiteralsOf c ls → AreNormal (map (literal_at c) (take i ls)) → i < length ls → l ≡ slice_index_or ls i l → IsNormalLiteral (literal_at c l) → AreNormal (map (literal_at d) (take (i + 1) ls))
normal-next {c} {d} e ls i l w h lt is k =
    let t : take (i + 1) ls ≡ take i ls ++ l ∷ [] = take_more ls i l lt ∙ ap (λ z. take i ls ++ z ∷ []) (sym is) in
    let n : AreNormal (map (literal_at c) (take (i + 1) ls)) = rw t (end (take i ls) h) in
    normal-later e (take (i + 1) ls) (literals-take c (i + 1) ls w) n
  where
    end : (xs : List Lit) → AreNormal (map (literal_at c) xs) → AreNormal (map (literal_at c) (xs ++ l ∷ []))
    end [] h = (k.0, k.1, tt)
    end (x ∷ xs) h = (h.0, h.1, end xs h.2)

pub normal-whole : (c : Contents) (ls : List Lit) (i : ℕ) → AreNormal (map (literal_at c) (take i ls)) → length ls ≤ i → AreNormal (map (literal_at c) ls)
normal-whole c ls i h l = rw (take_all i ls l) at h
