-- Terms over variables, as they are tested.
use Rattle.std.proofs.Common.{ℕ, zero, suc, nat_lt, nat_eq, ◌≡◌, ◌∙◌, ◌+◌, ◌<◌, ◌≤◌, Bool, true, false, not, List, [], ◌∷◌, ◌++◌, length, map, take, slice_get, slice_index_or, Some, refl, sym, ap, arith}
use Rattle.std.specs.Bool.{OnTrue}
use Rattle.std.proofs.lemmas.Bool.Decides.{nat_tests, Decides-ltb}
use Rattle.std.proofs.lemmas.List.{take_more, take_all}
use Rattle.leo_q0.specs.Terms.{SimpleType}
use Rattle.leo_terms.specs.Contents.{Contents, IsBank, tree_at, type_at, type_number}
use Rattle.leo_terms.proofs.CallerLemmas.{type_of-term}
use Rattle.leo_clause.specs.declared.clause.Lit.{Lit}
use Rattle.leo_clause.specs.Trees.{literal_at}
use Rattle.leo_clause.specs.Typed.{AreLiteralsOf, AreTyped, IsOver, IsTypedLiteral}

pub on-true : {P : Type 0} (r : Bool) → (r ≡ true → P) → OnTrue r P
on-true true f = f refl
on-true false f = tt

pub from-on : {P : Type 0} (r : Bool) → r ≡ true → OnTrue r P → P
from-on true e h = h
from-on false e h = absurd (let f : ⊥ = cc in f)

not-false : (r : Bool) → not r ≡ false → r ≡ true
not-false true e = refl
not-false false e = cc

pub on-below : (i depth : ℕ) → OnTrue (nat_lt i depth) (i < depth)
on-below i depth = on-true (nat_lt i depth) ((Decides-ltb i depth).0)

pub on-both : (r s : Bool) (P Q : Type 0) → OnTrue r P → r ≡ true → OnTrue s Q → OnTrue s (P × Q)
on-both r s P Q h e k = on-true s (λ f. (from-on r e h, from-on s f k))

-- a variable of a list of types
pub on-type : (c : Contents) (vars : List ℕ) (n x a : ℕ) (r : Bool) → n < length vars → x ≡ slice_index_or vars n x → r ≡ nat_eq x a → OnTrue r (slice_get (map (type_at c) vars) n ≡ Some (type_at c a))
on-type c vars n x a r l e f = on-true r (λ t. at vars n l e (same x a (sym f ∙ t)))
  where
    same : (i j : ℕ) → nat_eq i j ≡ true → i ≡ j
    same i j e = grind (arith, nat_tests)

    at : (vs : List ℕ) (m : ℕ) → m < length vs → x ≡ slice_index_or vs m x → x ≡ a → slice_get (map (type_at c) vs) m ≡ Some (type_at c a)
    at [] m l e g = absurd (omega arith)
    at (v ∷ vs) zero l e g = ap (λ i. Some (type_at c i)) (sym e ∙ g)
    at (v ∷ vs) (suc m) l e g = at vs m (omega arith) e g

-- a literal
pub on-literal : (c : Contents) (b : IsBank c) (vars : List ℕ) (l : Lit) (m n : ℕ) (x r s : Bool) → l.left < length c.terms → l.right < length c.terms → m ≡ type_number c l.left → n ≡ type_number c l.right → x ≡ not (nat_eq m n) → x ≡ false →
    OnTrue r (IsOver (map (type_at c) vars) 0 (tree_at c l.left)) → r ≡ true → OnTrue s (IsOver (map (type_at c) vars) 0 (tree_at c l.right)) → OnTrue s (IsTypedLiteral (map (type_at c) vars) (literal_at c l))
on-literal c b vars l m n x r s p q e f g h left t right =
    on-true s (λ u. record {
      left_over = from-on r t left;
      right_over = from-on s u right;
      same_type = type_of-term b l.left p ∙ ap (type_at c) (sym e ∙ alike m n (sym g ∙ h) ∙ f) ∙ sym (type_of-term b l.right q);
    })
  where
    alike : (i j : ℕ) → not (nat_eq i j) ≡ false → i ≡ j
    alike i j e = grind (arith, nat_tests)

-- literals, one after another
pub typed-next : (c : Contents) (variables : List SimpleType) (ls : List Lit) (i : ℕ) (l : Lit) → AreTyped variables (map (literal_at c) (take i ls)) → i < length ls → l ≡ slice_index_or ls i l → IsTypedLiteral variables (literal_at c l) → AreTyped variables (map (literal_at c) (take (i + 1) ls))
typed-next c variables ls i l h lt e k =
    let t : take (i + 1) ls ≡ take i ls ++ l ∷ [] = take_more ls i l lt ∙ ap (λ z. take i ls ++ z ∷ []) (sym e) in
    rw t (end (take i ls) h)
  where
    end : (xs : List Lit) → AreTyped variables (map (literal_at c) xs) → AreTyped variables (map (literal_at c) (xs ++ l ∷ []))
    end [] h = (k, tt)
    end (x ∷ xs) h = (h.0, end xs h.1)

pub typed-whole : (c : Contents) (variables : List SimpleType) (ls : List Lit) (i : ℕ) → AreTyped variables (map (literal_at c) (take i ls)) → length ls ≤ i → AreTyped variables (map (literal_at c) ls)
typed-whole c variables ls i h l = rw (take_all i ls l) at h

pub literal-within : (c : Contents) (ls : List Lit) → AreLiteralsOf c ls → (i : ℕ) (l : Lit) → i < length ls → l ≡ slice_index_or ls i l → (l.left < length c.terms) × (l.right < length c.terms)
literal-within c [] h i l lt e = absurd (omega arith)
literal-within c (k ∷ ls) h zero l lt e = rw e (h.0, h.1)
literal-within c (k ∷ ls) h (suc i) l lt e = literal-within c ls h.2 i l (omega arith) e
