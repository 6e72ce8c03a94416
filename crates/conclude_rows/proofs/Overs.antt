-- Terms over variables, as they are tested.
use Rattle.std.proofs.Common.{ℕ, zero, suc, nat_lt, nat_eq, ◌≡◌, ◌∙◌, ◌+◌, ◌<◌, ◌≤◌, Bool, true, false, not, ◌||◌, List, [], ◌∷◌, ◌++◌, length, map, take, slice_get, slice_index_or, Some, refl, sym, ap, subst, arith}
use Rattle.std.specs.Bool.{OnTrue}
use Rattle.std.proofs.lemmas.Bool.Decides.{nat_tests, Decides-ltb}
use Rattle.std.proofs.lemmas.List.{take_more, take_all}
use Rattle.leo_q0.specs.Terms.{SimpleType}
use Rattle.leo_terms.specs.Contents.{Contents, IsBank, tree_at, type_at, type_number}
use Rattle.leo_terms.proofs.CallerLemmas.{type_of-term}
use Rattle.leo_clause.specs.declared.clause.Lit.{Lit}
use Rattle.leo_clause.specs.Trees.{Literal, literal_at}
use Rattle.leo_conclude.specs.Leaving.{AreConstraints, AreNumbersOf}
use Rattle.conclude_rows.specs.Boards.{AreNegative, IsNegative}
use Rattle.std.specs.List.{list_any}
use Rattle.leo_clause.specs.Typed.{AreLiteralsOf, AreTyped, IsOver, IsTypedLiteral}

pub on-true : {P : Type 0} (r : Bool) → (r ≡ true → P) → OnTrue r P
on-true true f = f refl
on-true false f = tt

pub from-on : {P : Type 0} (r : Bool) → r ≡ true → OnTrue r P → P
from-on true e h = h
from-on false e h = absurd (let f : ⊥ = cc in f)

not-false : (r : Bool) → not r ≡ false → r ≡ true
not-false true e = refl
not-false false e = cc

pub on-below : (i depth : ℕ) → OnTrue (nat_lt i depth) (i < depth)
on-below i depth = on-true (nat_lt i depth) ((Decides-ltb i depth).0)

pub on-both : (r s : Bool) (P Q : Type 0) → OnTrue r P → r ≡ true → OnTrue s Q → OnTrue s (P × Q)
on-both r s P Q h e k = on-true s (λ f. (from-on r e h, from-on s f k))

-- a variable of a list of types
pub on-type : (c : Contents) (vars : List ℕ) (n x a : ℕ) (r : Bool) → n < length vars → x ≡ slice_index_or vars n x → r ≡ nat_eq x a → OnTrue r (slice_get (map (type_at c) vars) n ≡ Some (type_at c a))
on-type c vars n x a r l e f = on-true r (λ t. at vars n l e (same x a (sym f ∙ t)))
  where
    same : (i j : ℕ) → nat_eq i j ≡ true → i ≡ j
    same i j e = grind (arith, nat_tests)

    at : (vs : List ℕ) (m : ℕ) → m < length vs → x ≡ slice_index_or vs m x → x ≡ a → slice_get (map (type_at c) vs) m ≡ Some (type_at c a)
    at [] m l e g = absurd (omega arith)
    at (v ∷ vs) zero l e g = ap (λ i. Some (type_at c i)) (sym e ∙ g)
    at (v ∷ vs) (suc m) l e g = at vs m (omega arith) e g

-- a literal
pub on-literal : (c : Contents) (b : IsBank c) (vars : List ℕ) (l : Lit) (m n : ℕ) (x r s : Bool) → l.left < length c.terms → l.right < length c.terms → m ≡ type_number c l.left → n ≡ type_number c l.right → x ≡ not (nat_eq m n) → x ≡ false →
    OnTrue r (IsOver (map (type_at c) vars) 0 (tree_at c l.left)) → r ≡ true → OnTrue s (IsOver (map (type_at c) vars) 0 (tree_at c l.right)) → OnTrue s (IsTypedLiteral (map (type_at c) vars) (literal_at c l))
on-literal c b vars l m n x r s p q e f g h left t right =
    on-true s (λ u. record {
      left_over = from-on r t left;
      right_over = from-on s u right;
      same_type = type_of-term b l.left p ∙ ap (type_at c) (sym e ∙ alike m n (sym g ∙ h) ∙ f) ∙ sym (type_of-term b l.right q);
    })
  where
    alike : (i j : ℕ) → not (nat_eq i j) ≡ false → i ≡ j
    alike i j e = grind (arith, nat_tests)

-- literals, one after another
pub typed-next : (c : Contents) (variables : List SimpleType) (ls : List Lit) (i : ℕ) (l : Lit) → AreTyped variables (map (literal_at c) (take i ls)) → i < length ls → l ≡ slice_index_or ls i l → IsTypedLiteral variables (literal_at c l) → AreTyped variables (map (literal_at c) (take (i + 1) ls))
typed-next c variables ls i l h lt e k =
    let t : take (i + 1) ls ≡ take i ls ++ l ∷ [] = take_more ls i l lt ∙ ap (λ z. take i ls ++ z ∷ []) (sym e) in
    rw t (end (take i ls) h)
  where
    end : (xs : List Lit) → AreTyped variables (map (literal_at c) xs) → AreTyped variables (map (literal_at c) (xs ++ l ∷ []))
    end [] h = (k, tt)
    end (x ∷ xs) h = (h.0, end xs h.1)

pub typed-whole : (c : Contents) (variables : List SimpleType) (ls : List Lit) (i : ℕ) → AreTyped variables (map (literal_at c) (take i ls)) → length ls ≤ i → AreTyped variables (map (literal_at c) ls)
typed-whole c variables ls i h l = rw (take_all i ls l) at h

pub literal-within : (c : Contents) (ls : List Lit) → AreLiteralsOf c ls → (i : ℕ) (l : Lit) → i < length ls → l ≡ slice_index_or ls i l → (l.left < length c.terms) × (l.right < length c.terms)
literal-within c [] h i l lt e = absurd (omega arith)
literal-within c (k ∷ ls) h zero l lt e = rw e (h.0, h.1)
literal-within c (k ∷ ls) h (suc i) l lt e = literal-within c ls h.2 i l (omega arith) e

-- negative literals
pub on-negative : (lits : List Lit) (n : ℕ) (l : Lit) (r : Bool) → n < length lits → l ≡ slice_index_or lits n l → r ≡ not l.pos → OnTrue r (IsNegative lits n)
on-negative lits n l r lt e f = on-true r (λ t. record { within = lt; negative = λ k g. at lits n lt e k g (false-of l.pos (sym f ∙ t)) })
  where
    false-of : (b : Bool) → not b ≡ true → b ≡ false
    false-of true h = absurd (let g : ⊥ = cc in g)
    false-of false h = refl

    at : (ls : List Lit) (m : ℕ) → m < length ls → l ≡ slice_index_or ls m l → (k : Lit) → slice_get ls m ≡ Some k → l.pos ≡ false → k.pos ≡ false
    at [] m lt e k g h = absurd (omega arith)
    at (x ∷ ls) zero lt e k g h = (let f : x ≡ k = cc in rw (← f) (rw e at h))
    at (x ∷ ls) (suc m) lt e k g h = at ls m (omega arith) e k g h

negative-end : (lits : List Lit) (xs : List ℕ) (n : ℕ) → AreNegative lits xs → IsNegative lits n → AreNegative lits (xs ++ n ∷ [])
negative-end lits [] n h k = (k, tt)
negative-end lits (x ∷ xs) n h k = (h.0, negative-end lits xs n h.1 k)

index-any : (ns : List ℕ) (i d : ℕ) → i < length ns → slice_index_or ns i 0 ≡ slice_index_or ns i d
index-any [] i d lt = absurd (omega arith)
index-any (m ∷ ns) zero d lt = refl
index-any (m ∷ ns) (suc i) d lt = index-any ns i d (omega arith)

pub negative-next : (lits : List Lit) (ns : List ℕ) (i : ℕ) → AreNegative lits (take i ns) → i < length ns → IsNegative lits (slice_index_or ns i 0) → AreNegative lits (take (i + 1) ns)
negative-next lits ns i h lt k =
    let n = slice_index_or ns i 0 in
    let e : n ≡ slice_index_or ns i n = index-any ns i n lt in
    let t : take (i + 1) ns ≡ take i ns ++ n ∷ [] = take_more ns i n lt ∙ ap (λ z. take i ns ++ z ∷ []) (sym e) in
    rw t (negative-end lits (take i ns) n h k)

pub negative-whole : (lits : List Lit) (ns : List ℕ) (i : ℕ) → AreNegative lits (take i ns) → length ns ≤ i → AreNegative lits ns
negative-whole lits ns i h l = rw (take_all i ns l) at h

-- numbers of negative literals are numbers of constraints
pub numbers-of : (lits : List Lit) (ns : List ℕ) → AreNegative lits ns → AreNumbersOf lits ns
numbers-of lits [] h = tt
numbers-of lits (n ∷ ns) h = (h.0.within, numbers-of lits ns h.1)

read-back : (c : Contents) (ls : List Lit) (n : ℕ) (l : Literal) → slice_get (map (literal_at c) ls) n ≡ Some l → (k : Lit) × ((slice_get ls n ≡ Some k) × (literal_at c k ≡ l))
read-back c [] n l e = absurd (let f : ⊥ = cc in f)
read-back c (k ∷ ls) zero l e = (k, (refl, (let f : literal_at c k ≡ l = cc in f)))
read-back c (k ∷ ls) (suc n) l e = read-back c ls n l e

same-number : (m n : ℕ) → nat_eq m n ≡ true → m ≡ n
same-number m n h = grind (arith, nat_tests)

pub constraints-of : (c : Contents) (lits : List Lit) (ns : List ℕ) → AreNegative lits ns → AreConstraints (map (literal_at c) lits) ns
constraints-of c lits [] h n l e t = absurd (let f : ⊥ = cc in f)
constraints-of c lits (m ∷ ns) h n l e t = by (nat_eq n m) refl (λ g. constraints-of c lits ns h.1 n l e g) t
  where
    here : n ≡ m → l.positive ≡ false
    here f =
        let r = read-back c lits n l e in
        let g : slice_get lits m ≡ Some r.0 = subst (λ (x : ℕ). slice_get lits x ≡ Some r.0) f r.1.0 in
        ap (λ (x : Literal). x.positive) (sym r.1.1) ∙ h.0.negative r.0 g

    by : (b : Bool) → nat_eq n m ≡ b → (list_any (nat_eq n) ns ≡ true → l.positive ≡ false) → (b || list_any (nat_eq n) ns) ≡ true → l.positive ≡ false
    by true f rest g = here (same-number n m f)
    by false f rest g = rest g
