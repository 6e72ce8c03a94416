-- The terms that rename the variables, and the literals that they are put into.
use Rattle.std.proofs.Common.{ℕ, zero, suc, nat_eq, ◌≡◌, ◌∙◌, ◌+◌, ◌<◌, ◌≤◌, Bool, true, false, List, [], ◌∷◌, ◌++◌, length, map, take, slice_get, slice_index_or, Some, refl, sym, ap, arith, ◌⊎◌, inl, inr}
use Rattle.std.proofs.lemmas.List.{map-append}
use Rattle.std.proofs.lemmas.Option.{slice_get_within}
use Rattle.std.proofs.lemmas.Bool.Decides.{nat_tests}
use Rattle.std.specs.Bool.{if◌then◌else◌}
use Rattle.std.specs.List.{list_any}
use Rattle.leo_q0.specs.Terms.{SimpleType}
use Rattle.leo_terms.specs.Tree.{Tree, variable, substituted, put_in, IsGiven}
use Rattle.leo_terms.specs.Contents.{Contents, IsBank, Extends, IsTerm, AreTerms, tree_at, type_at}
use Rattle.leo_terms.proofs.ListLemmas.{slice_get-append}
use Rattle.leo_terms.proofs.CallerLemmas.{extends-trans, tree-kept, type-kept, trees-kept, term-shared, put_in-is}
use Rattle.leo_clause.specs.declared.clause.Lit.{Lit}
use Rattle.leo_clause.specs.declared.clause.Clause.{Clause}
use Rattle.leo_clause.specs.Trees.{Literal, literal_at, clause_at}
use Rattle.leo_clause.specs.Typed.{AreTyped, AreTypesOf, AreLiteralsOf, IsTypedIn}
use Rattle.leo_clause.specs.Sameness.{same_tree, same_literal, same_numbers}
use Rattle.leo_clause.specs.Arranging.{arranged, distinct, firsts, occurring_in, place_in, renumbered_literal, variable_type, type_in}
use Rattle.leo_clause.specs.Renaming.{substituted_literal, AreBelow, AreGiven, AreNumbered, AreRenamed, IsRenaming}
use Rattle.leo_clause.proofs.Meeting.{end-only, take-map_next, literals-at}
use Rattle.leo_clause.proofs.Same.{same_tree-refl, equal-trees}
use Rattle.leo_clause.proofs.Renumbered.{substituted-renumbered, given-numbered, typed-firsts, typed-numbered, below-order}

-- lists with one item more
at-end : {X : Type 0} (xs : List X) (x : X) → slice_get (xs ++ x ∷ []) (length xs) ≡ Some x
at-end [] x = refl
at-end (y ∷ xs) x = at-end xs x

length-end : {X : Type 0} (xs : List X) (x : X) → length (xs ++ x ∷ []) ≡ length xs + 1
length-end [] x = refl
length-end (y ∷ xs) x = let e = length-end xs x in omega arith

get-map : {X Y : Type 0} (f : X → Y) (xs : List X) (i : ℕ) (x : X) → slice_get xs i ≡ Some x → slice_get (map f xs) i ≡ Some (f x)
get-map f [] i x h = absurd (cc)
get-map f (y ∷ xs) zero x h = let e : y ≡ x = cc in rw e refl
get-map f (y ∷ xs) (suc i) x h = get-map f xs i x h

length-map : {X Y : Type 0} (f : X → Y) (xs : List X) → length (map f xs) ≡ length xs
length-map f [] = refl
length-map f (x ∷ xs) = ap suc (length-map f xs)

get-index : {X : Type 0} (xs : List X) (i : ℕ) (x : X) → i < length xs → x ≡ slice_index_or xs i x → slice_get xs i ≡ Some x
get-index [] i x l e = absurd (omega arith)
get-index (y ∷ xs) zero x l e = ap Some (sym e)
get-index (y ∷ xs) (suc i) x l e = get-index xs i x (omega arith) e

AreTerms-end : (c : Contents) (ts : List ℕ) (t : ℕ) → AreTerms c ts → t < length c.terms → AreTerms c (ts ++ t ∷ [])
AreTerms-end c ts t h l i u e =
    elim (end-only ts t i u e) [
      | inl g ↦ h i u g
      | inr g ↦ rw (← g) l
    ]

AreTerms-grow : {c d : Contents} → Extends c d → (ts : List ℕ) → AreTerms c ts → AreTerms d ts
AreTerms-grow {c} {d} e ts h i u g = let l = h i u g in let m = e.terms_more in omega arith

pub types-at : (c : Contents) (vars : List ℕ) → AreTypesOf c vars → (i a : ℕ) → i < length vars → a ≡ slice_index_or vars i a → a < length c.types
types-at c [] h i a l e = absurd (omega arith)
types-at c (b ∷ vars) h zero a l e = rw e h.0
types-at c (b ∷ vars) h (suc i) a l e = types-at c vars h.1 i a (omega arith) e

pub renaming-none : (c : Contents) (order vars sigma : List ℕ) → sigma ≡ [] → IsRenaming c c order vars sigma 0
renaming-none c order vars sigma e = record {
  count = rw e refl;
  terms = λ i u g. absurd (let q = rw e at g in cc);
  numbered = λ m a l g. absurd (omega arith);
}

-- one variable more
pub renaming-next : (old c d : Contents) (order vars sigma : List ℕ) (n t a p : ℕ) → Extends old c → Extends c d → AreTypesOf old vars → IsRenaming old c order vars sigma n → n < length vars → a ≡ slice_index_or vars n a → IsTerm d t a (variable p (type_at c a)) → p ≡ place_in order n → IsRenaming old d order vars (sigma ++ t ∷ []) (n + 1)
renaming-next old c d order vars sigma n t a p e f types r l g m q =
    let below : a < length old.types = types-at old vars types n a l g in
    let kept : map (tree_at d) sigma ≡ map (tree_at c) sigma = trees-kept f sigma r.terms in
    let split : map (tree_at d) (sigma ++ t ∷ []) ≡ map (tree_at c) sigma ++ tree_at d t ∷ [] = map-append (tree_at d) sigma (t ∷ []) ∙ ap (λ (xs : List Tree). xs ++ tree_at d t ∷ []) kept in
    let last : slice_get (map (tree_at c) sigma ++ tree_at d t ∷ []) (length (map (tree_at c) sigma)) ≡ Some (tree_at d t) = at-end (map (tree_at c) sigma) (tree_at d t) in
    let size : length (map (tree_at c) sigma) ≡ n = length-map (tree_at c) sigma ∙ r.count in
    let row : slice_get (map (type_at old) vars) n ≡ Some (type_at old a) = get-map (type_at old) vars n a (get-index vars n a l g) in
    let type : type_at c a ≡ type_at old a = type-kept e a below in
    record {
      count = length-end sigma t ∙ ap (λ (k : ℕ). k + 1) r.count;
      terms = AreTerms-end d sigma t (AreTerms-grow f sigma r.terms) m.within;
      numbered = λ k b h j. elim (case_of k n) [
        | inl w ↦ rw split (slice_get-append (map (tree_at c) sigma) (tree_at d t ∷ []) k (variable (place_in order k) b) (r.numbered k b w j))
        | inr w ↦ (
            let v : k ≡ n = (let z = h in omega arith) in
            let s : type_at old a ≡ b = (let u : slice_get (map (type_at old) vars) n ≡ Some b = rw v at j in cc) in
            let y : tree_at d t ≡ variable (place_in order n) b = rw (m.reads, q, type, s) refl in
            rw (split, v, ← size) (last ∙ ap Some (rw size y)))
      ];
    }
  where
    case_of : (k n : ℕ) → (k < n) ⊎ (n ≤ k)
    case_of k n = grind arith

pub renaming-numbered : (old new : Contents) (order vars sigma : List ℕ) → IsRenaming old new order vars sigma (length vars) → AreNumbered order (map (type_at old) vars) (map (tree_at new) sigma)
renaming-numbered old new order vars sigma r n a e =
    let l : n < length (map (type_at old) vars) = slice_get_within (map (type_at old) vars) n a e in
    let m = length-map (type_at old) vars in
    r.numbered n a (omega arith) e

-- literals as the bank grows
pub literals-grow : {c d : Contents} → Extends c d → (ls : List Lit) → AreLiteralsOf c ls → AreLiteralsOf d ls
literals-grow e [] h = tt
literals-grow e (l ∷ ls) h = let m = e.terms_more in let p = h.0 in let q = h.1 in (omega arith, omega arith, literals-grow e ls h.2)

pub literals-kept : {c d : Contents} → Extends c d → (ls : List Lit) → AreLiteralsOf c ls → map (literal_at d) ls ≡ map (literal_at c) ls
literals-kept e [] h = refl
literals-kept e (l ∷ ls) h = rw (tree-kept e l.left h.0, tree-kept e l.right h.1, literals-kept e ls h.2) refl

literals-end : (c : Contents) (ls : List Lit) (l : Lit) → AreLiteralsOf c ls → l.left < length c.terms → l.right < length c.terms → AreLiteralsOf c (ls ++ l ∷ [])
literals-end c [] l h p q = (p, q, tt)
literals-end c (k ∷ ls) l h p q = (h.0, h.1, literals-end c ls l h.2 p q)

-- a literal with terms put in
pub renamed-value : {c d e : Contents} → Extends c d → Extends d e → (sigma : List ℕ) → AreTerms c sigma → (l r : Lit) → l.left < length c.terms → l.right < length c.terms → l.pos ≡ r.pos → (i j : ℕ) → IsTerm d r.left i (put_in (map (tree_at c) sigma) (tree_at c l.left)) → IsTerm e r.right j (put_in (map (tree_at d) sigma) (tree_at d l.right)) → literal_at e r ≡ substituted_literal (map (tree_at c) sigma) (literal_at c l)
renamed-value {c} {d} {e} f g sigma terms l r p q s i j m n =
    let u : tree_at e r.left ≡ substituted (map (tree_at c) sigma) 0 (tree_at c l.left) = tree-kept g r.left m.within ∙ m.reads ∙ put_in-is (map (tree_at c) sigma) (tree_at c l.left) in
    let t : put_in (map (tree_at d) sigma) (tree_at d l.right) ≡ put_in (map (tree_at c) sigma) (tree_at c l.right) = rw (trees-kept f sigma terms, tree-kept f l.right q) refl in
    let v : tree_at e r.right ≡ substituted (map (tree_at c) sigma) 0 (tree_at c l.right) = n.reads ∙ t ∙ put_in-is (map (tree_at c) sigma) (tree_at c l.right) in
    rw (u, v, s) refl

pub given-kept : {c d : Contents} → Extends c d → (sigma : List ℕ) → AreTerms c sigma → (t : ℕ) → t < length c.terms → IsGiven (map (tree_at c) sigma) (tree_at c t) → IsGiven (map (tree_at d) sigma) (tree_at d t)
given-kept e sigma terms t l h = rw (trees-kept e sigma terms, tree-kept e t l) h

take-whole : {X : Type 0} (xs : List X) → take (length xs) xs ≡ xs
take-whole [] = refl
take-whole (x ∷ xs) = ap (λ ys. x ∷ ys) (take-whole xs)

-- what one literal of a list is given
pub given-of : (c : Contents) (given : List Tree) (ls : List Lit) → AreGiven given (map (literal_at c) ls) → (i : ℕ) (l : Lit) → i < length ls → l ≡ slice_index_or ls i l → IsGiven given (tree_at c l.left) × IsGiven given (tree_at c l.right)
given-of c given [] h i l p e = absurd (omega arith)
given-of c given (k ∷ ls) h zero l p e = rw e (h.0, h.1)
given-of c given (k ∷ ls) h (suc i) l p e = given-of c given ls h.2 i l (omega arith) e

pub renamed-none : (c : Contents) (sigma : List ℕ) (lits out : List Lit) → out ≡ [] → AreRenamed c c sigma lits out 0
renamed-none c sigma lits out e = record { literals_of = rw e tt; value = rw e refl }

pub renamed-next : {old c d : Contents} → Extends old c → Extends c d → (sigma : List ℕ) (lits out : List Lit) (i : ℕ) (l r : Lit) → AreTerms old sigma → AreLiteralsOf old lits → AreRenamed old c sigma lits out i → i < length lits → l ≡ slice_index_or lits i l → literal_at d r ≡ substituted_literal (map (tree_at c) sigma) (literal_at c l) → r.left < length d.terms → r.right < length d.terms → AreRenamed old d sigma lits (out ++ r ∷ []) (i + 1)
renamed-next {old} {c} {d} f g sigma lits out i l r terms literals a p e v wl wr =
    let h = literals-at old lits literals i l p e in
    let w : literal_at d r ≡ substituted_literal (map (tree_at old) sigma) (literal_at old l) = v ∙ rw (trees-kept f sigma terms, tree-kept f l.left h.0, tree-kept f l.right h.1) refl in
    let t = take-map_next (substituted_literal (map (tree_at old) sigma)) (map (literal_at old) lits) i (literal_at old l) (get-map (literal_at old) lits i l (get-index lits i l p e)) in
    record {
      literals_of = literals-end d out r (literals-grow g out a.literals_of) wl wr;
      value = map-append (literal_at d) out (r ∷ []) ∙ rw (literals-kept g out a.literals_of, a.value, w) (sym t);
    }

-- the test on numbers is that on trees
same-shared : (c : Contents) → IsBank c → (t u : ℕ) → t < length c.terms → u < length c.terms → nat_eq t u ≡ same_tree (tree_at c t) (tree_at c u)
same-shared c b t u p q = by (nat_eq t u) refl (same_tree (tree_at c t) (tree_at c u)) refl
  where
    by : (x : Bool) → nat_eq t u ≡ x → (y : Bool) → same_tree (tree_at c t) (tree_at c u) ≡ y → x ≡ y
    by true e true f = refl
    by false e false f = refl
    by true e false f = let g : t ≡ u = grind (arith, nat_tests) in absurd (let h : same_tree (tree_at c t) (tree_at c t) ≡ true = same_tree-refl (tree_at c t) in let k : same_tree (tree_at c t) (tree_at c t) ≡ false = (rw (← g) at f) in cc)
    by false e true f = absurd (let g : t ≡ u = term-shared b t u p q (equal-trees (tree_at c t) (tree_at c u) f) in let h : nat_eq t t ≡ true = grind (arith, nat_tests) in let k : nat_eq t t ≡ false = (rw (← g) at e) in cc)

same-literals : (c : Contents) → IsBank c → (l k : Lit) → (l.left < length c.terms) × (l.right < length c.terms) → (k.left < length c.terms) × (k.right < length c.terms) → same_numbers l k ≡ same_literal (literal_at c l) (literal_at c k)
same-literals c b l k p q = rw (same-shared c b l.left k.left p.0 q.0, same-shared c b l.right k.right p.1 q.1, same-shared c b l.left k.right p.0 q.1, same-shared c b l.right k.left p.1 q.0) refl

any-same : (c : Contents) → IsBank c → (l : Lit) → (l.left < length c.terms) × (l.right < length c.terms) → (ks : List Lit) → AreLiteralsOf c ks → list_any (same_numbers l) ks ≡ list_any (same_literal (literal_at c l)) (map (literal_at c) ks)
any-same c b l p [] h = refl
any-same c b l p (k ∷ ks) h = rw (same-literals c b l k p (h.0, h.1), any-same c b l p ks h.2) refl

distinct-if : (c : Contents) (x : Bool) (xs ys : List Lit) (us vs : List Literal) → (AreLiteralsOf c xs × (map (literal_at c) xs ≡ us)) → (AreLiteralsOf c ys × (map (literal_at c) ys ≡ vs)) → AreLiteralsOf c (if x then xs else ys) × (map (literal_at c) (if x then xs else ys) ≡ (if x then us else vs))
distinct-if c true xs ys us vs p q = p
distinct-if c false xs ys us vs p q = q

-- the literals that are kept are those of the definition
pub distinct-of : (c : Contents) → IsBank c → (ls seen : List Lit) → AreLiteralsOf c seen → AreLiteralsOf c ls → AreLiteralsOf c (firsts same_numbers seen ls) × (map (literal_at c) (firsts same_numbers seen ls) ≡ firsts same_literal (map (literal_at c) seen) (map (literal_at c) ls))
distinct-of c b [] seen s h = (s, refl)
distinct-of c b (l ∷ ls) seen s h =
    let e = any-same c b l (h.0, h.1) seen s in
    let p = distinct-of c b ls seen s h.2 in
    let q = distinct-of c b ls (seen ++ l ∷ []) (literals-end c seen l s h.0 h.1) h.2 in
    let m : map (literal_at c) (seen ++ l ∷ []) ≡ map (literal_at c) seen ++ literal_at c l ∷ [] = map-append (literal_at c) seen (l ∷ []) in
    rw (← e) (distinct-if c (list_any (same_numbers l) seen) (firsts same_numbers seen ls) (firsts same_numbers (seen ++ l ∷ []) ls) _ _ p (rw m at q))

-- the types of the variables that stay
types-value : {c d : Contents} → Extends c d → (vars : List ℕ) → AreTypesOf c vars → (order types : List ℕ) → map Some types ≡ map (slice_get vars) order → AreTypesOf d types × (map (type_at d) types ≡ map (variable_type (map (type_at c) vars)) order)
types-value e vars h [] [] f = (tt, refl)
types-value e vars h [] (a ∷ types) f = absurd (cc)
types-value e vars h (n ∷ order) [] f = absurd (cc)
types-value {c} {d} e vars h (n ∷ order) (a ∷ types) f =
    let g : slice_get vars n ≡ Some a = cc in
    let k : map Some types ≡ map (slice_get vars) order = cc in
    let w = types-value e vars h order types k in
    let l : a < length c.types = type-of c vars h n a g in
    let m = e.types_more in
    let r : variable_type (map (type_at c) vars) n ≡ type_at c a = ap type_in (get-map (type_at c) vars n a g) in
    ((omega arith, w.0), rw (w.1, r, type-kept e a l) refl)
  where
    type-of : (c : Contents) (vars : List ℕ) → AreTypesOf c vars → (n a : ℕ) → slice_get vars n ≡ Some a → a < length c.types
    type-of c [] h n a g = absurd (cc)
    type-of c (b ∷ vars) h zero a g = let k : b ≡ a = cc in rw (← k) h.0
    type-of c (b ∷ vars) h (suc n) a g = type-of c vars h.1 n a g

-- the terms of a renaming serve for typed literals
pub given-literals : (order : List ℕ) (variables : List SimpleType) (given : List Tree) → AreNumbered order variables given → (ls : List Literal) → AreTyped variables ls → AreGiven given ls
given-literals order variables given g [] t = tt
given-literals order variables given g (l ∷ ls) t = (given-numbered order variables given g l.left 0 t.0.left_over, given-numbered order variables given g l.right 0 t.0.right_over, given-literals order variables given g ls t.1)

renumbered-literals : (order : List ℕ) (variables : List SimpleType) (given : List Tree) → AreNumbered order variables given → (ls : List Literal) → AreTyped variables ls → map (substituted_literal given) ls ≡ map (renumbered_literal order) ls
renumbered-literals order variables given g [] t = refl
renumbered-literals order variables given g (l ∷ ls) t = rw (substituted-renumbered order variables given g l.left 0 0 t.0.left_over, substituted-renumbered order variables given g l.right 0 0 t.0.right_over, renumbered-literals order variables given g ls t.1) refl

pub first-literals : (a : Contents) → IsBank a → (k : Clause) → IsTypedIn a k → (lits : List Lit) → lits ≡ firsts same_numbers [] k.lits → AreLiteralsOf a lits
first-literals a b k typed lits kept = rw kept (distinct-of a b k.lits [] tt typed.of_bank.literals_of).0

-- all together: the bank when the clause came (a), with the variables (c) and with the literals (d)
module _ (a c d : Contents) (b : IsBank a) (e : Extends a c) (f : Extends c d) (k : Clause) (typed : IsTypedIn a k) (lits : List Lit) (order types sigma : List ℕ) (out : List Lit) (kept : lits ≡ firsts same_numbers [] k.lits) (met : order ≡ firsts nat_eq [] (occurring_in (map (literal_at a) lits))) where
  kept-of : AreLiteralsOf a lits × (map (literal_at a) lits ≡ distinct (map (literal_at a) k.lits))
  kept-of = rw kept (distinct-of a b k.lits [] tt typed.of_bank.literals_of)

  kept-typed : AreTyped (map (type_at a) k.vars) (map (literal_at a) lits)
  kept-typed = rw kept-of.1 (typed-firsts same_literal (map (type_at a) k.vars) (map (literal_at a) k.lits) [] tt typed.typed)

  pub kept-literals : AreLiteralsOf a lits
  kept-literals = kept-of.0

  pub order-below : AreBelow (length k.vars) order
  order-below =
      let m : length (map (type_at a) k.vars) ≡ length k.vars = length-map (type_at a) k.vars in
      rw (met, ← m) (below-order (map (type_at a) k.vars) (map (literal_at a) lits) kept-typed)

  module _ (r : IsRenaming a c order k.vars sigma (length k.vars)) where
    numbered-terms : AreNumbered order (map (type_at a) k.vars) (map (tree_at c) sigma)
    numbered-terms = renaming-numbered a c order k.vars sigma r

    pub kept-given : AreGiven (map (tree_at c) sigma) (map (literal_at c) lits)
    kept-given = rw (literals-kept e lits kept-of.0) (given-literals order (map (type_at a) k.vars) (map (tree_at c) sigma) numbered-terms (map (literal_at a) lits) kept-typed)

    module _ (rows : map Some types ≡ map (slice_get k.vars) order) (renamed : AreRenamed c d sigma lits out (length lits)) where
      arranged-literals : map (literal_at d) out ≡ map (renumbered_literal order) (map (literal_at a) lits)
      arranged-literals =
          let n : length (map (substituted_literal (map (tree_at c) sigma)) (map (literal_at c) lits)) ≡ length lits = length-map (substituted_literal (map (tree_at c) sigma)) (map (literal_at c) lits) ∙ length-map (literal_at c) lits in
          let w = take-whole (map (substituted_literal (map (tree_at c) sigma)) (map (literal_at c) lits)) in
          renamed.value ∙ (rw n at w) ∙ rw (literals-kept e lits kept-of.0) (renumbered-literals order (map (type_at a) k.vars) (map (tree_at c) sigma) numbered-terms (map (literal_at a) lits) kept-typed)

      arranged-types : AreTypesOf d types × (map (type_at d) types ≡ map (variable_type (map (type_at a) k.vars)) order)
      arranged-types = types-value (extends-trans e f) k.vars typed.of_bank.types_of order types rows

      pub arranged-value : clause_at d (record { vars = types; lits = out }) ≡ arranged (clause_at a k)
      arranged-value = rw (arranged-types.1, arranged-literals, met, kept-of.1) refl

      pub arranged-typed : IsTypedIn d (record { vars = types; lits = out })
      arranged-typed =
          let t = typed-numbered (map (type_at a) k.vars) (map (literal_at a) lits) kept-typed in
          record {
            of_bank = record { types_of = arranged-types.0; literals_of = renamed.literals_of };
            typed = rw (arranged-types.1, arranged-literals, met) t;
          }
