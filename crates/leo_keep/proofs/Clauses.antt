-- Kept clauses: which are the same, and which comes first.
use Rattle.std.proofs.Common.{ℕ, zero, suc, nat_eq, ◌≡◌, ◌∙◌, ◌<◌, ◌≤◌, Bool, true, false, ◌&&◌, List, [], ◌∷◌, length, map, slice_get, Some, refl, sym, ap, subst, ◌⊎◌}
use Rattle.std.specs.Bool.{beq, Decides}
use Rattle.std.proofs.lemmas.Bool.{and_parts}
use Rattle.std.proofs.lemmas.Bool.Decides.{Decides-like}
use Rattle.std.proofs.lemmas.List.{length-map}
use Rattle.leo_terms.specs.Contents.{Contents, IsBank, type_at}
use Rattle.leo_terms.proofs.CallerLemmas.{type-shared, term-shared}
use Rattle.leo_clause.specs.declared.clause.Lit.{Lit}
use Rattle.leo_clause.specs.declared.clause.Clause.{Clause}
use Rattle.leo_clause.specs.Trees.{Literal, ClauseTree, literal_at, clause_at}
use Rattle.leo_clause.specs.Typed.{AreTypesOf, AreLiteralsOf, IsClauseOf, IsTypedIn}
use Rattle.leo_keep.specs.Heads.{HasHeads, applied_head}
use Rattle.leo_keep.specs.Outcomes.{AreTypedIn, HoldsOfNone, IsLeast, LacksRoom}
use Rattle.leo_keep.proofs.Numbers.{equal-numbers, get-from_map, get-mapped, NoneBelow, none-all, same-number}

-- literals by their numbers
beq-itself : (p : Bool) → beq p p ≡ true
beq-itself true = refl
beq-itself false = refl

beq-true : (p q : Bool) → beq p q ≡ true → p ≡ q
beq-true true true h = refl
beq-true true false h = cc
beq-true false true h = cc
beq-true false false h = refl

lit : Bool → ℕ → ℕ → Lit
lit p l r = record { pos = p; left = l; right = r }

parts-same : (p q : Bool) (l m r s : ℕ) → p ≡ q → l ≡ m → r ≡ s → lit p l r ≡ lit q m s
parts-same p q l m r s e f g = rw (e, f, g) refl

pub lit-decides : (a b : Lit) → Decides (beq a.pos b.pos && (nat_eq a.left b.left && nat_eq a.right b.right)) (a ≡ b)
unfolding lit
lit-decides a b = (
  λ h.
      let p = and_parts (beq a.pos b.pos) _ h in
      let q = and_parts (nat_eq a.left b.left) _ p.1 in
      parts-same a.pos b.pos a.left b.left a.right b.right (beq-true a.pos b.pos p.0) (equal-numbers a.left b.left q.0) (equal-numbers a.right b.right q.1),
  λ e. rw (e, beq-itself b.pos, same-number b.left, same-number b.right) refl,
)

-- what reads alike is one
module _ (c : Contents) (b : IsBank c) where
  head-same : {X : Type 0} (x y : X) (xs ys : List X) → x ∷ xs ≡ y ∷ ys → (x ≡ y) × (xs ≡ ys)
  head-same x y xs ys e = (cc, cc)

  types-same : (xs ys : List ℕ) → AreTypesOf c xs → AreTypesOf c ys → map (type_at c) xs ≡ map (type_at c) ys → xs ≡ ys
  types-same [] [] h k e = refl
  types-same [] (y ∷ ys) h k e = cc
  types-same (x ∷ xs) [] h k e = cc
  types-same (x ∷ xs) (y ∷ ys) h k e =
      let p = head-same (type_at c x) (type_at c y) (map (type_at c) xs) (map (type_at c) ys) e in
      rw (type-shared b x y h.0 k.0 p.0, types-same xs ys h.1 k.1 p.1) refl

  lit-same : (l k : Lit) → l.left < length c.terms → l.right < length c.terms → k.left < length c.terms → k.right < length c.terms → literal_at c l ≡ literal_at c k → l ≡ k
  unfolding lit
  lit-same l k p q r s e = parts-same l.pos k.pos l.left k.left l.right k.right (ap (λ (x : Literal). x.positive) e) (term-shared b l.left k.left p r (ap (λ (x : Literal). x.left) e)) (term-shared b l.right k.right q s (ap (λ (x : Literal). x.right) e))

  lits-same : (ls ks : List Lit) → AreLiteralsOf c ls → AreLiteralsOf c ks → map (literal_at c) ls ≡ map (literal_at c) ks → ls ≡ ks
  lits-same [] [] h k e = refl
  lits-same [] (y ∷ ys) h k e = cc
  lits-same (x ∷ xs) [] h k e = cc
  lits-same (x ∷ xs) (y ∷ ys) h k e =
      let p = head-same (literal_at c x) (literal_at c y) (map (literal_at c) xs) (map (literal_at c) ys) e in
      rw (lit-same x y h.0 h.1 k.0 k.1 p.0, lits-same xs ys h.2 k.2 p.1) refl

  pub other-literals : (k d : Clause) → IsClauseOf c k → IsClauseOf c d → (k.lits ≡ d.lits → ⊥) → clause_at c k ≡ clause_at c d → ⊥
  other-literals k d h m f e = f (lits-same k.lits d.lits h.literals_of m.literals_of (ap (λ (x : ClauseTree). x.literals) e))

  -- heads of one literal are one
  pub heads-same : (l m : Literal) (h k : Lit) → HasHeads c l h → HasHeads c m k → l ≡ m → h ≡ k
  unfolding lit
  heads-same l m h k x y e =
      parts-same h.pos k.pos h.left k.left h.right k.right
      (x.sign ∙ ap (λ (x : Literal). x.positive) e ∙ sym y.sign)
      (term-shared b h.left k.left x.left_within y.left_within (x.left ∙ ap (λ (x : Literal). applied_head x.left) e ∙ sym y.left))
      (term-shared b h.right k.right x.right_within y.right_within (x.right ∙ ap (λ (x : Literal). applied_head x.right) e ∙ sym y.right))

  clause-of : (vs ws : List ℕ) (ls ms : List Lit) → vs ≡ ws → ls ≡ ms → clause_at c (record { vars = vs; lits = ls }) ≡ clause_at c (record { vars = ws; lits = ms })
  clause-of vs ws ls ms e f = rw (e, f) refl

  pub same-clauses : (k d : Clause) → IsClauseOf c k → IsClauseOf c d → k.lits ≡ d.lits → (r : Bool) → Decides r (k.vars ≡ d.vars) → Decides r (clause_at c k ≡ clause_at c d)
  same-clauses k d h m f r x =
      Decides-like r
      (λ e. clause-of k.vars d.vars k.lits d.lits e f)
      (λ e. types-same k.vars d.vars h.types_of m.types_of (ap (λ (x : ClauseTree). x.variables) e))
      x

-- a clause of a list
pub typed-at : (c : Contents) (ks : List Clause) → AreTypedIn c ks → (i : ℕ) (k : Clause) → slice_get ks i ≡ Some k → IsTypedIn c k
typed-at c [] h i k e = absurd (let f : ⊥ = cc in f)
typed-at c (x ∷ ks) h zero k e = let f : x ≡ k = cc in rw (← f) h.0
typed-at c (x ∷ ks) h (suc i) k e = typed-at c ks h.1 i k e

module _ (c : Contents) (ks : List Clause) (P : ClauseTree → Type 0) where
  pub least-at : (n : ℕ) (k : Clause) → NoneBelow (λ (k : Clause). P (clause_at c k)) ks n → slice_get ks n ≡ Some k → P (clause_at c k) → IsLeast P (map (clause_at c) ks) n
  least-at n k none e p = record {
    clause = clause_at c k;
    stands = get-mapped (clause_at c) ks n k e;
    holds = p;
    least = λ m d l f q. (let g = get-from_map (clause_at c) ks m d f in none m g.0 l g.1 (subst P (sym g.2) q));
  }

  pub none-of : (n : ℕ) → NoneBelow (λ (k : Clause). P (clause_at c k)) ks n → length ks ≤ n → HoldsOfNone P (map (clause_at c) ks)
  none-of n none l m d e q =
      let g = get-from_map (clause_at c) ks m d e in
      none-all (λ (k : Clause). P (clause_at c k)) ks n none l m g.0 g.1 (subst P (sym g.2) q)

-- room, by the lists of the bank
pub room-decides : (c : Contents) (ks : List Clause) (k : Clause) (r : Bool) → Decides r ((64 < length k.lits) ⊎ (200000 ≤ length ks)) → Decides r (LacksRoom (map (clause_at c) ks) (clause_at c k))
room-decides c ks k r d =
    let e : length (map (clause_at c) ks) ≡ length ks = length-map ks (clause_at c) in
    let f : length (map (literal_at c) k.lits) ≡ length k.lits = length-map k.lits (literal_at c) in
    rw (e, f) d
