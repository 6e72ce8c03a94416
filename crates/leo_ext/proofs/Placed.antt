-- Clauses with new literals in the place of one.
use Rattle.std.proofs.Common.{ℕ, zero, suc, ◌≡◌, ◌∙◌, ◌+◌, List, [], ◌∷◌, ◌++◌, map, take, drop, refl, ap, arith}
use Rattle.std.proofs.lemmas.List.{map-append}
use Rattle.leo_q0.specs.Terms.{SimpleType}
use Rattle.leo_terms.specs.Contents.{Contents, type_at}
use Rattle.leo_clause.specs.declared.clause.Clause.{Clause}
use Rattle.leo_clause.specs.declared.clause.Lit.{Lit}
use Rattle.leo_clause.specs.Trees.{Literal, ClauseTree, clause_at, literal_at}
use Rattle.leo_clause.specs.Typed.{AreLiteralsOf, AreTypesOf, IsClauseOf}
use Rattle.leo_kernel.specs.Conclusions.{with_literals, with_new}

pub map-take : {X Y : Type 0} (f : X → Y) (n : ℕ) (xs : List X) → map f (take n xs) ≡ take n (map f xs)
map-take f zero xs = refl
map-take f (suc n) [] = refl
map-take f (suc n) (x ∷ xs) = ap (λ (zs : List _). f x ∷ zs) (map-take f n xs)

pub map-drop : {X Y : Type 0} (f : X → Y) (n : ℕ) (xs : List X) → map f (drop n xs) ≡ drop n (map f xs)
map-drop f zero xs = refl
map-drop f (suc n) [] = refl
map-drop f (suc n) (x ∷ xs) = map-drop f n xs

same-clause : (vs ws : List SimpleType) (ls ks : List Literal) → vs ≡ ws → ls ≡ ks → (let x : ClauseTree = record { variables = vs; literals = ls } in x) ≡ record { variables = ws; literals = ks }
same-clause vs ws ls ks e f = rw (e, f) refl

module _ (c : Contents) where
  pub types-both : (xs ys : List ℕ) → AreTypesOf c xs → AreTypesOf c ys → AreTypesOf c (xs ++ ys)
  types-both [] ys h g = g
  types-both (x ∷ xs) ys h g = (h.0, types-both xs ys h.1 g)

  pub lits-both : (ls ks : List Lit) → AreLiteralsOf c ls → AreLiteralsOf c ks → AreLiteralsOf c (ls ++ ks)
  lits-both [] ks h g = g
  lits-both (l ∷ ls) ks h g = (h.0, h.1, lits-both ls ks h.2 g)

  lits-take : (n : ℕ) (ls : List Lit) → AreLiteralsOf c ls → AreLiteralsOf c (take n ls)
  lits-take zero ls h = tt
  lits-take (suc n) [] h = tt
  lits-take (suc n) (l ∷ ls) h = (h.0, h.1, lits-take n ls h.2)

  lits-drop : (n : ℕ) (ls : List Lit) → AreLiteralsOf c ls → AreLiteralsOf c (drop n ls)
  lits-drop zero ls h = h
  lits-drop (suc n) [] h = tt
  lits-drop (suc n) (l ∷ ls) h = lits-drop n ls h.2

  pub replaced-of : (ls new : List Lit) (at : ℕ) → AreLiteralsOf c ls → AreLiteralsOf c new → AreLiteralsOf c (take at ls ++ (new ++ drop (at + 1) ls))
  replaced-of ls new at h g = lits-both (take at ls) (new ++ drop (at + 1) ls) (lits-take at ls h) (lits-both new (drop (at + 1) ls) g (lits-drop (at + 1) ls h))

  pub replaced-reads : (ls new : List Lit) (at : ℕ) → map (literal_at c) (take at ls ++ (new ++ drop (at + 1) ls)) ≡ with_literals (map (literal_at c) ls) at (map (literal_at c) new)
  replaced-reads ls new at =
      let n : at + 1 ≡ suc at = omega arith in
      map-append (literal_at c) (take at ls) (new ++ drop (at + 1) ls) ∙ rw (map-append (literal_at c) new (drop (at + 1) ls), map-take (literal_at c) at ls, map-drop (literal_at c) (at + 1) ls, n) refl

  module _ (k q : Clause) (at : ℕ) (fresh : List ℕ) (new : List Lit) (vars : q.vars ≡ k.vars ++ fresh) (lits : q.lits ≡ take at k.lits ++ (new ++ drop (at + 1) k.lits)) where
    pub placed-of : IsClauseOf c k → AreTypesOf c fresh → AreLiteralsOf c new → IsClauseOf c q
    placed-of h f g = record { types_of = rw vars (types-both k.vars fresh h.types_of f); literals_of = rw lits (replaced-of k.lits new at h.literals_of g) }

    pub placed-reads : clause_at c q ≡ with_new (clause_at c k) at (map (type_at c) fresh) (map (literal_at c) new)
    placed-reads = same-clause _ _ _ _ (ap (map (type_at c)) vars ∙ map-append (type_at c) k.vars fresh) (ap (map (literal_at c)) lits ∙ replaced-reads k.lits new at)
