-- Clauses of a bank that are compared by their numbers.
use Rattle.std.proofs.Common.{ℕ, zero, suc, ◌≡◌, ◌∙◌, ◌<◌, Bool, List, [], ◌∷◌, ◌++◌, length, map, take, drop, refl, sym, ap}
use Rattle.std.specs.Bool.{Decides}
use Rattle.std.proofs.lemmas.List.{map-append}
use Rattle.std.proofs.lemmas.Bool.Decides.{Decides-like}
use Rattle.leo_terms.specs.Contents.{Contents, IsBank, type_at}
use Rattle.leo_terms.proofs.CallerLemmas.{type-shared, term-shared}
use Rattle.leo_clause.specs.declared.clause.Lit.{Lit}
use Rattle.leo_clause.specs.declared.clause.Clause.{Clause}
use Rattle.leo_clause.specs.Trees.{Literal, ClauseTree, literal_at, clause_at}
use Rattle.leo_clause.specs.Typed.{AreTypesOf, AreLiteralsOf, IsClauseOf}
use Rattle.leo_kernel.specs.Conclusions.{with_literals, with_new}
use Rattle.leo_kernel.specs.ByNumber.{IsConclusion}

-- lists of numbers of a bank
pub types-append : (c : Contents) (xs ys : List ℕ) → AreTypesOf c xs → AreTypesOf c ys → AreTypesOf c (xs ++ ys)
types-append c [] ys h k = k
types-append c (x ∷ xs) ys h k = (h.0, types-append c xs ys h.1 k)

pub lits-append : (c : Contents) (ls ks : List Lit) → AreLiteralsOf c ls → AreLiteralsOf c ks → AreLiteralsOf c (ls ++ ks)
lits-append c [] ks h k = k
lits-append c (l ∷ ls) ks h k = (h.0, h.1, lits-append c ls ks h.2 k)

lits-take : (c : Contents) (n : ℕ) (ls : List Lit) → AreLiteralsOf c ls → AreLiteralsOf c (take n ls)
lits-take c zero ls h = tt
lits-take c (suc n) [] h = tt
lits-take c (suc n) (l ∷ ls) h = (h.0, h.1, lits-take c n ls h.2)

lits-drop : (c : Contents) (n : ℕ) (ls : List Lit) → AreLiteralsOf c ls → AreLiteralsOf c (drop n ls)
lits-drop c zero ls h = h
lits-drop c (suc n) [] h = tt
lits-drop c (suc n) (l ∷ ls) h = lits-drop c n ls h.2

pub lits-placed : (c : Contents) (n : ℕ) (ls new : List Lit) → AreLiteralsOf c ls → AreLiteralsOf c new → AreLiteralsOf c (take n ls ++ (new ++ drop (suc n) ls))
lits-placed c n ls new h k = lits-append c (take n ls) (new ++ drop (suc n) ls) (lits-take c n ls h) (lits-append c new (drop (suc n) ls) k (lits-drop c (suc n) ls h))

map-take : {X Y : Type 0} (f : X → Y) (n : ℕ) (xs : List X) → map f (take n xs) ≡ take n (map f xs)
map-take f zero xs = refl
map-take f (suc n) [] = refl
map-take f (suc n) (x ∷ xs) = ap (λ ys. f x ∷ ys) (map-take f n xs)

map-drop : {X Y : Type 0} (f : X → Y) (n : ℕ) (xs : List X) → map f (drop n xs) ≡ drop n (map f xs)
map-drop f zero xs = refl
map-drop f (suc n) [] = refl
map-drop f (suc n) (x ∷ xs) = map-drop f n xs

pub map-placed : (c : Contents) (n : ℕ) (ls new : List Lit) → map (literal_at c) (take n ls ++ (new ++ drop (suc n) ls)) ≡ with_literals (map (literal_at c) ls) n (map (literal_at c) new)
map-placed c n ls new =
    map-append (literal_at c) (take n ls) (new ++ drop (suc n) ls) ∙ rw (map-take (literal_at c) n ls, map-append (literal_at c) new (drop (suc n) ls), map-drop (literal_at c) (suc n) ls) refl

-- what reads alike is one
module _ (c : Contents) (b : IsBank c) where
  head-same : {X : Type 0} (x y : X) (xs ys : List X) → x ∷ xs ≡ y ∷ ys → (x ≡ y) × (xs ≡ ys)
  head-same x y xs ys e = (cc, cc)

  pub types-same : (xs ys : List ℕ) → AreTypesOf c xs → AreTypesOf c ys → map (type_at c) xs ≡ map (type_at c) ys → xs ≡ ys
  types-same [] [] h k e = refl
  types-same [] (y ∷ ys) h k e = cc
  types-same (x ∷ xs) [] h k e = cc
  types-same (x ∷ xs) (y ∷ ys) h k e =
      let p = head-same (type_at c x) (type_at c y) (map (type_at c) xs) (map (type_at c) ys) e in
      rw (type-shared b x y h.0 k.0 p.0, types-same xs ys h.1 k.1 p.1) refl

  pub lit-same : (l k : Lit) → l.left < length c.terms → l.right < length c.terms → k.left < length c.terms → k.right < length c.terms → literal_at c l ≡ literal_at c k → l ≡ k
  lit-same l k p q r s e = make l.pos k.pos l.left k.left l.right k.right (ap (λ (x : Literal). x.positive) e) (term-shared b l.left k.left p r (ap (λ (x : Literal). x.left) e)) (term-shared b l.right k.right q s (ap (λ (x : Literal). x.right) e))
    where
      lit : Bool → ℕ → ℕ → Lit
      lit p l r = record { pos = p; left = l; right = r }

      make : (p q : Bool) (l m r s : ℕ) → p ≡ q → l ≡ m → r ≡ s → lit p l r ≡ lit q m s
      make p q l m r s e f g = rw (e, f, g) refl

  pub lits-same : (ls ks : List Lit) → AreLiteralsOf c ls → AreLiteralsOf c ks → map (literal_at c) ls ≡ map (literal_at c) ks → ls ≡ ks
  lits-same [] [] h k e = refl
  lits-same [] (y ∷ ys) h k e = cc
  lits-same (x ∷ xs) [] h k e = cc
  lits-same (x ∷ xs) (y ∷ ys) h k e =
      let p = head-same (literal_at c x) (literal_at c y) (map (literal_at c) xs) (map (literal_at c) ys) e in
      rw (lit-same x y h.0 h.1 k.0 k.1 p.0, lits-same xs ys h.2 k.2 p.1) refl

  -- a clause with these variables and literals
  pub clause-is : (k : Clause) (vars : List ℕ) (lits : List Lit) → IsClauseOf c k → AreTypesOf c vars → AreLiteralsOf c lits → (r : Bool) → Decides r ((k.vars ≡ vars) × (k.lits ≡ lits)) → Decides r (clause_at c k ≡ record { variables = map (type_at c) vars; literals = map (literal_at c) lits })
  clause-is k vars lits h types literals r d =
      Decides-like r
      (λ p. rw (p.0, p.1) refl)
      (λ e. (types-same k.vars vars h.types_of types (ap (λ (x : ClauseTree). x.variables) e), lits-same k.lits lits h.literals_of literals (ap (λ (x : ClauseTree). x.literals) e)))
      d

  -- a conclusion with new literals in the place of one
  pub concluded : (parent : Clause) (place : ℕ) (fresh : List ℕ) (new : List Lit) (step : Clause) → IsClauseOf c parent → IsClauseOf c step → AreTypesOf c fresh → AreLiteralsOf c new → (r : Bool) → Decides r (IsConclusion parent place fresh new step) → Decides r (clause_at c step ≡ with_new (clause_at c parent) place (map (type_at c) fresh) (map (literal_at c) new))
  concluded parent place fresh new step h k types literals r d =
      let vs : map (type_at c) (parent.vars ++ fresh) ≡ map (type_at c) parent.vars ++ map (type_at c) fresh = map-append (type_at c) parent.vars fresh in
      let ls = map-placed c place parent.lits new in
      let q : clause_at c step ≡ record { variables = map (type_at c) (parent.vars ++ fresh); literals = map (literal_at c) (take place parent.lits ++ (new ++ drop (suc place) parent.lits)) } → clause_at c step ≡ with_new (clause_at c parent) place (map (type_at c) fresh) (map (literal_at c) new) = λ e. e ∙ rw (vs, ls) refl in
      let q-back : clause_at c step ≡ with_new (clause_at c parent) place (map (type_at c) fresh) (map (literal_at c) new) → clause_at c step ≡ record { variables = map (type_at c) (parent.vars ++ fresh); literals = map (literal_at c) (take place parent.lits ++ (new ++ drop (suc place) parent.lits)) } = λ e. e ∙ sym (rw (vs, ls) refl) in
      Decides-like r q q-back
      (clause-is step (parent.vars ++ fresh) (take place parent.lits ++ (new ++ drop (suc place) parent.lits)) k
      (types-append c parent.vars fresh h.types_of types)
      (lits-placed c place parent.lits new h.literals_of literals) r
      (Decides-like r (λ p. (p.variables, p.literals)) (λ p. record { variables = p.0; literals = p.1 }) d))
