-- How often variables stand in the list of a term's nodes.
use Rattle.std.proofs.Common.{ℕ, ◌+◌, ◌≡◌, ◌≤◌, Bool, true, false, cond, ◌&&◌, List, [], ◌∷◌, ◌++◌, length, Some, refl, sym, ◌∙◌, ap, arith, rules, ◌⊎◌, inl, inr, length-append}
use Rattle.std.specs.Prelude.{nat_eq, nat_le, count_by, slice_get}
use Rattle.std.specs.List.{list_all}
use Rattle.std.proofs.lemmas.List.Sums.{sum_by_from, sum_by-append}
use Rattle.fo_terms.specs.declared.term.FoNode.{FoNode}
use Rattle.fo_terms.specs.declared.term.FoNode.TheVariants.{Var, Sym}
use Rattle.fo_terms.specs.Terms.{Term, Terms, variable, symbol, none, more, count, size, size_of_all}
use Rattle.fo_terms.specs.Prefix.{prefix, prefix_of_all, term_of, IsPrefix}
use Rattle.fo_kbo.specs.Occurrences.{occurrences, occurrences_in_all, Covers}
use Rattle.fo_kbo.specs.Nodes.{is_node_of, covers_at}

pub count_by-cons : (p : FoNode → Bool) (x : FoNode) (xs : List FoNode) → count_by p (x ∷ xs) ≡ cond (p x) 1 0 + count_by p xs
count_by-cons p x xs = let h = sum_by_from (λ y. cond (p y) 1 0) (0 + cond (p x) 1 0) xs in omega arith

pub count_by-append : (p : FoNode → Bool) (xs ys : List FoNode) → count_by p (xs ++ ys) ≡ count_by p xs + count_by p ys
count_by-append p xs ys = sum_by-append (λ y. cond (p y) 1 0) xs ys

mutual
  pub occurrences-prefix : (v : ℕ) (t : Term) → count_by (is_node_of v) (prefix t) ≡ occurrences v t
  occurrences-prefix v (variable w) = omega arith
  occurrences-prefix v (symbol f ts) = count_by-cons (is_node_of v) (Sym f (count ts)) (prefix_of_all ts) ∙ (let h = occurrences_in_all-prefix v ts in omega arith)

  pub occurrences_in_all-prefix : (v : ℕ) (ts : Terms) → count_by (is_node_of v) (prefix_of_all ts) ≡ occurrences_in_all v ts
  occurrences_in_all-prefix v none = refl
  occurrences_in_all-prefix v (more t ts) =
      let a = occurrences-prefix v t in
      let b = occurrences_in_all-prefix v ts in
      let c = count_by-append (is_node_of v) (prefix t) (prefix_of_all ts) in
      omega arith

and_parts : (a b : Bool) → (a && b) ≡ true → (a ≡ true) × (b ≡ true)
and_parts true b h = (refl, h)
and_parts false b h = absurd cc

and_both : (a b : Bool) → a ≡ true → b ≡ true → (a && b) ≡ true
and_both true b h k = k
and_both false b h k = absurd cc

stands_or_not : (p : FoNode → Bool) (xs : List FoNode) → list_all p xs ≡ true → (v : ℕ) → (count_by (is_node_of v) xs ≡ 0) ⊎ (p (Var v) ≡ true)
stands_or_not p [] h v = inl refl
stands_or_not p (Var w ∷ xs) h v = go (nat_eq v w) refl (stands_or_not p xs (and_parts (p (Var w)) (list_all p xs) h).1 v)
  where
    go : (b : Bool) → nat_eq v w ≡ b → (count_by (is_node_of v) xs ≡ 0) ⊎ (p (Var v) ≡ true) → (count_by (is_node_of v) (Var w ∷ xs) ≡ 0) ⊎ (p (Var v) ≡ true)
    go true e others = let same : v ≡ w = search rules in inr (rw same (and_parts (p (Var w)) (list_all p xs) h).0)
    go false e others = elim others [ inl z ↦ inl (count_by-cons (is_node_of v) (Var w) xs ∙ rw (e, z) refl) | inr t ↦ inr t ]
stands_or_not p (Sym f k ∷ xs) h v =
    elim (stands_or_not p xs (and_parts (p (Sym f k)) (list_all p xs) h).1 v) [
      | inl z ↦ inl (count_by-cons (is_node_of v) (Sym f k) xs ∙ rw z refl)
      | inr t ↦ inr t
    ]

le_from : (m n : ℕ) → nat_le m n ≡ true → m ≤ n
le_from m n h = search rules

le_to : (m n : ℕ) → m ≤ n → nat_le m n ≡ true
le_to m n h = search rules

covered_at : (ms ns xs : List FoNode) → ((v : ℕ) → count_by (is_node_of v) ns ≤ count_by (is_node_of v) ms) → list_all (covers_at ms ns) xs ≡ true
unfolding covers_at
covered_at ms ns [] h = refl
covered_at ms ns (Var w ∷ xs) h = and_both (nat_le (count_by (is_node_of w) ns) (count_by (is_node_of w) ms)) (list_all (covers_at ms ns) xs) (le_to (count_by (is_node_of w) ns) (count_by (is_node_of w) ms) (h w)) (covered_at ms ns xs h)
covered_at ms ns (Sym f k ∷ xs) h = covered_at ms ns xs h

covers_at-variable : (ms ns : List FoNode) (v : ℕ) → covers_at ms ns (Var v) ≡ true → count_by (is_node_of v) ns ≤ count_by (is_node_of v) ms
unfolding covers_at
covers_at-variable ms ns v h = le_from (count_by (is_node_of v) ns) (count_by (is_node_of v) ms) h

counted : (ns : List FoNode) → IsPrefix ns → (v : ℕ) → count_by (is_node_of v) ns ≡ occurrences v (term_of ns)
counted ns p v = ap (count_by (is_node_of v)) (sym p) ∙ occurrences-prefix v (term_of ns)

pub Covers-from : (ms ns : List FoNode) → IsPrefix ms → IsPrefix ns → list_all (covers_at ms ns) ns ≡ true → Covers (term_of ms) (term_of ns)
Covers-from ms ns p q h v =
    let a = counted ms p v in
    let b = counted ns q v in
    elim (stands_or_not (covers_at ms ns) ns h v) [
      | inl z ↦ omega arith
      | inr t ↦ (let l = covers_at-variable ms ns v t in omega arith)
    ]

pub Covers-to : (ms ns : List FoNode) → IsPrefix ms → IsPrefix ns → Covers (term_of ms) (term_of ns) → list_all (covers_at ms ns) ns ≡ true
Covers-to ms ns p q h = covered_at ms ns ns (λ v. let a = counted ms p v in let b = counted ns q v in let c = h v in omega arith)

mutual
  pub length-prefix : (t : Term) → length (prefix t) ≡ size t
  length-prefix (variable v) = refl
  length-prefix (symbol f ts) = let h = length-prefix_of_all ts in omega arith

  length-prefix_of_all : (ts : Terms) → length (prefix_of_all ts) ≡ size_of_all ts
  length-prefix_of_all none = refl
  length-prefix_of_all (more t ts) =
      let a = length-prefix t in
      let b = length-prefix_of_all ts in
      let c = length-append (prefix t) (prefix_of_all ts) in
      omega arith

pub length-IsPrefix : (ns : List FoNode) → IsPrefix ns → length ns ≡ size (term_of ns)
length-IsPrefix ns p = ap length (sym p) ∙ length-prefix (term_of ns)

-- the first node of a term
first_symbol : (t : Term) (f k : ℕ) → slice_get (prefix t) 0 ≡ Some (Sym f k) → (ts : Terms) × (t ≡ symbol f ts)
first_symbol (variable v) f k h = absurd cc
first_symbol (symbol g ts) f k h = let same : g ≡ f = cc in (ts, rw same refl)

first_variable : (t : Term) (v : ℕ) → slice_get (prefix t) 0 ≡ Some (Var v) → t ≡ variable v
first_variable (variable w) v h = let same : w ≡ v = cc in rw same refl
first_variable (symbol g ts) v h = absurd cc

pub term_of-symbol : (ns : List FoNode) → IsPrefix ns → (f k : ℕ) → slice_get ns 0 ≡ Some (Sym f k) → (ts : Terms) × (term_of ns ≡ symbol f ts)
term_of-symbol ns p f k h = first_symbol (term_of ns) f k (ap (λ (ms : List FoNode). slice_get ms 0) p ∙ h)

pub term_of-variable : (ns : List FoNode) → IsPrefix ns → (v : ℕ) → slice_get ns 0 ≡ Some (Var v) → term_of ns ≡ variable v
term_of-variable ns p v h = first_variable (term_of ns) v (ap (λ (ms : List FoNode). slice_get ms 0) p ∙ h)
