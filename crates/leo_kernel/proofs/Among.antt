-- Literals that stand among others.
use Rattle.std.proofs.Common.{ℕ, nat_eq, ◌≡◌, ◌<◌, ◌≤◌, Bool, true, false, ◌||◌, List, [], ◌∷◌, length, map, take, slice_index_or, refl, arith}
use Rattle.std.specs.Bool.{Decides}
use Rattle.std.specs.List.{list_any}
use Rattle.std.proofs.lemmas.Bool.Decides.{nat_tests}
use Rattle.leo_terms.specs.Contents.{Contents, IsBank, tree_at}
use Rattle.leo_terms.proofs.CallerLemmas.{term-shared}
use Rattle.leo_clause.specs.declared.clause.Lit.{Lit}
use Rattle.leo_clause.specs.Trees.{literal_at}
use Rattle.leo_clause.specs.Typed.{AreLiteralsOf}
use Rattle.leo_clause.specs.Sameness.{same_tree, same_literal, same_numbers}
use Rattle.leo_clause.proofs.Same.{same_tree-refl, equal-trees}
use Rattle.leo_kernel.specs.Conclusions.{AreAmong}
use Rattle.leo_kernel.proofs.Lists.{Each, each-get, each-whole, get-index, same-answer}
use Rattle.leo_kernel.proofs.TypedLits.{no, yes}

same-number : (n : ℕ) → nat_eq n n ≡ true
same-number n = grind (arith, nat_tests)

equal-numbers : (m n : ℕ) → nat_eq m n ≡ true → m ≡ n
equal-numbers m n h = grind (arith, nat_tests)

module _ (c : Contents) (b : IsBank c) where
  same-trees : (m n : ℕ) → m < length c.terms → n < length c.terms → nat_eq m n ≡ same_tree (tree_at c m) (tree_at c n)
  same-trees m n k l =
      same-answer (nat_eq m n) (same_tree (tree_at c m) (tree_at c n))
      (λ e. let f : m ≡ n = equal-numbers m n e in rw f (same_tree-refl (tree_at c n)))
      (λ e. let f : m ≡ n = term-shared b m n k l (equal-trees (tree_at c m) (tree_at c n) e) in rw f (same-number n))

  same-lits : (l k : Lit) → l.left < length c.terms → l.right < length c.terms → k.left < length c.terms → k.right < length c.terms → same_numbers l k ≡ same_literal (literal_at c l) (literal_at c k)
  same-lits l k p q r s = rw (same-trees l.left k.left p r, same-trees l.right k.right q s, same-trees l.left k.right p s, same-trees l.right k.left q r) refl

  pub any-same : (l : Lit) → l.left < length c.terms → l.right < length c.terms → (ks : List Lit) → AreLiteralsOf c ks → list_any (same_numbers l) ks ≡ list_any (same_literal (literal_at c l)) (map (literal_at c) ks)
  any-same l p q [] h = refl
  any-same l p q (k ∷ ks) h = both (same_numbers l k) (same_literal (literal_at c l) (literal_at c k)) _ _ (same-lits l k p q h.0 h.1) (any-same l p q ks h.2)
    where
      both : (a x d y : Bool) → a ≡ x → d ≡ y → (a || d) ≡ (x || y)
      both a x d y e f = rw (e, f) refl

  among-each : (ls ks : List Lit) → AreAmong (map (literal_at c) ls) (map (literal_at c) ks) → Each (λ (l : Lit). list_any (same_literal (literal_at c l)) (map (literal_at c) ks) ≡ true) ls
  among-each [] ks h = tt
  among-each (l ∷ ls) ks h = (h.0, among-each ls ks h.1)

  each-among : (ls ks : List Lit) → Each (λ (l : Lit). list_any (same_literal (literal_at c l)) (map (literal_at c) ks) ≡ true) ls → AreAmong (map (literal_at c) ls) (map (literal_at c) ks)
  each-among [] ks h = tt
  each-among (l ∷ ls) ks h = (h.0, each-among ls ks h.1)

  pub all-among : (ls ks : List Lit) (n : ℕ) → length ls ≤ n → Each (λ (l : Lit). list_any (same_literal (literal_at c l)) (map (literal_at c) ks) ≡ true) (take n ls) → Decides true (AreAmong (map (literal_at c) ls) (map (literal_at c) ks))
  all-among ls ks n l h = yes (each-among ls ks (each-whole (λ (k : Lit). list_any (same_literal (literal_at c k)) (map (literal_at c) ks) ≡ true) ls n l h))

  pub one-missing : (ls ks : List Lit) (i : ℕ) (l : Lit) → i < length ls → l ≡ slice_index_or ls i l → list_any (same_literal (literal_at c l)) (map (literal_at c) ks) ≡ false → Decides false (AreAmong (map (literal_at c) ls) (map (literal_at c) ks))
  one-missing ls ks i l lt e f =
      no (λ h. let g = each-get (λ (k : Lit). list_any (same_literal (literal_at c k)) (map (literal_at c) ks) ≡ true) ls i l (among-each ls ks h) (get-index ls i l lt e) in true-false (list_any (same_literal (literal_at c l)) (map (literal_at c) ks)) g f)
    where
      true-false : (b : Bool) → b ≡ true → b ≡ false → ⊥
      true-false b e f = cc
