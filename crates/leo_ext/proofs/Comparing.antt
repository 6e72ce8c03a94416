-- Comparing types, terms and constants of a bank by their numbers.
use Rattle.std.proofs.Common.{ℕ, nat_eq, ◌≡◌, ◌∙◌, ◌<◌, Bool, true, false, length, refl, sym, arith}
use Rattle.std.proofs.lemmas.Bool.Decides.{nat_tests}
use Rattle.leo_q0.specs.Terms.{same_type}
use Rattle.leo_q0.proofs.Variables.{same_type-refl, equal_types}
use Rattle.leo_terms.specs.Tree.{type_of}
use Rattle.leo_terms.specs.Contents.{Contents, IsBank, type_at, tree_at, type_number}
use Rattle.leo_terms.proofs.CallerLemmas.{term-shared, type-shared, type_of-term, type_number-within}
use Rattle.leo_clause.specs.declared.clause.Lit.{Lit}
use Rattle.leo_clause.specs.Trees.{literal_at}
use Rattle.leo_clause.specs.Sameness.{same_tree}
use Rattle.leo_clause.proofs.Same.{equal-trees, same_tree-refl}
use Rattle.leo_kernel.specs.Shapes.{truth_tree}
use Rattle.leo_para.specs.Members.{is_formula}
use Rattle.leo_ext.specs.Truths.{AreTruths}
use Rattle.leo_ext.specs.declared.truths.Truths.{Truths}

same-number : (n : ℕ) → nat_eq n n ≡ true
same-number n = grind (arith, nat_tests)

equal-numbers : (m n : ℕ) → nat_eq m n ≡ true → m ≡ n
equal-numbers m n h = grind (arith, nat_tests)

same-answer : (p q : Bool) → (p ≡ true → q ≡ true) → (q ≡ true → p ≡ true) → p ≡ q
same-answer true q f g = sym (f refl)
same-answer false true f g = g refl
same-answer false false f g = refl

pub same-types : (c : Contents) → IsBank c → (i j : ℕ) → i < length c.types → j < length c.types → (r : Bool) → r ≡ nat_eq i j → r ≡ same_type (type_at c i) (type_at c j)
same-types c b i j k l r e =
    e ∙ same-answer (nat_eq i j) (same_type (type_at c i) (type_at c j))
    (λ t. let f : i ≡ j = equal-numbers i j t in rw f (same_type-refl (type_at c j)))
    (λ t. let f : i ≡ j = type-shared b i j k l (equal_types (type_at c i) (type_at c j) t) in rw f (same-number j))

pub same-trees : (c : Contents) → IsBank c → (m n : ℕ) → m < length c.terms → n < length c.terms → nat_eq m n ≡ same_tree (tree_at c m) (tree_at c n)
same-trees c b m n k l =
    same-answer (nat_eq m n) (same_tree (tree_at c m) (tree_at c n))
    (λ e. let f : m ≡ n = equal-numbers m n e in rw f (same_tree-refl (tree_at c n)))
    (λ e. let f : m ≡ n = term-shared b m n k l (equal-trees (tree_at c m) (tree_at c n) e) in rw f (same-number n))

-- the types of two terms
pub terms-types : (c : Contents) → IsBank c → (s t m n : ℕ) → s < length c.terms → t < length c.terms → m ≡ type_number c s → n ≡ type_number c t → (r : Bool) → r ≡ nat_eq m n → r ≡ same_type (type_of (tree_at c s)) (type_of (tree_at c t))
terms-types c b s t m n k l e f r g =
    rw (type_of-term b s k, type_of-term b t l, ← e, ← f)
    (same-types c b m n (rw e (type_number-within b s k)) (rw f (type_number-within b t l)) r g)

-- literals about truth values
pub first-formula : (c : Contents) → IsBank c → (t : Truths) → AreTruths c t → (l : Lit) → l.right < length c.terms → (r : Bool) → r ≡ nat_eq l.right t.yes → r ≡ true → true ≡ is_formula (literal_at c l)
first-formula c b t h l k r e f =
    let g : same_tree (tree_at c l.right) (truth_tree true) ≡ true = rw h.yes_reads at (sym (same-trees c b l.right t.yes k h.yes_within) ∙ sym e ∙ f) in
    rw g refl

pub second-formula : (c : Contents) → IsBank c → (t : Truths) → AreTruths c t → (l : Lit) → l.right < length c.terms → (r s : Bool) → r ≡ nat_eq l.right t.yes → r ≡ false → s ≡ nat_eq l.right t.no → s ≡ is_formula (literal_at c l)
second-formula c b t h l k r s e f g =
    let p : same_tree (tree_at c l.right) (truth_tree true) ≡ false = rw h.yes_reads at (sym (same-trees c b l.right t.yes k h.yes_within) ∙ sym e ∙ f) in
    let q : same_tree (tree_at c l.right) (truth_tree false) ≡ s = rw h.no_reads at (sym (same-trees c b l.right t.no k h.no_within) ∙ sym g) in
    rw (p, q) refl
