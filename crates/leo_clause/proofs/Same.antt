-- The tests for sameness say what is equal.
use Rattle.std.proofs.Common.{ℕ, nat_eq, ◌≡◌, true, refl, arith}
use Rattle.std.proofs.lemmas.Bool.{and_parts}
use Rattle.std.proofs.lemmas.Bool.Decides.{nat_tests}
use Rattle.leo_q0.specs.Terms.{same_type}
use Rattle.leo_q0.proofs.Variables.{same_type-refl, equal_types}
use Rattle.leo_terms.specs.Tree.{Tree, variable, bound, symbol, app, lam, logic, absent, Connective, truth, falsity, negation, disjunction, conjunction, implication, equality, universal, existential, choice}
use Rattle.leo_clause.specs.Sameness.{same_connective, same_tree}

pub same-number : (n : ℕ) → nat_eq n n ≡ true
same-number n = grind (arith, nat_tests)

equal-numbers : (m n : ℕ) → nat_eq m n ≡ true → m ≡ n
equal-numbers m n h = grind (arith, nat_tests)

same_connective-refl : (c : Connective) → same_connective c c ≡ true
same_connective-refl truth = refl
same_connective-refl falsity = refl
same_connective-refl negation = refl
same_connective-refl disjunction = refl
same_connective-refl conjunction = refl
same_connective-refl implication = refl
same_connective-refl (equality a) = same_type-refl a
same_connective-refl (universal a) = same_type-refl a
same_connective-refl (existential a) = same_type-refl a
same_connective-refl (choice a) = same_type-refl a

pub same_tree-refl : (t : Tree) → same_tree t t ≡ true
same_tree-refl (variable n a) = rw (same-number n, same_type-refl a) refl
same_tree-refl (bound n a) = rw (same-number n, same_type-refl a) refl
same_tree-refl (symbol n a) = rw (same-number n, same_type-refl a) refl
same_tree-refl (app f x) = rw (same_tree-refl f, same_tree-refl x) refl
same_tree-refl (lam a t) = rw (same_type-refl a, same_tree-refl t) refl
same_tree-refl (logic c x y) = rw (same_connective-refl c, same_tree-refl x, same_tree-refl y) refl
same_tree-refl absent = refl

equal-connectives : (c d : Connective) → same_connective c d ≡ true → c ≡ d
equal-connectives truth truth h = refl
equal-connectives falsity falsity h = refl
equal-connectives negation negation h = refl
equal-connectives disjunction disjunction h = refl
equal-connectives conjunction conjunction h = refl
equal-connectives implication implication h = refl
equal-connectives (equality a) (equality b) h = rw (equal_types a b h) refl
equal-connectives (universal a) (universal b) h = rw (equal_types a b h) refl
equal-connectives (existential a) (existential b) h = rw (equal_types a b h) refl
equal-connectives (choice a) (choice b) h = rw (equal_types a b h) refl
equal-connectives _ _ h = cc

pub equal-trees : (s t : Tree) → same_tree s t ≡ true → s ≡ t
equal-trees (variable m a) (variable n b) h =
    let p = and_parts (nat_eq m n) _ h in
    rw (equal-numbers m n p.0, equal_types a b p.1) refl
equal-trees (bound m a) (bound n b) h =
    let p = and_parts (nat_eq m n) _ h in
    rw (equal-numbers m n p.0, equal_types a b p.1) refl
equal-trees (symbol m a) (symbol n b) h =
    let p = and_parts (nat_eq m n) _ h in
    rw (equal-numbers m n p.0, equal_types a b p.1) refl
equal-trees (app f x) (app g y) h =
    let p = and_parts (same_tree f g) _ h in
    rw (equal-trees f g p.0, equal-trees x y p.1) refl
equal-trees (lam a s) (lam b t) h =
    let p = and_parts (same_type a b) _ h in
    rw (equal_types a b p.0, equal-trees s t p.1) refl
equal-trees (logic c s x) (logic d t y) h =
    let p = and_parts (same_connective c d) _ h in
    let q = and_parts (same_tree s t) _ p.1 in
    rw (equal-connectives c d p.0, equal-trees s t q.0, equal-trees x y q.1) refl
equal-trees absent absent h = refl
equal-trees _ _ h = cc
