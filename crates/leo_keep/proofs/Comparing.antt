-- Comparing types and constants of a bank.
use Rattle.std.proofs.Common.{ℕ, nat_eq, ◌≡◌, ◌∙◌, ◌<◌, Bool, true, false, length, Option, Some, None, refl, sym, arith}
use Rattle.leo_q0.specs.Terms.{same_type}
use Rattle.leo_q0.proofs.Variables.{same_type-refl, equal_types}
use Rattle.leo_terms.specs.declared.node.Op.{Op}
use Rattle.leo_terms.specs.declared.node.Op.TheVariants as op
use Rattle.leo_terms.specs.Tree.{Tree, Connective, logic, absent, truth, falsity}
use Rattle.leo_terms.specs.Typing.{IsWellTyped}
use Rattle.leo_terms.specs.Contents.{Contents, IsBank, IsArgumentBelow, connective, type_at}
use Rattle.leo_terms.proofs.CallerLemmas.{type-shared}
use Rattle.leo_clause.specs.Sameness.{same_connective, same_tree}
use Rattle.leo_clause.proofs.Same.{equal-trees}
use Rattle.leo_keep.specs.Tautologies.{true_tree, false_tree}
use Rattle.leo_keep.proofs.Numbers.{equal-numbers, same-number}

pub argument-raised : (m n : ℕ) (x : Option ℕ) → m < n → IsArgumentBelow m x → IsArgumentBelow n x
argument-raised m n None l h = tt
argument-raised m n (Some x) l h = omega arith

pub same-answer : (p q : Bool) → (p ≡ true → q ≡ true) → (q ≡ true → p ≡ true) → p ≡ q
same-answer true q f g = sym (f refl)
same-answer false true f g = g refl
same-answer false false f g = refl

-- types of a bank are compared by their numbers
pub same-types : (c : Contents) → IsBank c → (i j : ℕ) → i < length c.types → j < length c.types → (r : Bool) → r ≡ nat_eq i j → r ≡ same_type (type_at c i) (type_at c j)
same-types c b i j k l r e =
    e ∙ same-answer (nat_eq i j) (same_type (type_at c i) (type_at c j))
    (λ t. let f : i ≡ j = equal-numbers i j t in rw f (same_type-refl (type_at c j)))
    (λ t. let f : i ≡ j = type-shared b i j k l (equal_types (type_at c i) (type_at c j) t) in rw f (same-number j))

-- constants
pub equal-connectives : (c d : Connective) → same_connective c d ≡ true → c ≡ d
equal-connectives c d h =
    let e : same_tree (logic c absent absent) (logic d absent absent) ≡ true = rw h refl in
    let f : logic c absent absent ≡ logic d absent absent = equal-trees (logic c absent absent) (logic d absent absent) e in
    cc

-- T and F stand alone
pub true-alone : (c : Contents) (o : Op) (x y t : Tree) → o ≡ op.True → IsWellTyped t → t ≡ logic (connective c o) x y → t ≡ true_tree
true-alone c o x y t e w f =
    let g : t ≡ logic truth x y = rw e at f in
    let h : IsWellTyped (logic truth x y) = rw g at w in
    g ∙ rw (h.2.0, h.2.1) refl

pub false-alone : (c : Contents) (o : Op) (x y t : Tree) → o ≡ op.False → IsWellTyped t → t ≡ logic (connective c o) x y → t ≡ false_tree
false-alone c o x y t e w f =
    let g : t ≡ logic falsity x y = rw e at f in
    let h : IsWellTyped (logic falsity x y) = rw g at w in
    g ∙ rw (h.2.0, h.2.1) refl
