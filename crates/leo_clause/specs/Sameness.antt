-- Tests whether types, terms and literals are the same.
use Rattle.std.specs.Prelude.{nat_eq, Bool, true, false, ◌&&◌, ◌||◌}
use Rattle.std.specs.Bool.{beq}
use Rattle.leo_q0.specs.Terms.{same_type}
use Rattle.leo_terms.specs.Tree.{Tree, variable, bound, symbol, app, lam, logic, absent, Connective, truth, falsity, negation, disjunction, conjunction, implication, equality, universal, existential, choice}
use Rattle.leo_clause.specs.declared.clause.Lit.{Lit}
use Rattle.leo_clause.specs.Trees.{Literal}

abbrev pub same_connective : Connective → Connective → Bool
same_connective truth truth = true
same_connective falsity falsity = true
same_connective negation negation = true
same_connective disjunction disjunction = true
same_connective conjunction conjunction = true
same_connective implication implication = true
same_connective (equality a) (equality b) = same_type a b
same_connective (universal a) (universal b) = same_type a b
same_connective (existential a) (existential b) = same_type a b
same_connective (choice a) (choice b) = same_type a b
same_connective _ _ = false

abbrev pub same_tree : Tree → Tree → Bool
same_tree (variable m a) (variable n b) = nat_eq m n && same_type a b
same_tree (bound i a) (bound j b) = nat_eq i j && same_type a b
same_tree (symbol m a) (symbol n b) = nat_eq m n && same_type a b
same_tree (app f x) (app g y) = same_tree f g && same_tree x y
same_tree (lam a s) (lam b t) = same_type a b && same_tree s t
same_tree (logic c s x) (logic d t y) = same_connective c d && (same_tree s t && same_tree x y)
same_tree absent absent = true
same_tree _ _ = false

-- one literal is the other, as it is or turned
abbrev pub same_literal : Literal → Literal → Bool
same_literal l k =
    beq l.positive k.positive &&
    ((same_tree l.left k.left && same_tree l.right k.right) || (same_tree l.left k.right && same_tree l.right k.left))

-- the same test on the numbers of a bank
abbrev pub same_numbers : Lit → Lit → Bool
same_numbers l k =
    beq l.pos k.pos &&
    ((nat_eq l.left k.left && nat_eq l.right k.right) || (nat_eq l.left k.right && nat_eq l.right k.left))
