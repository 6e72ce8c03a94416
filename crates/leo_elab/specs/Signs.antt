-- What the connectives, binders and equation marks of formulas stand for in Q0.
use Rattle.std.specs.Prelude.{◌≡◌, ℕ, ◌+◌, Option, Some, None, if◌then◌else◌}
use Rattle.leo_syntax.specs.declared.tree.Binder.{Binder}
use Rattle.leo_syntax.specs.declared.tree.Binder.TheVariants as binder
use Rattle.leo_syntax.specs.declared.tree.Connective.{Connective}
use Rattle.leo_syntax.specs.declared.tree.Connective.TheVariants.{Or, And, Implies, ImpliedBy, Iff, Xor, Nor, Nand}
use Rattle.leo_syntax.specs.declared.tree.Sign.{Sign}
use Rattle.leo_syntax.specs.declared.tree.Sign.TheVariants.{Equal, NotEqual}
use Rattle.leo_syntax.specs.declared.tree.Tree.{Tree}
use Rattle.leo_syntax.specs.declared.tree.Node.{Node, out-Node}
use Rattle.leo_syntax.specs.declared.tree.Node.TheOpen.{Node-F}
use Rattle.leo_syntax.specs.declared.tree.TypeTree.{TypeTree}
use Rattle.leo_syntax.specs.declared.tree.TypeNode.{TypeNode, out-TypeNode}
use Rattle.leo_syntax.specs.declared.tree.TypeNode.TheOpen.{TypeNode-F}
use Rattle.leo_elab.specs.declared.quantifiers.Quantifier.{Quantifier}
use Rattle.leo_elab.specs.declared.quantifiers.Quantifier.TheVariants as quantifier
use Rattle.leo_q0.specs.Terms.{SimpleType, base, arrow, truth, same_type, Variable, Term, variable, choice, apply, lambda}
use Rattle.leo_q0.specs.Connectives.{equation, apply_two, not_term, or_term, and_term, imp_term, all_term, some_term}

-- two formulas with a connective between them
abbrev pub joined : Connective → Term → Term → Term
joined Or s t = apply_two or_term s t
joined And s t = apply_two and_term s t
joined Implies s t = apply_two imp_term s t
joined ImpliedBy s t = apply_two imp_term t s
joined Iff s t = equation truth s t
joined Xor s t = apply not_term (equation truth s t)
joined Nor s t = apply not_term (apply_two or_term s t)
joined Nand s t = apply not_term (apply_two and_term s t)

-- an equation of two terms of a type, or its negation
abbrev pub equated : Sign → SimpleType → Term → Term → Term
equated Equal a s t = equation a s t
equated NotEqual a s t = apply not_term (equation a s t)

-- a term under a binder of one variable, and its type, where the body has that type
abbrev pub bound : Binder → Variable → Term → Term
bound binder.ForAll v t = apply (all_term v.type) (lambda v t)
bound binder.Exists v t = apply (some_term v.type) (lambda v t)
bound binder.Lambda v t = lambda v t
bound binder.Choice v t = apply (choice v.type) (lambda v t)

abbrev pub bound_type : Binder → SimpleType → SimpleType → SimpleType
bound_type binder.ForAll a b = truth
bound_type binder.Exists a b = truth
bound_type binder.Lambda a b = arrow a b
bound_type binder.Choice a b = a

-- every binder but the lambda binds in formulas alone
abbrev pub IsBodyOf : Binder → SimpleType → Type 0
IsBodyOf binder.ForAll b = b ≡ truth
IsBodyOf binder.Exists b = b ≡ truth
IsBodyOf binder.Lambda b = Unit {0}
IsBodyOf binder.Choice b = b ≡ truth

-- `!!`, `??` and `@@+` with a set of things of a type, and the type of the whole
abbrev pub quantified : Quantifier → SimpleType → Term → Term
quantified quantifier.Pi a s = apply (all_term a) s
quantified quantifier.Sigma a s = apply (some_term a) s
quantified quantifier.Choice a s = apply (choice a) s

abbrev pub quantified_type : Quantifier → SimpleType → SimpleType
quantified_type quantifier.Pi a = truth
quantified_type quantifier.Sigma a = truth
quantified_type quantifier.Choice a = a

-- `( ~ )`: the function of its operand, whose variable has that number
abbrev pub negation_function : ℕ → Term
negation_function n =
    let x : Variable = record { number = n; type = truth } in
    lambda x (apply not_term (variable x))

-- a connective in brackets: the function of its operands, whose variables have that number and the next
abbrev pub connective_function : ℕ → Connective → Term
connective_function n c =
    let x : Variable = record { number = n; type = truth } in
    let y : Variable = record { number = n + 1; type = truth } in
    lambda x (lambda y (joined c (variable x) (variable y)))

-- what stands at the top of a type or of a tree
abbrev pub type_top : TypeTree → TypeNode-F TypeNode TypeTree
type_top ty = out-TypeNode ty.node

abbrev pub top : Tree → Node-F Node Tree
top tree = out-Node tree.node

-- which of `!!`, `??` and `@@+` stands at the top, if one does
abbrev pub quantifier_in : Node-F Node Tree → Option Quantifier
quantifier_in Node-F.Pi = Some quantifier.Pi
quantifier_in Node-F.Sigma = Some quantifier.Sigma
quantifier_in Node-F.Choice = Some quantifier.Choice
quantifier_in _ = None

abbrev pub quantifier_of : Tree → Option Quantifier
quantifier_of tree = quantifier_in (top tree)

-- the type of a function of the first type with an argument of the second
abbrev pub applied : SimpleType → SimpleType → Option SimpleType
applied (base n) c = None
applied (arrow a b) c = if same_type a c then Some b else None

-- what a set of that type contains, where it is a type of sets
abbrev pub element : SimpleType → Option SimpleType
element (base n) = None
element (arrow a b) = if same_type b truth then Some a else None
