-- The meaning of types and formulas: terms of Q0, typed as in Church's type theory.
use Rattle.std.specs.Prelude.{◌≡◌, ℕ, List, [], ◌∷◌, Some, None, length}
use Rattle.leo_syntax.specs.declared.tree.Binder.{Binder}
use Rattle.leo_syntax.specs.declared.tree.Connective.{Connective}
use Rattle.leo_syntax.specs.declared.tree.Sign.{Sign}
use Rattle.leo_syntax.specs.declared.tree.Variable.{Variable}
use Rattle.leo_syntax.specs.declared.tree.Tree.{Tree}
use Rattle.leo_syntax.specs.declared.tree.Node.TheOpen.{Node-F as Node}
use Rattle.leo_syntax.specs.declared.tree.TypeTree.{TypeTree}
use Rattle.leo_syntax.specs.declared.tree.TypeNode.TheOpen.{TypeNode-F as TypeNode}
use Rattle.leo_syntax.specs.declared.tree.TypeWord.TheVariants as word
use Rattle.leo_elab.specs.declared.quantifiers.Quantifier.{Quantifier}
use Rattle.leo_q0.specs.Terms.{SimpleType, arrow, truth, individual, Variable as Q0Variable, Term, variable, constant, apply}
use Rattle.leo_q0.specs.Connectives.{not_term, true_term, false_term}
use Rattle.leo_elab.specs.Problem.{Declared, Constant, Scope, named, outside, bound_to}
use Rattle.leo_elab.specs.Signs.{joined, equated, bound, bound_type, IsBodyOf, quantified, quantified_type, negation_function, connective_function, type_top, top, quantifier_of, applied, element}

-- the simple type that a type means
pub data MeansType (d : Declared) : TypeTree → SimpleType → Type 0 where
  individuals : {ty : TypeTree} → type_top ty ≡ TypeNode.Base word.Individual → MeansType d ty individual
  truth_values : {ty : TypeTree} → type_top ty ≡ TypeNode.Base word.Truth → MeansType d ty truth
  declared_type : {ty : TypeTree} {name : List ℕ} {a : SimpleType} → type_top ty ≡ TypeNode.Base (word.Atom name) → named name d.types ≡ Some a → MeansType d ty a
  functions : {ty from to : TypeTree} {a b : SimpleType} → type_top ty ≡ TypeNode.Arrow from to → MeansType d from a → MeansType d to b → MeansType d ty (arrow a b)

mutual
  -- the term that a tree means under the variables of the binders around it, and the term's type
  pub data Means (d : Declared) : Scope → Tree → Term → SimpleType → Type 0 where
    atom : {s : Scope} {tree : Tree} {name : List ℕ} {k : Constant} → top tree ≡ Node.Atom name → named name d.constants ≡ Some k → Means d s tree (constant k.number k.type) k.type
    bound_variable : {s : Scope} {tree : Tree} {name : List ℕ} {v : Q0Variable} → top tree ≡ Node.Var name → bound_to name s ≡ Some v → Means d s tree (variable v) v.type
    true_sign : {s : Scope} {tree : Tree} → top tree ≡ Node.True → Means d s tree true_term truth
    false_sign : {s : Scope} {tree : Tree} → top tree ≡ Node.False → Means d s tree false_term truth
    application : {s : Scope} {tree head : Tree} {arguments : List Tree} {f t : Term} {a b : SimpleType}
        → top tree ≡ Node.Apply head arguments → quantifier_of head ≡ None → Means d s head f a → Applies d s f a arguments t b → Means d s tree t b
    -- `!!`, `??` and `@@+` take a set as their first argument
    quantification : {s : Scope} {tree head set : Tree} {arguments : List Tree} {q : Quantifier} {p t : Term} {a b c : SimpleType}
        → top tree ≡ Node.Apply head (set ∷ arguments) → quantifier_of head ≡ Some q → Means d s set p c → element c ≡ Some a
        → Applies d s (quantified q a p) (quantified_type q a) arguments t b → Means d s tree t b
    binding : {s : Scope} {tree body : Tree} {b : Binder} {vs : List Variable} {t : Term} {a : SimpleType}
        → top tree ≡ Node.Bind b vs body → Binds d b s vs body t a → Means d s tree t a
    negation : {s : Scope} {tree operand : Tree} {t : Term} → top tree ≡ Node.Not operand → Means d s operand t truth → Means d s tree (apply not_term t) truth
    joining : {s : Scope} {tree left right : Tree} {c : Connective} {t u : Term}
        → top tree ≡ Node.Join c left right → Means d s left t truth → Means d s right u truth → Means d s tree (joined c t u) truth
    -- both sides have one type
    equating : {s : Scope} {tree left right : Tree} {sign : Sign} {byte : ℕ} {t u : Term} {a : SimpleType}
        → top tree ≡ Node.Equal sign byte left right → Means d s left t a → Means d s right u a → Means d s tree (equated sign a t u) truth
    -- a connective in brackets is the function of its operands
    negation_sign : {s : Scope} {tree : Tree} → top tree ≡ Node.Negation → Means d s tree (negation_function (length s)) (arrow truth truth)
    connective_sign : {s : Scope} {tree : Tree} {c : Connective} → top tree ≡ Node.Connective c → Means d s tree (connective_function (length s) c) (arrow truth (arrow truth truth))

  -- a term of a type, applied to arguments from left to right
  pub data Applies (d : Declared) : Scope → Term → SimpleType → List Tree → Term → SimpleType → Type 0 where
    no_more : {s : Scope} {f : Term} {a : SimpleType} → Applies d s f a [] f a
    one_more : {s : Scope} {f x t : Term} {argument : Tree} {arguments : List Tree} {a b c e : SimpleType}
        → Means d s argument x b → applied a b ≡ Some c → Applies d s (apply f x) c arguments t e → Applies d s f a (argument ∷ arguments) t e

  -- a body under a binder: the first variable is the outermost
  pub data Binds (d : Declared) : Binder → Scope → List Variable → Tree → Term → SimpleType → Type 0 where
    body : {b : Binder} {s : Scope} {tree : Tree} {t : Term} {a : SimpleType} → Means d s tree t a → Binds d b s [] tree t a
    variable_of : {b : Binder} {s : Scope} {v : Variable} {vs : List Variable} {tree : Tree} {t : Term} {a c : SimpleType}
        → MeansType d v.ty a → Binds d b ((v.name, a) ∷ s) vs tree t c → IsBodyOf b c
        → Binds d b s (v ∷ vs) tree (bound b (outside s a) t) (bound_type b a c)
