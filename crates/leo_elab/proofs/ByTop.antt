-- What a tree means, by what stands at its top.
use Rattle.std.proofs.Common.{◌≡◌, ℕ, List, ◌∷◌, Some, None, length}
use Rattle.leo_syntax.specs.declared.tree.Binder.{Binder}
use Rattle.leo_syntax.specs.declared.tree.Connective.{Connective}
use Rattle.leo_syntax.specs.declared.tree.Sign.{Sign}
use Rattle.leo_syntax.specs.declared.tree.Variable.{Variable}
use Rattle.leo_syntax.specs.declared.tree.Tree.{Tree}
use Rattle.leo_syntax.specs.declared.tree.Node.{Node}
use Rattle.leo_syntax.specs.declared.tree.Node.TheOpen.{Node-F}
use Rattle.leo_elab.specs.declared.quantifiers.Quantifier.{Quantifier}
use Rattle.leo_q0.specs.Terms.{SimpleType, arrow, truth, Variable as Q0Variable, Term, variable, constant, apply}
use Rattle.leo_q0.specs.Connectives.{not_term, true_term, false_term}
use Rattle.leo_elab.specs.Problem.{Declared, Constant, Scope, named, bound_to}
use Rattle.leo_elab.specs.Signs.{joined, equated, quantified, quantified_type, negation_function, connective_function, top, quantifier_of, element}
use Rattle.leo_elab.specs.Meaning.{Means, Applies, Binds}
use Rattle.leo_elab.specs.Meaning as meaning

pub data MeansAt (d : Declared) (s : Scope) : Node-F Node Tree → Term → SimpleType → Type 0 where
  atom : {name : List ℕ} {k : Constant} → named name d.constants ≡ Some k → MeansAt d s (Node-F.Atom name) (constant k.number k.type) k.type
  bound_variable : {name : List ℕ} {v : Q0Variable} → bound_to name s ≡ Some v → MeansAt d s (Node-F.Var name) (variable v) v.type
  true_sign : MeansAt d s Node-F.True true_term truth
  false_sign : MeansAt d s Node-F.False false_term truth
  application : {head : Tree} {arguments : List Tree} {f t : Term} {a b : SimpleType}
      → quantifier_of head ≡ None → Means d s head f a → Applies d s f a arguments t b → MeansAt d s (Node-F.Apply head arguments) t b
  quantification : {head set : Tree} {arguments : List Tree} {q : Quantifier} {p t : Term} {a b c : SimpleType}
      → quantifier_of head ≡ Some q → Means d s set p c → element c ≡ Some a
      → Applies d s (quantified q a p) (quantified_type q a) arguments t b → MeansAt d s (Node-F.Apply head (set ∷ arguments)) t b
  binding : {body : Tree} {b : Binder} {vs : List Variable} {t : Term} {a : SimpleType} → Binds d b s vs body t a → MeansAt d s (Node-F.Bind b vs body) t a
  negation : {operand : Tree} {t : Term} → Means d s operand t truth → MeansAt d s (Node-F.Not operand) (apply not_term t) truth
  joining : {left right : Tree} {c : Connective} {t u : Term} → Means d s left t truth → Means d s right u truth → MeansAt d s (Node-F.Join c left right) (joined c t u) truth
  equating : {left right : Tree} {sign : Sign} {byte : ℕ} {t u : Term} {a : SimpleType}
      → Means d s left t a → Means d s right u a → MeansAt d s (Node-F.Equal sign byte left right) (equated sign a t u) truth
  negation_sign : MeansAt d s Node-F.Negation (negation_function (length s)) (arrow truth truth)
  connective_sign : {c : Connective} → MeansAt d s (Node-F.Connective c) (connective_function (length s) c) (arrow truth (arrow truth truth))

-- a meaning, by the top of the tree
pub means-at : {d : Declared} {s : Scope} {tree : Tree} {n : Node-F Node Tree} {t : Term} {a : SimpleType} → top tree ≡ n → Means d s tree t a → MeansAt d s n t a
means-at h (meaning.atom e f) = rw (← h, e) (atom f)
means-at h (meaning.bound_variable e f) = rw (← h, e) (bound_variable f)
means-at h (meaning.true_sign e) = rw (← h, e) true_sign
means-at h (meaning.false_sign e) = rw (← h, e) false_sign
means-at h (meaning.application e q m r) = rw (← h, e) (application q m r)
means-at h (meaning.quantification e q m l r) = rw (← h, e) (quantification q m l r)
means-at h (meaning.binding e r) = rw (← h, e) (binding r)
means-at h (meaning.negation e m) = rw (← h, e) (negation m)
means-at h (meaning.joining e m n) = rw (← h, e) (joining m n)
means-at h (meaning.equating e m n) = rw (← h, e) (equating m n)
means-at h (meaning.negation_sign e) = rw (← h, e) negation_sign
means-at h (meaning.connective_sign e) = rw (← h, e) connective_sign
