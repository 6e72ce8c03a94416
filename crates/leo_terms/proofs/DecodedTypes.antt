-- A well typed term decodes to one of the same type.
use Rattle.std.proofs.Common.{ℕ, ◌+◌, ◌-◌, subst}
use Rattle.leo_q0.specs.Terms.{Term, HasType, of_variable, of_constant, of_identity, of_choice, of_apply, of_lambda, SimpleType, arrow}
use Rattle.leo_q0.proofs.Formulas.{HasType-true, HasType-all, HasType-and, HasType-imp, HasType-not, HasType-or, HasType-some}
use Rattle.leo_q0.specs.Connectives.{false_term}
use Rattle.leo_q0.proofs.WellTyped.{HasType-equation}
use Rattle.leo_terms.specs.Tree.{codomain, truth_type, Tree, variable, bound, symbol, app, lam, logic, absent, Connective, truth, falsity, negation, disjunction, conjunction, implication, equality, universal, existential, choice, connective_type, type_of}
use Rattle.leo_terms.specs.Typing.{IsPresentOf, TakesTrees, IsWellTyped}
use Rattle.leo_terms.specs.Decode.{named, connected, decoded}

false_typed : HasType false_term truth_type
false_typed = HasType-equation (of_lambda (named 0 truth_type) HasType-true) (of_lambda (named 0 truth_type) (of_variable (named 0 truth_type)))

typed_as : (a : SimpleType) (t : Tree) (s : Term) → HasType s ((type_of t)) → IsPresentOf a t → HasType s a
typed_as a t s h p = subst (λ (b : SimpleType). HasType s b) p.1 h

connected_typed : (c : Connective) (x y : Tree) (s t : Term) → TakesTrees c x y → HasType s ((type_of x)) → HasType t ((type_of y)) → HasType (connected c s t) ((connective_type c))
connected_typed truth x y s t h p q = HasType-true
connected_typed falsity x y s t h p q = false_typed
connected_typed negation x y s t h p q = of_apply HasType-not (typed_as truth_type x s p h.0)
connected_typed disjunction x y s t h p q = of_apply (of_apply HasType-or (typed_as truth_type x s p h.0)) (typed_as truth_type y t q h.1)
connected_typed conjunction x y s t h p q = of_apply (of_apply HasType-and (typed_as truth_type x s p h.0)) (typed_as truth_type y t q h.1)
connected_typed implication x y s t h p q = of_apply (of_apply HasType-imp (typed_as truth_type x s p h.0)) (typed_as truth_type y t q h.1)
connected_typed (equality a) x y s t h p q = of_apply (of_apply (of_identity a) (typed_as a x s p h.0)) (typed_as a y t q h.1)
connected_typed (universal a) x y s t h p q = of_apply (HasType-all a) (typed_as (arrow a truth_type) x s p h.0)
connected_typed (existential a) x y s t h p q = of_apply (HasType-some a) (typed_as (arrow a truth_type) x s p h.0)
connected_typed (choice a) x y s t h p q = of_apply (of_choice a) (typed_as (arrow a truth_type) x s p h.0)

pub decoded_typed : (t : Tree) (next : ℕ) → IsWellTyped t → HasType (decoded next t) ((type_of t))
decoded_typed (variable n a) next w = of_variable (named n a)
decoded_typed (bound i a) next w = of_variable (named (next - (i + 1)) a)
decoded_typed (symbol n a) next w = of_constant n a
decoded_typed (app f x) next w =
    let h : HasType (decoded next f) ((arrow (type_of x) (codomain (type_of f)))) = subst (λ (a : SimpleType). HasType (decoded next f) a) w.4 (decoded_typed f next w.0) in
    of_apply h (decoded_typed x next w.1)
decoded_typed (lam a t) next w = of_lambda (named next a) (decoded_typed t (next + 1) w.0)
decoded_typed (logic c x y) next w = connected_typed c x y (decoded next x) (decoded next y) w.2 (decoded_typed x next w.0) (decoded_typed y next w.1)
decoded_typed absent next w = HasType-true
