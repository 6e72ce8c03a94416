-- Laws of Q0 on equality, lambda, beta and eta, for every list of closed formulas as hypotheses.
use Rattle.std.specs.Prelude.{◌≡◌, List, IsTrue, IsFalse}
use Rattle.leo_q0.specs.Terms.{SimpleType, arrow, Variable, Term, variable, apply, lambda, HasType, IsFormula}
use Rattle.leo_q0.specs.Substitution.{is_free, is_free_for, replace}
use Rattle.leo_q0.specs.Shapes.{AreSameUpToNames}
use Rattle.leo_q0.specs.Connectives.{equation}
use Rattle.leo_q0.specs.Derivations.{Derives, AreHypotheses}

-- a law holds from all lists of hypotheses
abbrev pub FromAll : (List Term → Type 0) → Type 0
FromAll law = (hypotheses : List Term) → AreHypotheses hypotheses → law hypotheses

-- each term equals itself
abbrev pub EqualityIsReflexive : Type 0
EqualityIsReflexive = FromAll (λ h. (a : SimpleType) (s : Term) → HasType s a → Derives h (equation a s s))

abbrev pub EqualityIsSymmetric : Type 0
EqualityIsSymmetric = FromAll (λ h. (a : SimpleType) (s t : Term) → Derives h (equation a s t) → Derives h (equation a t s))

abbrev pub EqualityIsTransitive : Type 0
EqualityIsTransitive = FromAll (λ h. (a : SimpleType) (s t u : Term) →
    Derives h (equation a s t) → Derives h (equation a t u) → Derives h (equation a s u))

-- equal functions of equal arguments are equal
abbrev pub EqualsApply : Type 0
EqualsApply = FromAll (λ h. (a b : SimpleType) (f g s t : Term) →
    Derives h (equation (arrow a b) f g) → Derives h (equation a s t) → Derives h (equation b (apply f s) (apply g t)))

-- equal bodies give equal lambdas
abbrev pub EqualBodies : Type 0
EqualBodies = FromAll (λ h. (x : Variable) (b : SimpleType) (s t : Term) →
    Derives h (equation b s t) → Derives h (equation (arrow x.type b) (lambda x s) (lambda x t)))

-- a lambda equals its copy with another bound variable, not free in it and free for the old one in the body
abbrev pub LambdaRenames : Type 0
LambdaRenames = FromAll (λ h. (x y : Variable) (b : SimpleType) (s : Term) → x.type ≡ y.type → HasType s b →
    IsFalse (is_free y (lambda x s)) → IsTrue (is_free_for (variable y) x s) →
    Derives h (equation (arrow x.type b) (lambda x s) (lambda y (replace x (variable y) s))))

-- terms that differ in bound names alone are equal
abbrev pub NamesDoNotMatter : Type 0
NamesDoNotMatter = FromAll (λ h. (a : SimpleType) (s t : Term) → HasType s a → HasType t a → AreSameUpToNames s t →
    Derives h (equation a s t))

-- a beta step, after bound variables were renamed where it needs that
abbrev pub BetaSteps : Type 0
BetaSteps = FromAll (λ h. (x : Variable) (b : SimpleType) (s renamed t : Term) → HasType s b → HasType renamed b → HasType t x.type →
    AreSameUpToNames s renamed → IsTrue (is_free_for t x renamed) →
    Derives h (equation b (apply (lambda x s) t) (replace x t renamed)))

-- such a renamed copy is always there
abbrev pub CopiesExist : Type 0
CopiesExist = (x : Variable) (b : SimpleType) (s t : Term) → HasType s b →
    (copy : Term) × HasType copy b × AreSameUpToNames s copy × IsTrue (is_free_for t x copy)

-- eta: a function equals the lambda that applies it
abbrev pub EtaHolds : Type 0
EtaHolds = FromAll (λ h. (x : Variable) (b : SimpleType) (s : Term) → HasType s (arrow x.type b) → IsFalse (is_free x s) →
    Derives h (equation (arrow x.type b) (lambda x (apply s (variable x))) s))

-- what is derivable is a formula
abbrev pub DerivableIsFormula : Type 0
DerivableIsFormula = FromAll (λ h. (s : Term) → Derives h s → IsFormula s)
