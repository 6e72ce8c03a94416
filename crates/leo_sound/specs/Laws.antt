-- Laws of Q0 with choice on truth, cases, connectives, values and quantifiers, for every list of closed formulas as hypotheses.
use Rattle.std.specs.Prelude.{◌≡◌, Bool, List, ◌∷◌, ◌++◌, IsTrue, IsFalse}
use Rattle.std.specs.List.{Contains}
use Rattle.leo_q0.specs.Terms.{SimpleType, arrow, truth, Variable, Term, variable, choice, apply, lambda, HasType, IsFormula}
use Rattle.leo_q0.specs.Substitution.{is_free, is_free_for, replace}
use Rattle.leo_q0.specs.Connectives.{equation, apply_two, true_term, false_term, all_term, imp_term, not_term, some_term}
use Rattle.leo_q0.specs.Derivations.{Derives}
use Rattle.leo_q0.specs.Laws.{FromAll}
use Rattle.leo_sound.specs.Propositions.{Proposition, value, formula_of, disjunction}

-- T; what is derivable equals T, and what equals T is derivable
abbrev pub TruthHolds : Type 0
TruthHolds = FromAll (λ h. Derives h true_term)

abbrev pub DerivableEqualsTrue : Type 0
DerivableEqualsTrue = FromAll (λ h. (s : Term) → Derives h s → Derives h (equation truth s true_term))

abbrev pub EqualsTrueIsDerivable : Type 0
EqualsTrueIsDerivable = FromAll (λ h. (s : Term) → Derives h (equation truth s true_term) → Derives h s)

-- from a formula, its instance with a term that is free for the variable
abbrev pub InstancesFollow : Type 0
InstancesFollow = FromAll (λ h. (x : Variable) (s t : Term) → HasType t x.type → IsTrue (is_free_for t x s) →
    Derives h s → Derives h (replace x t s))

-- from a formula with T and with F for a variable, the formula
abbrev pub CasesSuffice : Type 0
CasesSuffice = FromAll (λ h. (x : Variable) (s : Term) → x.type ≡ truth → IsFormula s →
    Derives h (replace x true_term s) → Derives h (replace x false_term s) → Derives h s)

-- each tautology is derivable, whatever formulas its atoms stand for
abbrev pub TautologiesHold : Type 0
TautologiesHold = FromAll (λ h. (atoms : List Term) (p : Proposition) → ((s : Term) → Contains atoms s → IsFormula s) →
    ((values : List Bool) → IsTrue (value values p)) → Derives h (formula_of atoms p))

abbrev pub ModusPonens : Type 0
ModusPonens = FromAll (λ h. (s t : Term) → Derives h s → Derives h (apply_two imp_term s t) → Derives h t)

-- from a disjunction, the one with a weaker literal
abbrev pub WeakerLiteral : Type 0
WeakerLiteral = FromAll (λ h. (front back : List Term) (s t : Term) →
    Derives h (disjunction (front ++ s ∷ back)) → Derives h (apply_two imp_term s t) → Derives h (disjunction (front ++ t ∷ back)))

-- equal arguments give equal values, as one formula
abbrev pub EqualArguments : Type 0
EqualArguments = FromAll (λ h. (a b : SimpleType) (s t c : Term) → HasType s a → HasType t a → HasType c (arrow a b) →
    Derives h (apply_two imp_term (equation a s t) (equation b (apply c s) (apply c t))))

-- equal functions have equal values, as one formula
abbrev pub EqualFunctions : Type 0
EqualFunctions = FromAll (λ h. (a b : SimpleType) (f g s : Term) → HasType f (arrow a b) → HasType g (arrow a b) → HasType s a →
    Derives h (apply_two imp_term (equation (arrow a b) f g) (equation b (apply f s) (apply g s))))

-- functions that differ, differ where choice says
abbrev pub DifferentFunctions : Type 0
DifferentFunctions = FromAll (λ h. (x : Variable) (b : SimpleType) (f g : Term) →
    HasType f (arrow x.type b) → HasType g (arrow x.type b) → IsFalse (is_free x f) → IsFalse (is_free x g) →
    (let differ = lambda x (apply not_term (equation b (apply f (variable x)) (apply g (variable x)))) in
    let witness = apply (choice x.type) differ in
    Derives h (apply_two imp_term (apply not_term (equation (arrow x.type b) f g))
    (apply not_term (equation b (apply f witness) (apply g witness))))))

-- what holds of everything holds of each
abbrev pub AllGives : Type 0
AllGives = FromAll (λ h. (a : SimpleType) (p s : Term) → HasType p (arrow a truth) → HasType s a →
    Derives h (apply_two imp_term (apply (all_term a) p) (apply p s)))

-- what holds of nothing does not hold of this
abbrev pub NotSomeGives : Type 0
NotSomeGives = FromAll (λ h. (a : SimpleType) (p s : Term) → HasType p (arrow a truth) → HasType s a →
    Derives h (apply_two imp_term (apply not_term (apply (some_term a) p)) (apply not_term (apply p s))))

-- what holds of something holds of what choice gives
abbrev pub SomeGives : Type 0
SomeGives = FromAll (λ h. (a : SimpleType) (p : Term) → HasType p (arrow a truth) →
    Derives h (apply_two imp_term (apply (some_term a) p) (apply p (apply (choice a) p))))

-- what does not hold of everything fails where choice says
abbrev pub NotAllGives : Type 0
NotAllGives = FromAll (λ h. (x : Variable) (p : Term) → HasType p (arrow x.type truth) → IsFalse (is_free x p) →
    (let witness = apply (choice x.type) (lambda x (apply not_term (apply p (variable x)))) in
    Derives h (apply_two imp_term (apply not_term (apply (all_term x.type) p)) (apply not_term (apply p witness)))))
