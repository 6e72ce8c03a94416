-- A tree has one meaning at most.
use Rattle.std.proofs.Common.{◌≡◌, ℕ, List, [], ◌∷◌, Option, Some, None, length, refl}
use Rattle.leo_syntax.specs.declared.tree.Binder.{Binder}
use Rattle.leo_syntax.specs.declared.tree.Connective.{Connective}
use Rattle.leo_syntax.specs.declared.tree.Sign.{Sign}
use Rattle.leo_syntax.specs.declared.tree.Variable.{Variable}
use Rattle.leo_syntax.specs.declared.tree.Tree.{Tree}
use Rattle.leo_syntax.specs.declared.tree.Node.TheOpen.{Node-F}
use Rattle.leo_elab.specs.declared.quantifiers.Quantifier.{Quantifier}
use Rattle.leo_q0.specs.Terms.{SimpleType, arrow, truth, Variable as Q0Variable, Term, variable, constant, apply}
use Rattle.leo_q0.specs.Connectives.{not_term, true_term, false_term}
use Rattle.leo_elab.specs.Problem.{Declared, Constant, Scope, named, outside, bound_to}
use Rattle.leo_elab.specs.Signs.{joined, equated, bound, bound_type, quantified, quantified_type, negation_function, connective_function, quantifier_of, applied, element}
use Rattle.leo_elab.specs.Meaning.{MeansType, Means, Applies, Binds, no_more, one_more, body, variable_of}
use Rattle.leo_elab.specs.Meaning as meaning
use Rattle.leo_elab.proofs.TypeLaws.{one-type}
use Rattle.leo_elab.proofs.ByTop.{MeansAt, means-at}
use Rattle.leo_elab.proofs.ByTop as at

-- what a recursive call says
abbrev pub Only : (d : Declared) (s : Scope) (tree : Tree) (t : Term) (a : SimpleType) → Type 0
Only d s tree t a = (u : Term) (b : SimpleType) → Means d s tree u b → (t ≡ u) × (a ≡ b)

abbrev pub OnlyApplied : (d : Declared) (s : Scope) (f : Term) (a : SimpleType) (arguments : List Tree) (t : Term) (b : SimpleType) → Type 0
OnlyApplied d s f a arguments t b = (u : Term) (c : SimpleType) → Applies d s f a arguments u c → (t ≡ u) × (b ≡ c)

abbrev pub OnlyBound : (d : Declared) (b : Binder) (s : Scope) (vs : List Variable) (tree : Tree) (t : Term) (a : SimpleType) → Type 0
OnlyBound d b s vs tree t a = (u : Term) (c : SimpleType) → Binds d b s vs tree u c → (t ≡ u) × (a ≡ c)

pub same-image : {A B : Type 0} (f : A → Option B) {x y : A} {a b : B} → x ≡ y → f x ≡ Some a → f y ≡ Some b → a ≡ b
same-image f e g h = cc

pub applies-along : {d : Declared} {s : Scope} {arguments : List Tree} {q r : Quantifier} {a b c : SimpleType} {p u t : Term} → q ≡ r → a ≡ b → p ≡ u
    → Applies d s (quantified r b u) (quantified_type r b) arguments t c → Applies d s (quantified q a p) (quantified_type q a) arguments t c
applies-along e f g r = rw (e, f, g) r

at-atom : {d : Declared} {s : Scope} {name : List ℕ} {k : Constant} {u : Term} {b : SimpleType} → named name d.constants ≡ Some k → MeansAt d s (Node-F.Atom name) u b
    → (constant k.number k.type ≡ u) × (k.type ≡ b)
at-atom e (at.atom f) = (cc, cc)

at-variable : {d : Declared} {s : Scope} {name : List ℕ} {v : Q0Variable} {u : Term} {b : SimpleType} → bound_to name s ≡ Some v → MeansAt d s (Node-F.Var name) u b
    → (variable v ≡ u) × (v.type ≡ b)
at-variable e (at.bound_variable f) = (cc, cc)

at-true : {d : Declared} {s : Scope} {u : Term} {b : SimpleType} → MeansAt d s Node-F.True u b → (true_term ≡ u) × (truth ≡ b)
at-true at.true_sign = (refl, refl)

at-false : {d : Declared} {s : Scope} {u : Term} {b : SimpleType} → MeansAt d s Node-F.False u b → (false_term ≡ u) × (truth ≡ b)
at-false at.false_sign = (refl, refl)

at-application : {d : Declared} {s : Scope} {head : Tree} {arguments : List Tree} {f t u : Term} {a b c : SimpleType} → quantifier_of head ≡ None → Only d s head f a → OnlyApplied d s f a arguments t b
    → MeansAt d s (Node-F.Apply head arguments) u c → (t ≡ u) × (b ≡ c)
at-application q i j (at.application p m r) = let e = i _ _ m in j _ _ (rw (e.0, e.1) r)
at-application q i j (at.quantification p m l r) = absurd cc

at-quantification : {d : Declared} {s : Scope} {head set : Tree} {arguments : List Tree} {q : Quantifier} {p t u : Term} {a b c e : SimpleType} → quantifier_of head ≡ Some q → Only d s set p c → element c ≡ Some a
    → OnlyApplied d s (quantified q a p) (quantified_type q a) arguments t b → MeansAt d s (Node-F.Apply head (set ∷ arguments)) u e → (t ≡ u) × (b ≡ e)
at-quantification q i l j (at.application p m r) = absurd cc
at-quantification q i l j (at.quantification p m k r) = let e = i _ _ m in j _ _ (applies-along (cc) (same-image element (e.1) l k) (e.0) r)

at-binding : {d : Declared} {s : Scope} {tree : Tree} {b : Binder} {vs : List Variable} {t u : Term} {a c : SimpleType} → OnlyBound d b s vs tree t a → MeansAt d s (Node-F.Bind b vs tree) u c → (t ≡ u) × (a ≡ c)
at-binding i (at.binding r) = i _ _ r

at-negation : {d : Declared} {s : Scope} {operand : Tree} {t u : Term} {b : SimpleType} → Only d s operand t truth → MeansAt d s (Node-F.Not operand) u b → (apply not_term t ≡ u) × (truth ≡ b)
at-negation i (at.negation m) = let p = i _ _ m in (rw (p.0) refl, refl)

at-joining : {d : Declared} {s : Scope} {left right : Tree} {c : Connective} {t u v : Term} {b : SimpleType} → Only d s left t truth → Only d s right u truth
    → MeansAt d s (Node-F.Join c left right) v b → (joined c t u ≡ v) × (truth ≡ b)
at-joining i j (at.joining m n) = let p = i _ _ m in let q = j _ _ n in (rw (p.0, q.0) refl, refl)

at-equating : {d : Declared} {s : Scope} {left right : Tree} {sign : Sign} {byte : ℕ} {t u v : Term} {a b : SimpleType} → Only d s left t a → Only d s right u a
    → MeansAt d s (Node-F.Equal sign byte left right) v b → (equated sign a t u ≡ v) × (truth ≡ b)
at-equating i j (at.equating m n) = let p = i _ _ m in let q = j _ _ n in (rw (p.1, p.0, q.0) refl, refl)

at-negation-sign : {d : Declared} {s : Scope} {u : Term} {b : SimpleType} → MeansAt d s Node-F.Negation u b → (negation_function (length s) ≡ u) × (arrow truth truth ≡ b)
at-negation-sign at.negation_sign = (refl, refl)

at-connective-sign : {d : Declared} {s : Scope} {c : Connective} {u : Term} {b : SimpleType} → MeansAt d s (Node-F.Connective c) u b
    → (connective_function (length s) c ≡ u) × (arrow truth (arrow truth truth) ≡ b)
at-connective-sign at.connective_sign = (refl, refl)

at-no-more : {d : Declared} {s : Scope} {f u : Term} {a b : SimpleType} → Applies d s f a [] u b → (f ≡ u) × (a ≡ b)
at-no-more no_more = (refl, refl)

at-one-more : {d : Declared} {s : Scope} {f x t u : Term} {argument : Tree} {arguments : List Tree} {a b c e z : SimpleType} → Only d s argument x b → applied a b ≡ Some c
    → OnlyApplied d s (apply f x) c arguments t e → Applies d s f a (argument ∷ arguments) u z → (t ≡ u) × (e ≡ z)
at-one-more {a = a} i k j (one_more m l r) = let e = i _ _ m in j _ _ (rw (e.0, same-image (applied a) (e.1) k l) r)

at-body : {d : Declared} {b : Binder} {s : Scope} {tree : Tree} {t u : Term} {a c : SimpleType} → Only d s tree t a → Binds d b s [] tree u c → (t ≡ u) × (a ≡ c)
at-body i (body m) = i _ _ m

at-variable-of : {d : Declared} {b : Binder} {s : Scope} {v : Variable} {vs : List Variable} {tree : Tree} {t u : Term} {a c z : SimpleType} → MeansType d v.ty a → OnlyBound d b ((v.name, a) ∷ s) vs tree t c
    → Binds d b s (v ∷ vs) tree u z → (bound b (outside s a) t ≡ u) × (bound_type b a c ≡ z)
at-variable-of k j (variable_of l r w) = let e = one-type k l in let p = j _ _ (rw e r) in (rw (e, p.0) refl, rw (e, p.1) refl)

mutual
  pub one-meaning : {d : Declared} {s : Scope} {tree : Tree} {t : Term} {a : SimpleType} → Means d s tree t a → Only d s tree t a
  one-meaning (meaning.atom e f) = λ u b n. at-atom f (means-at e n)
  one-meaning (meaning.bound_variable e f) = λ u b n. at-variable f (means-at e n)
  one-meaning (meaning.true_sign e) = λ u b n. at-true (means-at e n)
  one-meaning (meaning.false_sign e) = λ u b n. at-false (means-at e n)
  one-meaning (meaning.application e q m r) = λ u b n. at-application q (one-meaning m) (one-application r) (means-at e n)
  one-meaning (meaning.quantification e q m l r) = λ u b n. at-quantification q (one-meaning m) l (one-application r) (means-at e n)
  one-meaning (meaning.binding e r) = λ u b n. at-binding (one-binding r) (means-at e n)
  one-meaning (meaning.negation e m) = λ u b n. at-negation (one-meaning m) (means-at e n)
  one-meaning (meaning.joining e m k) = λ u b n. at-joining (one-meaning m) (one-meaning k) (means-at e n)
  one-meaning (meaning.equating e m k) = λ u b n. at-equating (one-meaning m) (one-meaning k) (means-at e n)
  one-meaning (meaning.negation_sign e) = λ u b n. at-negation-sign (means-at e n)
  one-meaning (meaning.connective_sign e) = λ u b n. at-connective-sign (means-at e n)

  pub one-application : {d : Declared} {s : Scope} {f t : Term} {arguments : List Tree} {a b : SimpleType} → Applies d s f a arguments t b → OnlyApplied d s f a arguments t b
  one-application no_more = λ u c n. at-no-more n
  one-application (one_more m k r) = λ u c n. at-one-more (one-meaning m) k (one-application r) n

  pub one-binding : {d : Declared} {b : Binder} {s : Scope} {vs : List Variable} {tree : Tree} {t : Term} {a : SimpleType} → Binds d b s vs tree t a → OnlyBound d b s vs tree t a
  one-binding (body m) = λ u c n. at-body (one-meaning m) n
  one-binding (variable_of k r w) = λ u c n. at-variable-of k (one-binding r) n
