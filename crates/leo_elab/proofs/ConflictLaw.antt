-- A tree that has a meaning has no offence.
use Rattle.std.proofs.Common.{◌≡◌, ◌≢◌, ℕ, List, [], ◌∷◌, Option, Some, None, sym}
use Rattle.leo_syntax.specs.declared.tree.Binder.{Binder}
use Rattle.leo_syntax.specs.declared.tree.Connective.{Connective}
use Rattle.leo_syntax.specs.declared.tree.Sign.{Sign}
use Rattle.leo_syntax.specs.declared.tree.Variable.{Variable}
use Rattle.leo_syntax.specs.declared.tree.Tree.{Tree}
use Rattle.leo_syntax.specs.declared.tree.Node.TheOpen.{Node-F}
use Rattle.leo_elab.specs.declared.quantifiers.Quantifier.{Quantifier}
use Rattle.leo_elab.specs.declared.refusal.ElabRefusal.{ElabRefusal}
use Rattle.leo_q0.specs.Terms.{SimpleType, truth, Variable as Q0Variable, Term}
use Rattle.leo_elab.specs.Problem.{Declared, Constant, Scope, named, bound_to}
use Rattle.leo_elab.specs.Signs.{IsBodyOf, quantified_type, quantifier_of, applied, element}
use Rattle.leo_elab.specs.Meaning.{MeansType, Means, Applies, Binds, no_more, one_more, body, variable_of}
use Rattle.leo_elab.specs.Meaning as meaning
use Rattle.leo_elab.specs.Offences.{Offends, OffendsAsFormula, OffendsInArguments, OffendsInBinding, inside, no_formula, in_argument, misfit, later, in_body, in_type, behind_variable, no_body}
use Rattle.leo_elab.proofs.TypeLaws.{one-type, no-offence}
use Rattle.leo_elab.proofs.MeaningLaw.{one-meaning, one-binding, same-image}
use Rattle.leo_elab.proofs.OffencesByTop.{OffendsAt, offends-at}
use Rattle.leo_elab.proofs.OffencesByTop as at

-- what a recursive call says
abbrev pub Sound : (d : Declared) (s : Scope) (tree : Tree) → Type 0
Sound d s tree = (e : ElabRefusal) → Offends d s tree e → ⊥

abbrev pub SoundArguments : (d : Declared) (s : Scope) (a : SimpleType) (arguments : List Tree) → Type 0
SoundArguments d s a arguments = (e : ElabRefusal) → OffendsInArguments d s a arguments e → ⊥

abbrev pub SoundBinding : (d : Declared) (b : Binder) (s : Scope) (vs : List Variable) (tree : Tree) → Type 0
SoundBinding d b s vs tree = (e : ElabRefusal) → OffendsInBinding d b s vs tree e → ⊥

pub no-image : {A B : Type 0} (f : A → Option B) {x y : A} {a : B} → x ≡ y → f x ≡ Some a → f y ≡ None → ⊥
no-image f e g h = cc

pub arguments-along : {d : Declared} {s : Scope} {arguments : List Tree} {q r : Quantifier} {a b : SimpleType} {e : ElabRefusal} → q ≡ r → a ≡ b
    → OffendsInArguments d s (quantified_type r b) arguments e → OffendsInArguments d s (quantified_type q a) arguments e
arguments-along f g o = rw (f, g) o

-- the same offence or meaning at an equal type
pub arguments-of : {d : Declared} {s : Scope} {arguments : List Tree} {a b : SimpleType} {e : ElabRefusal} → a ≡ b → OffendsInArguments d s b arguments e → OffendsInArguments d s a arguments e
arguments-of f o = rw f o

pub binding-of : {d : Declared} {b : Binder} {s : Scope} {name : List ℕ} {vs : List Variable} {tree : Tree} {a c : SimpleType} {e : ElabRefusal} → a ≡ c
    → OffendsInBinding d b ((name, c) ∷ s) vs tree e → OffendsInBinding d b ((name, a) ∷ s) vs tree e
binding-of f o = rw f o

pub binds-of : {d : Declared} {b : Binder} {s : Scope} {name : List ℕ} {vs : List Variable} {tree : Tree} {t : Term} {a c z : SimpleType} → a ≡ c
    → Binds d b ((name, c) ∷ s) vs tree t z → Binds d b ((name, a) ∷ s) vs tree t z
binds-of f r = rw f r

at-atom : {d : Declared} {s : Scope} {place : ℕ} {name : List ℕ} {k : Constant} {e : ElabRefusal} → named name d.constants ≡ Some k → OffendsAt d s place (Node-F.Atom name) e → ⊥
at-atom k (at.unknown_atom f g) = cc
at-atom k (at.type_as_term f g) = cc

at-variable : {d : Declared} {s : Scope} {place : ℕ} {name : List ℕ} {v : Q0Variable} {e : ElabRefusal} → bound_to name s ≡ Some v → OffendsAt d s place (Node-F.Var name) e → ⊥
at-variable k (at.free_variable f) = cc

at-true : {d : Declared} {s : Scope} {place : ℕ} {e : ElabRefusal} → OffendsAt d s place Node-F.True e → ⊥
at-true o = elim o [ ]

at-false : {d : Declared} {s : Scope} {place : ℕ} {e : ElabRefusal} → OffendsAt d s place Node-F.False e → ⊥
at-false o = elim o [ ]

at-negation-sign : {d : Declared} {s : Scope} {place : ℕ} {e : ElabRefusal} → OffendsAt d s place Node-F.Negation e → ⊥
at-negation-sign o = elim o [ ]

at-connective-sign : {d : Declared} {s : Scope} {place : ℕ} {c : Connective} {e : ElabRefusal} → OffendsAt d s place (Node-F.Connective c) e → ⊥
at-connective-sign o = elim o [ ]

at-application : {d : Declared} {s : Scope} {place : ℕ} {head : Tree} {arguments : List Tree} {f : Term} {a : SimpleType} {e : ElabRefusal} → quantifier_of head ≡ None → Means d s head f a → Sound d s head → SoundArguments d s a arguments
    → OffendsAt d s place (Node-F.Apply head arguments) e → ⊥
at-application q m i j (at.no_argument_applied p) = cc
at-application q m i j (at.in_head p o) = i _ o
at-application q m i j (at.in_arguments p n o) = let z = one-meaning m _ _ n in j _ (arguments-of (z.1) o)
at-application q m i j (at.in_set p o) = cc
at-application q m i j (at.no_set p n l) = cc
at-application q m i j (at.behind_set p n l o) = cc

at-quantification : {d : Declared} {s : Scope} {place : ℕ} {head set : Tree} {arguments : List Tree} {q : Quantifier} {p : Term} {a c : SimpleType} {e : ElabRefusal} → quantifier_of head ≡ Some q → Means d s set p c → element c ≡ Some a
    → Sound d s set → SoundArguments d s (quantified_type q a) arguments → OffendsAt d s place (Node-F.Apply head (set ∷ arguments)) e → ⊥
at-quantification q m k i j (at.in_head p o) = cc
at-quantification q m k i j (at.in_arguments p n o) = cc
at-quantification q m k i j (at.in_set p o) = i _ o
at-quantification q m k i j (at.no_set p n l) = let z = one-meaning m _ _ n in no-image element (z.1) k l
at-quantification q m k i j (at.behind_set p n l o) = let z = one-meaning m _ _ n in j _ (arguments-along (cc) (same-image element (z.1) k l) o)

at-binding : {d : Declared} {s : Scope} {place : ℕ} {tree : Tree} {b : Binder} {vs : List Variable} {e : ElabRefusal} → SoundBinding d b s vs tree → OffendsAt d s place (Node-F.Bind b vs tree) e → ⊥
at-binding i (at.in_binding o) = i _ o

-- where a formula must stand and one does
pub sound-formula : {d : Declared} {s : Scope} {tree : Tree} {t : Term} {e : ElabRefusal} → Means d s tree t truth → Sound d s tree → OffendsAsFormula d s tree e → ⊥
sound-formula m i (inside o) = i _ o
sound-formula m i (no_formula n w) = let z = one-meaning m _ _ n in w (sym (z.1))

at-negation : {d : Declared} {s : Scope} {place : ℕ} {operand : Tree} {t : Term} {e : ElabRefusal} → Means d s operand t truth → Sound d s operand → OffendsAt d s place (Node-F.Not operand) e → ⊥
at-negation m i (at.in_negation o) = sound-formula m i o

at-joining : {d : Declared} {s : Scope} {place : ℕ} {left right : Tree} {c : Connective} {t u : Term} {e : ElabRefusal} → Means d s left t truth → Sound d s left → Means d s right u truth → Sound d s right
    → OffendsAt d s place (Node-F.Join c left right) e → ⊥
at-joining m i n j (at.in_left o) = sound-formula m i o
at-joining m i n j (at.in_right k o) = sound-formula n j o

sides : {a b c : SimpleType} → a ≡ b → a ≡ c → b ≢ c → ⊥
sides p q w = w (cc)

at-equating : {d : Declared} {s : Scope} {place : ℕ} {left right : Tree} {sign : Sign} {byte : ℕ} {t u : Term} {a : SimpleType} {e : ElabRefusal} → Means d s left t a → Sound d s left → Means d s right u a → Sound d s right
    → OffendsAt d s place (Node-F.Equal sign byte left right) e → ⊥
at-equating m i n j (at.in_left_side o) = i _ o
at-equating m i n j (at.in_right_side k o) = j _ o
at-equating m i n j (at.sides_differ k l w) = let y = one-meaning m _ _ k in let z = one-meaning n _ _ l in sides (y.1) (z.1) w

pub at-no-more : {d : Declared} {s : Scope} {a : SimpleType} {e : ElabRefusal} → OffendsInArguments d s a [] e → ⊥
at-no-more o = elim o [ ]

at-one-more : {d : Declared} {s : Scope} {x : Term} {argument : Tree} {arguments : List Tree} {a b c : SimpleType} {e : ElabRefusal} → Means d s argument x b → applied a b ≡ Some c → Sound d s argument → SoundArguments d s c arguments
    → OffendsInArguments d s a (argument ∷ arguments) e → ⊥
at-one-more m k i j (in_argument o) = i _ o
at-one-more {a = a} m k i j (misfit n l) = let z = one-meaning m _ _ n in no-image (applied a) (z.1) k l
at-one-more {a = a} m k i j (later n l o) = let z = one-meaning m _ _ n in j _ (arguments-of (same-image (applied a) (z.1) k l) o)

at-body : {d : Declared} {b : Binder} {s : Scope} {tree : Tree} {e : ElabRefusal} → Sound d s tree → OffendsInBinding d b s [] tree e → ⊥
at-body i (in_body o) = i _ o

body-along : (b : Binder) {c z : SimpleType} → c ≡ z → IsBodyOf b c → IsBodyOf b z
body-along b e w = rw (← e) w

at-variable-of : {d : Declared} {b : Binder} {s : Scope} {v : Variable} {vs : List Variable} {tree : Tree} {t : Term} {a c : SimpleType} {e : ElabRefusal} → MeansType d v.ty a → Binds d b ((v.name, a) ∷ s) vs tree t c → IsBodyOf b c
    → SoundBinding d b ((v.name, a) ∷ s) vs tree → OffendsInBinding d b s (v ∷ vs) tree e → ⊥
at-variable-of k r w j (in_type o) = no-offence k o
at-variable-of k r w j (behind_variable l o) = j _ (binding-of (one-type k l) o)
at-variable-of {b = b} k r w j (no_body l n h) = let z = one-binding r _ _ (binds-of (one-type k l) n) in h (body-along b (z.1) w)

mutual
  pub sound : {d : Declared} {s : Scope} {tree : Tree} {t : Term} {a : SimpleType} → Means d s tree t a → Sound d s tree
  sound (meaning.atom h k) = λ e o. at-atom k (offends-at h o)
  sound (meaning.bound_variable h k) = λ e o. at-variable k (offends-at h o)
  sound (meaning.true_sign h) = λ e o. at-true (offends-at h o)
  sound (meaning.false_sign h) = λ e o. at-false (offends-at h o)
  sound (meaning.application h q m r) = λ e o. at-application q m (sound m) (sound-application r) (offends-at h o)
  sound (meaning.quantification h q m k r) = λ e o. at-quantification q m k (sound m) (sound-application r) (offends-at h o)
  sound (meaning.binding h r) = λ e o. at-binding (sound-binding r) (offends-at h o)
  sound (meaning.negation h m) = λ e o. at-negation m (sound m) (offends-at h o)
  sound (meaning.joining h m n) = λ e o. at-joining m (sound m) n (sound n) (offends-at h o)
  sound (meaning.equating h m n) = λ e o. at-equating m (sound m) n (sound n) (offends-at h o)
  sound (meaning.negation_sign h) = λ e o. at-negation-sign (offends-at h o)
  sound (meaning.connective_sign h) = λ e o. at-connective-sign (offends-at h o)

  pub sound-application : {d : Declared} {s : Scope} {f t : Term} {arguments : List Tree} {a b : SimpleType} → Applies d s f a arguments t b → SoundArguments d s a arguments
  sound-application no_more = λ e o. at-no-more o
  sound-application (one_more m k r) = λ e o. at-one-more m k (sound m) (sound-application r) o

  pub sound-binding : {d : Declared} {b : Binder} {s : Scope} {vs : List Variable} {tree : Tree} {t : Term} {a : SimpleType} → Binds d b s vs tree t a → SoundBinding d b s vs tree
  sound-binding (body m) = λ e o. at-body (sound m) o
  sound-binding (variable_of k r w) = λ e o. at-variable-of k r w (sound-binding r) o
