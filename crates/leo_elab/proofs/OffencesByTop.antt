-- What is wrong in a tree, by what stands at its top.
use Rattle.std.proofs.Common.{◌≡◌, ◌≢◌, ℕ, List, [], ◌∷◌, Some, None}
use Rattle.leo_syntax.specs.declared.tree.Binder.{Binder}
use Rattle.leo_syntax.specs.declared.tree.Connective.{Connective}
use Rattle.leo_syntax.specs.declared.tree.Sign.{Sign}
use Rattle.leo_syntax.specs.declared.tree.Variable.{Variable}
use Rattle.leo_syntax.specs.declared.tree.Tree.{Tree}
use Rattle.leo_syntax.specs.declared.tree.Node.{Node}
use Rattle.leo_syntax.specs.declared.tree.Node.TheOpen.{Node-F}
use Rattle.leo_elab.specs.declared.quantifiers.Quantifier.{Quantifier}
use Rattle.leo_elab.specs.declared.refusal.ElabRefusal.{ElabRefusal}
use Rattle.leo_elab.specs.declared.refusal.ElabRefusal.TheVariants.{Unknown, WrongType, Free}
use Rattle.leo_q0.specs.Terms.{SimpleType, truth, Term}
use Rattle.leo_elab.specs.Problem.{Declared, Scope, named, bound_to}
use Rattle.leo_elab.specs.Signs.{quantified_type, top, quantifier_in, quantifier_of, element}
use Rattle.leo_elab.specs.Meaning.{Means}
use Rattle.leo_elab.specs.Offences.{Offends, OffendsAsFormula, OffendsInArguments, OffendsInBinding}
use Rattle.leo_elab.specs.Offences as offence

pub data OffendsAt (d : Declared) (s : Scope) (place : ℕ) : Node-F Node Tree → ElabRefusal → Type 0 where
  unknown_atom : {name : List ℕ} → named name d.constants ≡ None → named name d.types ≡ None → OffendsAt d s place (Node-F.Atom name) (Unknown place)
  type_as_term : {name : List ℕ} {a : SimpleType} → named name d.constants ≡ None → named name d.types ≡ Some a → OffendsAt d s place (Node-F.Atom name) (WrongType place)
  free_variable : {name : List ℕ} → bound_to name s ≡ None → OffendsAt d s place (Node-F.Var name) (Free place)
  pi_alone : OffendsAt d s place Node-F.Pi (WrongType place)
  sigma_alone : OffendsAt d s place Node-F.Sigma (WrongType place)
  choice_alone : OffendsAt d s place Node-F.Choice (WrongType place)
  no_argument_applied : {head : Tree} {q : Quantifier} → quantifier_of head ≡ Some q → OffendsAt d s place (Node-F.Apply head []) (WrongType head.byte)
  in_head : {head : Tree} {arguments : List Tree} {e : ElabRefusal} → quantifier_of head ≡ None → Offends d s head e → OffendsAt d s place (Node-F.Apply head arguments) e
  in_arguments : {head : Tree} {arguments : List Tree} {f : Term} {a : SimpleType} {e : ElabRefusal}
      → quantifier_of head ≡ None → Means d s head f a → OffendsInArguments d s a arguments e → OffendsAt d s place (Node-F.Apply head arguments) e
  in_set : {head set : Tree} {arguments : List Tree} {q : Quantifier} {e : ElabRefusal}
      → quantifier_of head ≡ Some q → Offends d s set e → OffendsAt d s place (Node-F.Apply head (set ∷ arguments)) e
  no_set : {head set : Tree} {arguments : List Tree} {q : Quantifier} {p : Term} {c : SimpleType}
      → quantifier_of head ≡ Some q → Means d s set p c → element c ≡ None → OffendsAt d s place (Node-F.Apply head (set ∷ arguments)) (WrongType set.byte)
  behind_set : {head set : Tree} {arguments : List Tree} {q : Quantifier} {p : Term} {a c : SimpleType} {e : ElabRefusal}
      → quantifier_of head ≡ Some q → Means d s set p c → element c ≡ Some a → OffendsInArguments d s (quantified_type q a) arguments e → OffendsAt d s place (Node-F.Apply head (set ∷ arguments)) e
  in_binding : {body : Tree} {b : Binder} {vs : List Variable} {e : ElabRefusal} → OffendsInBinding d b s vs body e → OffendsAt d s place (Node-F.Bind b vs body) e
  in_negation : {operand : Tree} {e : ElabRefusal} → OffendsAsFormula d s operand e → OffendsAt d s place (Node-F.Not operand) e
  in_left : {left right : Tree} {c : Connective} {e : ElabRefusal} → OffendsAsFormula d s left e → OffendsAt d s place (Node-F.Join c left right) e
  in_right : {left right : Tree} {c : Connective} {t : Term} {e : ElabRefusal} → Means d s left t truth → OffendsAsFormula d s right e → OffendsAt d s place (Node-F.Join c left right) e
  in_left_side : {left right : Tree} {sign : Sign} {byte : ℕ} {e : ElabRefusal} → Offends d s left e → OffendsAt d s place (Node-F.Equal sign byte left right) e
  in_right_side : {left right : Tree} {sign : Sign} {byte : ℕ} {t : Term} {a : SimpleType} {e : ElabRefusal}
      → Means d s left t a → Offends d s right e → OffendsAt d s place (Node-F.Equal sign byte left right) e
  sides_differ : {left right : Tree} {sign : Sign} {byte : ℕ} {t u : Term} {a b : SimpleType}
      → Means d s left t a → Means d s right u b → a ≢ b → OffendsAt d s place (Node-F.Equal sign byte left right) (WrongType byte)

-- a quantifier alone
alone : {d : Declared} {s : Scope} {place : ℕ} {q : Quantifier} (n : Node-F Node Tree) → quantifier_in n ≡ Some q → OffendsAt d s place n (WrongType place)
alone Node-F.Pi e = pi_alone
alone Node-F.Sigma e = sigma_alone
alone Node-F.Choice e = choice_alone
alone n e = absurd cc

-- an offence, by the top of the tree
pub offends-at : {d : Declared} {s : Scope} {tree : Tree} {n : Node-F Node Tree} {e : ElabRefusal} → top tree ≡ n → Offends d s tree e → OffendsAt d s tree.byte n e
offends-at h (offence.unknown_atom e f g) = rw (← h, e) (unknown_atom f g)
offends-at h (offence.type_as_term e f g) = rw (← h, e) (type_as_term f g)
offends-at h (offence.free_variable e f) = rw (← h, e) (free_variable f)
offends-at h (offence.no_argument q) = rw (← h) (alone _ q)
offends-at h (offence.no_argument_applied e q) = rw (← h, e) (no_argument_applied q)
offends-at h (offence.in_head e q o) = rw (← h, e) (in_head q o)
offends-at h (offence.in_arguments e q m o) = rw (← h, e) (in_arguments q m o)
offends-at h (offence.in_set e q o) = rw (← h, e) (in_set q o)
offends-at h (offence.no_set e q m l) = rw (← h, e) (no_set q m l)
offends-at h (offence.behind_set e q m l o) = rw (← h, e) (behind_set q m l o)
offends-at h (offence.in_binding e o) = rw (← h, e) (in_binding o)
offends-at h (offence.in_negation e o) = rw (← h, e) (in_negation o)
offends-at h (offence.in_left e o) = rw (← h, e) (in_left o)
offends-at h (offence.in_right e m o) = rw (← h, e) (in_right m o)
offends-at h (offence.in_left_side e o) = rw (← h, e) (in_left_side o)
offends-at h (offence.in_right_side e m o) = rw (← h, e) (in_right_side m o)
offends-at h (offence.sides_differ e m n w) = rw (← h, e) (sides_differ m n w)
