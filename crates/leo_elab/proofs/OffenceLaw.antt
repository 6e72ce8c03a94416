-- A tree has one first offence at most.
use Rattle.std.proofs.Common.{◌≡◌, ℕ, List, [], ◌∷◌, Some, None, refl, sym}
use Rattle.leo_syntax.specs.declared.tree.Binder.{Binder}
use Rattle.leo_syntax.specs.declared.tree.Connective.{Connective}
use Rattle.leo_syntax.specs.declared.tree.Sign.{Sign}
use Rattle.leo_syntax.specs.declared.tree.Variable.{Variable}
use Rattle.leo_syntax.specs.declared.tree.Tree.{Tree}
use Rattle.leo_syntax.specs.declared.tree.Node.{Node}
use Rattle.leo_syntax.specs.declared.tree.Node.TheOpen.{Node-F}
use Rattle.leo_elab.specs.declared.quantifiers.Quantifier.{Quantifier}
use Rattle.leo_elab.specs.declared.refusal.ElabRefusal.{ElabRefusal}
use Rattle.leo_elab.specs.declared.refusal.ElabRefusal.TheVariants.{Unknown, WrongType, Free}
use Rattle.leo_q0.specs.Terms.{SimpleType, truth, Term}
use Rattle.leo_elab.specs.Problem.{Declared, Scope, named}
use Rattle.leo_elab.specs.Signs.{quantified_type, quantifier_in, quantifier_of, applied, element}
use Rattle.leo_elab.specs.Meaning.{MeansType, Means, Binds}
use Rattle.leo_elab.specs.Offences.{OffendsInType, Offends, OffendsAsFormula, OffendsInArguments, OffendsInBinding, inside, no_formula, in_argument, misfit, later, in_body, in_type, behind_variable, no_body}
use Rattle.leo_elab.specs.Offences as offence
use Rattle.leo_elab.proofs.TypeLaws.{one-type, no-offence, one-offence}
use Rattle.leo_elab.proofs.MeaningLaw.{one-meaning, same-image}
use Rattle.leo_elab.proofs.ConflictLaw.{sound, sound-formula, sound-binding, no-image, arguments-of, arguments-along, binding-of, binds-of}
use Rattle.leo_elab.proofs.OffencesByTop.{OffendsAt, offends-at}
use Rattle.leo_elab.proofs.OffencesByTop as at

-- what a recursive call says
abbrev pub First : (d : Declared) (s : Scope) (tree : Tree) (e : ElabRefusal) → Type 0
First d s tree e = (f : ElabRefusal) → Offends d s tree f → e ≡ f

abbrev pub FirstAsFormula : (d : Declared) (s : Scope) (tree : Tree) (e : ElabRefusal) → Type 0
FirstAsFormula d s tree e = (f : ElabRefusal) → OffendsAsFormula d s tree f → e ≡ f

abbrev pub FirstInArguments : (d : Declared) (s : Scope) (a : SimpleType) (arguments : List Tree) (e : ElabRefusal) → Type 0
FirstInArguments d s a arguments e = (f : ElabRefusal) → OffendsInArguments d s a arguments f → e ≡ f

abbrev pub FirstInBinding : (d : Declared) (b : Binder) (s : Scope) (vs : List Variable) (tree : Tree) (e : ElabRefusal) → Type 0
FirstInBinding d b s vs tree e = (f : ElabRefusal) → OffendsInBinding d b s vs tree f → e ≡ f

at-unknown : {d : Declared} {s : Scope} {place : ℕ} {name : List ℕ} {f : ElabRefusal} → named name d.types ≡ None → OffendsAt d s place (Node-F.Atom name) f → Unknown place ≡ f
at-unknown k (at.unknown_atom g h) = refl
at-unknown k (at.type_as_term g h) = absurd cc

at-type : {d : Declared} {s : Scope} {place : ℕ} {name : List ℕ} {a : SimpleType} {f : ElabRefusal} → named name d.types ≡ Some a → OffendsAt d s place (Node-F.Atom name) f → WrongType place ≡ f
at-type k (at.unknown_atom g h) = absurd cc
at-type k (at.type_as_term g h) = refl

at-free : {d : Declared} {s : Scope} {place : ℕ} {name : List ℕ} {f : ElabRefusal} → OffendsAt d s place (Node-F.Var name) f → Free place ≡ f
at-free (at.free_variable g) = refl

at-quantifier : {d : Declared} {s : Scope} {place : ℕ} {q : Quantifier} {f : ElabRefusal} (n : Node-F Node Tree) → quantifier_in n ≡ Some q → OffendsAt d s place n f → WrongType place ≡ f
at-quantifier Node-F.Pi k at.pi_alone = refl
at-quantifier Node-F.Sigma k at.sigma_alone = refl
at-quantifier Node-F.Choice k at.choice_alone = refl
at-quantifier n k o = absurd cc

at-nothing-applied : {d : Declared} {s : Scope} {place : ℕ} {head : Tree} {q : Quantifier} {f : ElabRefusal} → quantifier_of head ≡ Some q → OffendsAt d s place (Node-F.Apply head []) f → WrongType head.byte ≡ f
at-nothing-applied k (at.no_argument_applied q) = refl
at-nothing-applied k (at.in_head q o) = absurd cc
at-nothing-applied k (at.in_arguments q m o) = absurd cc

at-head : {d : Declared} {s : Scope} {place : ℕ} {head : Tree} {arguments : List Tree} {e f : ElabRefusal} → quantifier_of head ≡ None → Offends d s head e → First d s head e
    → OffendsAt d s place (Node-F.Apply head arguments) f → e ≡ f
at-head k w i (at.no_argument_applied q) = absurd cc
at-head k w i (at.in_head q o) = i _ o
at-head k w i (at.in_arguments q m o) = absurd (sound m _ w)
at-head k w i (at.in_set q o) = absurd cc
at-head k w i (at.no_set q m l) = absurd cc
at-head k w i (at.behind_set q m l o) = absurd cc

at-arguments : {d : Declared} {s : Scope} {place : ℕ} {head : Tree} {arguments : List Tree} {t : Term} {a : SimpleType} {e f : ElabRefusal} → quantifier_of head ≡ None → Means d s head t a → FirstInArguments d s a arguments e
    → OffendsAt d s place (Node-F.Apply head arguments) f → e ≡ f
at-arguments k n i (at.no_argument_applied q) = absurd cc
at-arguments k n i (at.in_head q o) = absurd (sound n _ o)
at-arguments k n i (at.in_arguments q m o) = let z = one-meaning n _ _ m in i _ (arguments-of (z.1) o)
at-arguments k n i (at.in_set q o) = absurd cc
at-arguments k n i (at.no_set q m l) = absurd cc
at-arguments k n i (at.behind_set q m l o) = absurd cc

at-set : {d : Declared} {s : Scope} {place : ℕ} {head set : Tree} {arguments : List Tree} {q : Quantifier} {e f : ElabRefusal} → quantifier_of head ≡ Some q → Offends d s set e → First d s set e
    → OffendsAt d s place (Node-F.Apply head (set ∷ arguments)) f → e ≡ f
at-set k w i (at.in_head q o) = absurd cc
at-set k w i (at.in_arguments q m o) = absurd cc
at-set k w i (at.in_set q o) = i _ o
at-set k w i (at.no_set q m l) = absurd (sound m _ w)
at-set k w i (at.behind_set q m l o) = absurd (sound m _ w)

at-no-set : {d : Declared} {s : Scope} {place : ℕ} {head set : Tree} {arguments : List Tree} {q : Quantifier} {p : Term} {c : SimpleType} {f : ElabRefusal} → quantifier_of head ≡ Some q → Means d s set p c → element c ≡ None
    → OffendsAt d s place (Node-F.Apply head (set ∷ arguments)) f → WrongType set.byte ≡ f
at-no-set k n g (at.in_head q o) = absurd cc
at-no-set k n g (at.in_arguments q m o) = absurd cc
at-no-set k n g (at.in_set q o) = absurd (sound n _ o)
at-no-set k n g (at.no_set q m l) = refl
at-no-set k n g (at.behind_set q m l o) = let z = one-meaning n _ _ m in absurd (no-image element (sym (z.1)) l g)

at-behind-set : {d : Declared} {s : Scope} {place : ℕ} {head set : Tree} {arguments : List Tree} {q : Quantifier} {p : Term} {a c : SimpleType} {e f : ElabRefusal} → quantifier_of head ≡ Some q → Means d s set p c → element c ≡ Some a
    → FirstInArguments d s (quantified_type q a) arguments e → OffendsAt d s place (Node-F.Apply head (set ∷ arguments)) f → e ≡ f
at-behind-set k n g i (at.in_head q o) = absurd cc
at-behind-set k n g i (at.in_arguments q m o) = absurd cc
at-behind-set k n g i (at.in_set q o) = absurd (sound n _ o)
at-behind-set k n g i (at.no_set q m l) = let z = one-meaning n _ _ m in absurd (no-image element (z.1) g l)
at-behind-set k n g i (at.behind_set q m l o) = let z = one-meaning n _ _ m in i _ (arguments-along (cc) (same-image element (z.1) g l) o)

at-binding : {d : Declared} {s : Scope} {place : ℕ} {tree : Tree} {b : Binder} {vs : List Variable} {e f : ElabRefusal} → FirstInBinding d b s vs tree e → OffendsAt d s place (Node-F.Bind b vs tree) f → e ≡ f
at-binding i (at.in_binding o) = i _ o

at-negation : {d : Declared} {s : Scope} {place : ℕ} {operand : Tree} {e f : ElabRefusal} → FirstAsFormula d s operand e → OffendsAt d s place (Node-F.Not operand) f → e ≡ f
at-negation i (at.in_negation o) = i _ o

at-left : {d : Declared} {s : Scope} {place : ℕ} {left right : Tree} {c : Connective} {e f : ElabRefusal} → OffendsAsFormula d s left e → FirstAsFormula d s left e → OffendsAt d s place (Node-F.Join c left right) f → e ≡ f
at-left w i (at.in_left o) = i _ o
at-left w i (at.in_right m o) = absurd (sound-formula m (sound m) w)

at-right : {d : Declared} {s : Scope} {place : ℕ} {left right : Tree} {c : Connective} {t : Term} {e f : ElabRefusal} → Means d s left t truth → FirstAsFormula d s right e → OffendsAt d s place (Node-F.Join c left right) f → e ≡ f
at-right n i (at.in_left o) = absurd (sound-formula n (sound n) o)
at-right n i (at.in_right m o) = i _ o

at-left-side : {d : Declared} {s : Scope} {place : ℕ} {left right : Tree} {sign : Sign} {byte : ℕ} {e f : ElabRefusal} → Offends d s left e → First d s left e
    → OffendsAt d s place (Node-F.Equal sign byte left right) f → e ≡ f
at-left-side w i (at.in_left_side o) = i _ o
at-left-side w i (at.in_right_side m o) = absurd (sound m _ w)
at-left-side w i (at.sides_differ m n h) = absurd (sound m _ w)

at-right-side : {d : Declared} {s : Scope} {place : ℕ} {left right : Tree} {sign : Sign} {byte : ℕ} {t : Term} {a : SimpleType} {e f : ElabRefusal} → Means d s left t a → Offends d s right e → First d s right e
    → OffendsAt d s place (Node-F.Equal sign byte left right) f → e ≡ f
at-right-side k w i (at.in_left_side o) = absurd (sound k _ o)
at-right-side k w i (at.in_right_side m o) = i _ o
at-right-side k w i (at.sides_differ m n h) = absurd (sound n _ w)

at-sides : {d : Declared} {s : Scope} {place : ℕ} {left right : Tree} {sign : Sign} {byte : ℕ} {t u : Term} {a b : SimpleType} {f : ElabRefusal} → Means d s left t a → Means d s right u b
    → OffendsAt d s place (Node-F.Equal sign byte left right) f → WrongType byte ≡ f
at-sides k l (at.in_left_side o) = absurd (sound k _ o)
at-sides k l (at.in_right_side m o) = absurd (sound l _ o)
at-sides k l (at.sides_differ m n h) = refl

at-inside : {d : Declared} {s : Scope} {tree : Tree} {e f : ElabRefusal} → Offends d s tree e → First d s tree e → OffendsAsFormula d s tree f → e ≡ f
at-inside w i (inside o) = i _ o
at-inside w i (no_formula m h) = absurd (sound m _ w)

at-no-formula : {d : Declared} {s : Scope} {tree : Tree} {t : Term} {a : SimpleType} {f : ElabRefusal} → Means d s tree t a → OffendsAsFormula d s tree f → WrongType tree.byte ≡ f
at-no-formula n (inside o) = absurd (sound n _ o)
at-no-formula n (no_formula m h) = refl

at-argument : {d : Declared} {s : Scope} {a : SimpleType} {argument : Tree} {arguments : List Tree} {e f : ElabRefusal} → Offends d s argument e → First d s argument e → OffendsInArguments d s a (argument ∷ arguments) f → e ≡ f
at-argument w i (in_argument o) = i _ o
at-argument w i (misfit m k) = absurd (sound m _ w)
at-argument w i (later m k o) = absurd (sound m _ w)

at-misfit : {d : Declared} {s : Scope} {a b : SimpleType} {argument : Tree} {arguments : List Tree} {x : Term} {f : ElabRefusal} → Means d s argument x b → applied a b ≡ None
    → OffendsInArguments d s a (argument ∷ arguments) f → WrongType argument.byte ≡ f
at-misfit n g (in_argument o) = absurd (sound n _ o)
at-misfit n g (misfit m k) = refl
at-misfit {a = a} n g (later m k o) = let z = one-meaning n _ _ m in absurd (no-image (applied a) (sym (z.1)) k g)

at-later : {d : Declared} {s : Scope} {a b c : SimpleType} {argument : Tree} {arguments : List Tree} {x : Term} {e f : ElabRefusal} → Means d s argument x b → applied a b ≡ Some c → FirstInArguments d s c arguments e
    → OffendsInArguments d s a (argument ∷ arguments) f → e ≡ f
at-later n g i (in_argument o) = absurd (sound n _ o)
at-later {a = a} n g i (misfit m k) = let z = one-meaning n _ _ m in absurd (no-image (applied a) (z.1) g k)
at-later {a = a} n g i (later m k o) = let z = one-meaning n _ _ m in i _ (arguments-of (same-image (applied a) (z.1) g k) o)

at-body : {d : Declared} {b : Binder} {s : Scope} {tree : Tree} {e f : ElabRefusal} → First d s tree e → OffendsInBinding d b s [] tree f → e ≡ f
at-body i (in_body o) = i _ o

at-type-of : {d : Declared} {b : Binder} {s : Scope} {v : Variable} {vs : List Variable} {tree : Tree} {e f : ElabRefusal} → OffendsInType d v.ty e → OffendsInBinding d b s (v ∷ vs) tree f → e ≡ f
at-type-of w (in_type o) = one-offence w o
at-type-of w (behind_variable k o) = absurd (no-offence k w)
at-type-of w (no_body k r h) = absurd (no-offence k w)

at-behind-variable : {d : Declared} {b : Binder} {s : Scope} {v : Variable} {vs : List Variable} {tree : Tree} {a : SimpleType} {e f : ElabRefusal} → MeansType d v.ty a → OffendsInBinding d b ((v.name, a) ∷ s) vs tree e
    → FirstInBinding d b ((v.name, a) ∷ s) vs tree e → OffendsInBinding d b s (v ∷ vs) tree f → e ≡ f
at-behind-variable l w i (in_type o) = absurd (no-offence l o)
at-behind-variable l w i (behind_variable k o) = i _ (binding-of (one-type l k) o)
at-behind-variable l w i (no_body k r h) = absurd (sound-binding (binds-of (one-type l k) r) _ w)

at-no-body : {d : Declared} {b : Binder} {s : Scope} {v : Variable} {vs : List Variable} {tree : Tree} {t : Term} {a c : SimpleType} {f : ElabRefusal} → MeansType d v.ty a → Binds d b ((v.name, a) ∷ s) vs tree t c
    → OffendsInBinding d b s (v ∷ vs) tree f → WrongType tree.byte ≡ f
at-no-body l n (in_type o) = absurd (no-offence l o)
at-no-body l n (behind_variable k o) = absurd (sound-binding n _ (binding-of (one-type l k) o))
at-no-body l n (no_body k r h) = refl

mutual
  pub first : {d : Declared} {s : Scope} {tree : Tree} {e : ElabRefusal} → Offends d s tree e → First d s tree e
  first (offence.unknown_atom h k l) = λ f o. at-unknown l (offends-at h o)
  first (offence.type_as_term h k l) = λ f o. at-type l (offends-at h o)
  first (offence.free_variable h k) = λ f o. at-free (offends-at h o)
  first (offence.no_argument q) = λ f o. at-quantifier _ q (offends-at refl o)
  first (offence.no_argument_applied h q) = λ f o. at-nothing-applied q (offends-at h o)
  first (offence.in_head h q w) = λ f o. at-head q w (first w) (offends-at h o)
  first (offence.in_arguments h q m w) = λ f o. at-arguments q m (first-in-arguments w) (offends-at h o)
  first (offence.in_set h q w) = λ f o. at-set q w (first w) (offends-at h o)
  first (offence.no_set h q m l) = λ f o. at-no-set q m l (offends-at h o)
  first (offence.behind_set h q m l w) = λ f o. at-behind-set q m l (first-in-arguments w) (offends-at h o)
  first (offence.in_binding h w) = λ f o. at-binding (first-in-binding w) (offends-at h o)
  first (offence.in_negation h w) = λ f o. at-negation (first-as-formula w) (offends-at h o)
  first (offence.in_left h w) = λ f o. at-left w (first-as-formula w) (offends-at h o)
  first (offence.in_right h m w) = λ f o. at-right m (first-as-formula w) (offends-at h o)
  first (offence.in_left_side h w) = λ f o. at-left-side w (first w) (offends-at h o)
  first (offence.in_right_side h m w) = λ f o. at-right-side m w (first w) (offends-at h o)
  first (offence.sides_differ h m n w) = λ f o. at-sides m n (offends-at h o)

  pub first-as-formula : {d : Declared} {s : Scope} {tree : Tree} {e : ElabRefusal} → OffendsAsFormula d s tree e → FirstAsFormula d s tree e
  first-as-formula (inside w) = λ f o. at-inside w (first w) o
  first-as-formula (no_formula m h) = λ f o. at-no-formula m o

  pub first-in-arguments : {d : Declared} {s : Scope} {a : SimpleType} {arguments : List Tree} {e : ElabRefusal} → OffendsInArguments d s a arguments e → FirstInArguments d s a arguments e
  first-in-arguments (in_argument w) = λ f o. at-argument w (first w) o
  first-in-arguments (misfit m k) = λ f o. at-misfit m k o
  first-in-arguments (later m k w) = λ f o. at-later m k (first-in-arguments w) o

  pub first-in-binding : {d : Declared} {b : Binder} {s : Scope} {vs : List Variable} {tree : Tree} {e : ElabRefusal} → OffendsInBinding d b s vs tree e → FirstInBinding d b s vs tree e
  first-in-binding (in_body w) = λ f o. at-body (first w) o
  first-in-binding (in_type w) = λ f o. at-type-of w o
  first-in-binding (behind_variable k w) = λ f o. at-behind-variable k w (first-in-binding w) o
  first-in-binding (no_body k r h) = λ f o. at-no-body k r o
