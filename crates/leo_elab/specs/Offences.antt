-- What is wrong in types and formulas: the first node that offends, from left to right and inner before outer.
use Rattle.std.specs.Prelude.{◌≡◌, ◌≢◌, ℕ, List, [], ◌∷◌, Some, None}
use Rattle.leo_syntax.specs.declared.refusal.Form.TheVariants.{TypeArguments}
use Rattle.leo_syntax.specs.declared.tree.Binder.{Binder}
use Rattle.leo_syntax.specs.declared.tree.Connective.{Connective}
use Rattle.leo_syntax.specs.declared.tree.Sign.{Sign}
use Rattle.leo_syntax.specs.declared.tree.Variable.{Variable}
use Rattle.leo_syntax.specs.declared.tree.Tree.{Tree}
use Rattle.leo_syntax.specs.declared.tree.Node.TheOpen.{Node-F as Node}
use Rattle.leo_syntax.specs.declared.tree.TypeTree.{TypeTree}
use Rattle.leo_syntax.specs.declared.tree.TypeNode.TheOpen.{TypeNode-F as TypeNode}
use Rattle.leo_syntax.specs.declared.tree.TypeWord.TheVariants as word
use Rattle.leo_elab.specs.declared.quantifiers.Quantifier.{Quantifier}
use Rattle.leo_elab.specs.declared.refusal.ElabRefusal.{ElabRefusal}
use Rattle.leo_elab.specs.declared.refusal.ElabRefusal.TheVariants.{Unknown, WrongType, Free, Unsupported}
use Rattle.leo_q0.specs.Terms.{SimpleType, truth, Term}
use Rattle.leo_elab.specs.Problem.{Declared, Constant, Scope, named, bound_to}
use Rattle.leo_elab.specs.Signs.{IsBodyOf, quantified_type, type_top, top, quantifier_of, applied, element}
use Rattle.leo_elab.specs.Meaning.{MeansType, Means, Binds}

-- the first word of a type that offends
pub data OffendsInType (d : Declared) : TypeTree → ElabRefusal → Type 0 where
  type_of_types : {ty : TypeTree} → type_top ty ≡ TypeNode.Base word.TypeOfTypes → OffendsInType d ty (Unsupported ty.byte TypeArguments)
  unknown_type : {ty : TypeTree} {name : List ℕ} → type_top ty ≡ TypeNode.Base (word.Atom name) → named name d.types ≡ None → named name d.constants ≡ None
      → OffendsInType d ty (Unknown ty.byte)
  -- a constant is no type
  constant_as_type : {ty : TypeTree} {name : List ℕ} {k : Constant} → type_top ty ≡ TypeNode.Base (word.Atom name) → named name d.types ≡ None → named name d.constants ≡ Some k
      → OffendsInType d ty (WrongType ty.byte)
  in_domain : {ty from to : TypeTree} {e : ElabRefusal} → type_top ty ≡ TypeNode.Arrow from to → OffendsInType d from e → OffendsInType d ty e
  in_range : {ty from to : TypeTree} {a : SimpleType} {e : ElabRefusal} → type_top ty ≡ TypeNode.Arrow from to → MeansType d from a → OffendsInType d to e → OffendsInType d ty e

mutual
  pub data Offends (d : Declared) : Scope → Tree → ElabRefusal → Type 0 where
    unknown_atom : {s : Scope} {tree : Tree} {name : List ℕ} → top tree ≡ Node.Atom name → named name d.constants ≡ None → named name d.types ≡ None → Offends d s tree (Unknown tree.byte)
    -- a type is no term
    type_as_term : {s : Scope} {tree : Tree} {name : List ℕ} {a : SimpleType} → top tree ≡ Node.Atom name → named name d.constants ≡ None → named name d.types ≡ Some a
        → Offends d s tree (WrongType tree.byte)
    free_variable : {s : Scope} {tree : Tree} {name : List ℕ} → top tree ≡ Node.Var name → bound_to name s ≡ None → Offends d s tree (Free tree.byte)
    -- `!!`, `??` and `@@+` want an argument
    no_argument : {s : Scope} {tree : Tree} {q : Quantifier} → quantifier_of tree ≡ Some q → Offends d s tree (WrongType tree.byte)
    no_argument_applied : {s : Scope} {tree head : Tree} {q : Quantifier} → top tree ≡ Node.Apply head [] → quantifier_of head ≡ Some q → Offends d s tree (WrongType head.byte)
    in_head : {s : Scope} {tree head : Tree} {arguments : List Tree} {e : ElabRefusal}
        → top tree ≡ Node.Apply head arguments → quantifier_of head ≡ None → Offends d s head e → Offends d s tree e
    in_arguments : {s : Scope} {tree head : Tree} {arguments : List Tree} {f : Term} {a : SimpleType} {e : ElabRefusal}
        → top tree ≡ Node.Apply head arguments → quantifier_of head ≡ None → Means d s head f a → OffendsInArguments d s a arguments e → Offends d s tree e
    in_set : {s : Scope} {tree head set : Tree} {arguments : List Tree} {q : Quantifier} {e : ElabRefusal}
        → top tree ≡ Node.Apply head (set ∷ arguments) → quantifier_of head ≡ Some q → Offends d s set e → Offends d s tree e
    no_set : {s : Scope} {tree head set : Tree} {arguments : List Tree} {q : Quantifier} {p : Term} {c : SimpleType}
        → top tree ≡ Node.Apply head (set ∷ arguments) → quantifier_of head ≡ Some q → Means d s set p c → element c ≡ None → Offends d s tree (WrongType set.byte)
    behind_set : {s : Scope} {tree head set : Tree} {arguments : List Tree} {q : Quantifier} {p : Term} {a c : SimpleType} {e : ElabRefusal}
        → top tree ≡ Node.Apply head (set ∷ arguments) → quantifier_of head ≡ Some q → Means d s set p c → element c ≡ Some a
        → OffendsInArguments d s (quantified_type q a) arguments e → Offends d s tree e
    in_binding : {s : Scope} {tree body : Tree} {b : Binder} {vs : List Variable} {e : ElabRefusal}
        → top tree ≡ Node.Bind b vs body → OffendsInBinding d b s vs body e → Offends d s tree e
    in_negation : {s : Scope} {tree operand : Tree} {e : ElabRefusal} → top tree ≡ Node.Not operand → OffendsAsFormula d s operand e → Offends d s tree e
    in_left : {s : Scope} {tree left right : Tree} {c : Connective} {e : ElabRefusal} → top tree ≡ Node.Join c left right → OffendsAsFormula d s left e → Offends d s tree e
    in_right : {s : Scope} {tree left right : Tree} {c : Connective} {t : Term} {e : ElabRefusal}
        → top tree ≡ Node.Join c left right → Means d s left t truth → OffendsAsFormula d s right e → Offends d s tree e
    in_left_side : {s : Scope} {tree left right : Tree} {sign : Sign} {byte : ℕ} {e : ElabRefusal} → top tree ≡ Node.Equal sign byte left right → Offends d s left e → Offends d s tree e
    in_right_side : {s : Scope} {tree left right : Tree} {sign : Sign} {byte : ℕ} {t : Term} {a : SimpleType} {e : ElabRefusal}
        → top tree ≡ Node.Equal sign byte left right → Means d s left t a → Offends d s right e → Offends d s tree e
    -- sides of different types: the mark between them offends
    sides_differ : {s : Scope} {tree left right : Tree} {sign : Sign} {byte : ℕ} {t u : Term} {a b : SimpleType}
        → top tree ≡ Node.Equal sign byte left right → Means d s left t a → Means d s right u b → a ≢ b → Offends d s tree (WrongType byte)

  -- the same where a formula must stand
  pub data OffendsAsFormula (d : Declared) : Scope → Tree → ElabRefusal → Type 0 where
    inside : {s : Scope} {tree : Tree} {e : ElabRefusal} → Offends d s tree e → OffendsAsFormula d s tree e
    no_formula : {s : Scope} {tree : Tree} {t : Term} {a : SimpleType} → Means d s tree t a → a ≢ truth → OffendsAsFormula d s tree (WrongType tree.byte)

  -- the same in the arguments of a function of a type
  pub data OffendsInArguments (d : Declared) : Scope → SimpleType → List Tree → ElabRefusal → Type 0 where
    in_argument : {s : Scope} {a : SimpleType} {argument : Tree} {arguments : List Tree} {e : ElabRefusal}
        → Offends d s argument e → OffendsInArguments d s a (argument ∷ arguments) e
    misfit : {s : Scope} {a b : SimpleType} {argument : Tree} {arguments : List Tree} {x : Term}
        → Means d s argument x b → applied a b ≡ None → OffendsInArguments d s a (argument ∷ arguments) (WrongType argument.byte)
    later : {s : Scope} {a b c : SimpleType} {argument : Tree} {arguments : List Tree} {x : Term} {e : ElabRefusal}
        → Means d s argument x b → applied a b ≡ Some c → OffendsInArguments d s c arguments e → OffendsInArguments d s a (argument ∷ arguments) e

  -- the same under a binder: the types of all its variables come before the body
  pub data OffendsInBinding (d : Declared) : Binder → Scope → List Variable → Tree → ElabRefusal → Type 0 where
    in_body : {b : Binder} {s : Scope} {tree : Tree} {e : ElabRefusal} → Offends d s tree e → OffendsInBinding d b s [] tree e
    in_type : {b : Binder} {s : Scope} {v : Variable} {vs : List Variable} {tree : Tree} {e : ElabRefusal}
        → OffendsInType d v.ty e → OffendsInBinding d b s (v ∷ vs) tree e
    behind_variable : {b : Binder} {s : Scope} {v : Variable} {vs : List Variable} {tree : Tree} {a : SimpleType} {e : ElabRefusal}
        → MeansType d v.ty a → OffendsInBinding d b ((v.name, a) ∷ s) vs tree e → OffendsInBinding d b s (v ∷ vs) tree e
    -- what stands under a variable is no formula, though the binder wants one: the first byte of the body offends
    no_body : {b : Binder} {s : Scope} {v : Variable} {vs : List Variable} {tree : Tree} {t : Term} {a c : SimpleType}
        → MeansType d v.ty a → Binds d b ((v.name, a) ∷ s) vs tree t c → ¬ IsBodyOf b c → OffendsInBinding d b s (v ∷ vs) tree (WrongType tree.byte)
