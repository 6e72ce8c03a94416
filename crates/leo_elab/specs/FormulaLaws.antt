-- Laws of formulas: under any declarations and any binders around it, a tree has
-- one meaning or one first offence at most, never both.
use Rattle.std.specs.Prelude.{◌≡◌, List}
use Rattle.leo_syntax.specs.declared.tree.Binder.{Binder}
use Rattle.leo_syntax.specs.declared.tree.Variable.{Variable}
use Rattle.leo_syntax.specs.declared.tree.Tree.{Tree}
use Rattle.leo_elab.specs.declared.refusal.ElabRefusal.{ElabRefusal}
use Rattle.leo_q0.specs.Terms.{SimpleType, truth, Term}
use Rattle.leo_elab.specs.Problem.{Declared, Scope}
use Rattle.leo_elab.specs.Meaning.{Means, Applies, Binds}
use Rattle.leo_elab.specs.Offences.{Offends, OffendsAsFormula, OffendsInArguments, OffendsInBinding}

-- a tree means one term of one type at most
abbrev pub OneMeaning : Type 0
OneMeaning = (d : Declared) (s : Scope) (tree : Tree) (t u : Term) (a b : SimpleType) → Means d s tree t a → Means d s tree u b → (t ≡ u) × (a ≡ b)

-- so does a term of a type that is applied to arguments
abbrev pub OneApplication : Type 0
OneApplication = (d : Declared) (s : Scope) (f : Term) (e : SimpleType) (arguments : List Tree) (t u : Term) (a b : SimpleType)
    → Applies d s f e arguments t a → Applies d s f e arguments u b → (t ≡ u) × (a ≡ b)

-- and a body under variables of a binder
abbrev pub OneBinding : Type 0
OneBinding = (d : Declared) (binder : Binder) (s : Scope) (vs : List Variable) (tree : Tree) (t u : Term) (a b : SimpleType)
    → Binds d binder s vs tree t a → Binds d binder s vs tree u b → (t ≡ u) × (a ≡ b)

-- a tree that means something does not offend
abbrev pub NotBoth : Type 0
NotBoth = (d : Declared) (s : Scope) (tree : Tree) (t : Term) (a : SimpleType) (e : ElabRefusal) → Means d s tree t a → ¬ Offends d s tree e

-- nor does it where a formula must stand, if its meaning is one
abbrev pub NotBothAsFormula : Type 0
NotBothAsFormula = (d : Declared) (s : Scope) (tree : Tree) (t : Term) (e : ElabRefusal) → Means d s tree t truth → ¬ OffendsAsFormula d s tree e

-- nor do arguments to which a term of a type applies
abbrev pub NotBothInArguments : Type 0
NotBothInArguments = (d : Declared) (s : Scope) (f : Term) (a : SimpleType) (arguments : List Tree) (t : Term) (b : SimpleType) (e : ElabRefusal)
    → Applies d s f a arguments t b → ¬ OffendsInArguments d s a arguments e

-- nor a body with a meaning under variables of a binder
abbrev pub NotBothInBinding : Type 0
NotBothInBinding = (d : Declared) (binder : Binder) (s : Scope) (vs : List Variable) (tree : Tree) (t : Term) (a : SimpleType) (e : ElabRefusal)
    → Binds d binder s vs tree t a → ¬ OffendsInBinding d binder s vs tree e

-- a tree has one first offence at most
abbrev pub OneOffence : Type 0
OneOffence = (d : Declared) (s : Scope) (tree : Tree) (e f : ElabRefusal) → Offends d s tree e → Offends d s tree f → e ≡ f

-- also where a formula must stand
abbrev pub OneOffenceAsFormula : Type 0
OneOffenceAsFormula = (d : Declared) (s : Scope) (tree : Tree) (e f : ElabRefusal) → OffendsAsFormula d s tree e → OffendsAsFormula d s tree f → e ≡ f

-- so have the arguments of a function of a type
abbrev pub OneOffenceInArguments : Type 0
OneOffenceInArguments = (d : Declared) (s : Scope) (a : SimpleType) (arguments : List Tree) (e f : ElabRefusal)
    → OffendsInArguments d s a arguments e → OffendsInArguments d s a arguments f → e ≡ f

-- and a body under variables of a binder
abbrev pub OneOffenceInBinding : Type 0
OneOffenceInBinding = (d : Declared) (binder : Binder) (s : Scope) (vs : List Variable) (tree : Tree) (e f : ElabRefusal)
    → OffendsInBinding d binder s vs tree e → OffendsInBinding d binder s vs tree f → e ≡ f
