-- What the code knows at a place in a formula: the declared atoms and the variables around it. For private contracts.
use Rattle.std.specs.Prelude.{◌≡◌, ℕ, ◌<◌, List, [], ◌∷◌, ◌++◌, length, map, Some}
use Rattle.leo_q0.specs.Terms.{SimpleType, truth, Term, apply}
use Rattle.leo_terms.specs.Contents.{Contents, type_at, type_number}
use Rattle.leo_syntax.specs.declared.tree.Tree.{Tree}
use Rattle.leo_syntax.specs.declared.tree.Binder.{Binder}
use Rattle.leo_syntax.specs.declared.tree.Binder.TheVariants as binder
use Rattle.leo_syntax.specs.declared.tree.Variable.{Variable}
use Rattle.leo_terms.specs.declared.node.Op.{Op}
use Rattle.leo_terms.specs.declared.node.Op.TheVariants as op
use Rattle.leo_q0.specs.Connectives.{equation, apply_two, or_term, and_term, imp_term}
use Rattle.leo_elab.specs.declared.quantifiers.Quantifier.{Quantifier}
use Rattle.leo_elab.specs.declared.scope.Bound.{Bound}
use Rattle.leo_elab.specs.Problem.{Declared, Scope}
use Rattle.leo_elab.specs.Table.{Table, AreNamesOf, KnowsNames}
use Rattle.leo_syntax.specs.declared.tree.TypeTree.{TypeTree}
use Rattle.leo_elab.specs.Meaning.{MeansType, Means, Applies, Binds}
use Rattle.leo_elab.specs.Signs.{applied, element, quantified, quantified_type}
use Rattle.leo_elab.specs.Standing.{Stands}

-- the variables as a scope: the code has the innermost last
abbrev pub scope_in : Contents → List Bound → Scope
scope_in c [] = []
scope_in c (b ∷ bs) = scope_in c bs ++ (b.name, type_at c b.ty) ∷ []

abbrev pub AreBoundIn : Contents → List Bound → Type 0
AreBoundIn c [] = Unit {0}
AreBoundIn c (b ∷ bs) = (b.ty < length c.types) × AreBoundIn c bs

abbrev pub types_in : Scope → List SimpleType
types_in s = map (λ v. v.1) s

-- the types and symbols of the atoms, and the types of the variables, stand in the bank
pub record IsPlace (c : Contents) (n : Table) (bs : List Bound) : Type 0 where
  pub names : AreNamesOf c n
  pub bound : AreBoundIn c bs

-- what the atoms and the variables stand for
pub record Around (c : Contents) (n : Table) (bs : List Bound) (d : Declared) (s : Scope) : Type 0 where
  pub knows : KnowsNames c n d
  pub bound : AreBoundIn c bs
  pub scope_is : s ≡ scope_in c bs

-- the term of the bank is a formula
pub record IsFormulaIn (c : Contents) (t : ℕ) : Type 0 where
  pub within : t < length c.terms
  pub formula : type_number c t ≡ 0

-- the term of the bank stands for what the tree means
pub record Elaborates (c : Contents) (d : Declared) (s : Scope) (tree : Tree) (t : ℕ) : Type 0 where
  pub term : Term
  pub type : SimpleType
  pub means : Means d s tree term type
  pub stands : Stands c (types_in s) t term type

-- the same of a formula
pub record ElaboratesFormula (c : Contents) (d : Declared) (s : Scope) (tree : Tree) (t : ℕ) : Type 0 where
  pub term : Term
  pub means : Means d s tree term truth
  pub stands : Stands c (types_in s) t term truth

-- the same of a term applied to arguments
pub record ElaboratesArguments (c : Contents) (d : Declared) (s : Scope) (f : Term) (a : SimpleType) (arguments : List Tree) (t : ℕ) : Type 0 where
  pub term : Term
  pub type : SimpleType
  pub applies : Applies d s f a arguments term type
  pub stands : Stands c (types_in s) t term type

-- the same of a body under a binder
pub record ElaboratesBinding (c : Contents) (d : Declared) (b : Binder) (s : Scope) (vs : List Variable) (body : Tree) (t : ℕ) : Type 0 where
  pub term : Term
  pub type : SimpleType
  pub binds : Binds d b s vs body term type
  pub stands : Stands c (types_in s) t term type

-- a function applied to an argument
pub record AppliesTo (c : Contents) (s : List SimpleType) (f x : Term) (a b : SimpleType) (t : ℕ) : Type 0 where
  pub type : SimpleType
  pub fits : applied a b ≡ Some type
  pub stands : Stands c s t (apply f x) type

-- `!!`, `??` or `@@+` of a set
pub record QuantifiesOver (b : Contents) (q : Quantifier) (s : List SimpleType) (p : Term) (c : SimpleType) (t : ℕ) : Type 0 where
  pub type : SimpleType
  pub fits : element c ≡ Some type
  pub stands : Stands b s t (quantified q type p) (quantified_type q type)

-- logical constants of two formulas, and what they make of them
abbrev pub TakesFormulas : Op → Type 0
TakesFormulas op.Or = Unit {0}
TakesFormulas op.And = Unit {0}
TakesFormulas op.Imp = Unit {0}
TakesFormulas (op.Eq a) = a ≡ 0
TakesFormulas _ = ⊥

abbrev pub both : Op → Term → Term → Term
both op.Or m n = apply_two or_term m n
both op.And m n = apply_two and_term m n
both op.Imp m n = apply_two imp_term m n
both _ m n = equation truth m n

-- every binder but the lambda takes a formula
abbrev pub IsBodyIn : Contents → Binder → ℕ → Type 0
IsBodyIn c binder.ForAll t = type_number c t ≡ 0
IsBodyIn c binder.Exists t = type_number c t ≡ 0
IsBodyIn c binder.Lambda t = Unit {0}
IsBodyIn c binder.Choice t = type_number c t ≡ 0

-- the type tree means some type
pub record IsType (d : Declared) (ty : TypeTree) : Type 0 where
  pub type : SimpleType
  pub means : MeansType d ty type
