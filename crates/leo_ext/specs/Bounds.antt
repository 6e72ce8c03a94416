-- What the calls that bind a variable at the head of a formula say to one another. No public contract speaks of it.
use Rattle.std.specs.Prelude.{ℕ, ◌≡◌, ◌<◌, ◌+◌, List, [], ◌∷◌, ◌++◌, length, map, slice_get, Some}
use Rattle.leo_q0.specs.Terms.{SimpleType}
use Rattle.leo_terms.specs.Contents.{Contents, AreTerms, Extends, IsTerm, tree_at, type_at}
use Rattle.leo_terms.specs.Tree.{Tree, variable, IsBoundAt, truth_type, type_of}
use Rattle.leo_clause.specs.declared.clause.Clause.{Clause}
use Rattle.leo_clause.specs.Renaming.{substituted_literal}
use Rattle.leo_clause.specs.Trees.{ClauseTree}
use Rattle.leo_clause.specs.Typed.{AreTypesOf, IsOver}
use Rattle.leo_kernel.specs.Steps.{Line, inst}
use Rattle.leo_ext.specs.declared.binding.Bound.{Bound}
use Rattle.leo_ext.specs.declared.binding.Two.{Two}
use Rattle.leo_ext.specs.declared.primitive.Variable.{Variable}
use Rattle.leo_ext.specs.Binding.{Binding, argument_types, arrows, fresh_function}
use Rattle.leo_ext.specs.Members.{primitive_for}

-- a type of the bank that reads so
pub record IsType (c : Contents) (i : ℕ) (a : SimpleType) : Type 0 where
  pub within : i < length c.types
  pub reads : type_at c i ≡ a

-- types of the bank that read so
pub record AreTypes (c : Contents) (ts : List ℕ) (types : List SimpleType) : Type 0 where
  pub of_bank : AreTypesOf c ts
  pub reads : map (type_at c) ts ≡ types

-- a term that stands below lambdas of these types: each index has the type of its lambda
abbrev pub AreIndicesOf : List SimpleType → Tree → Type 0
AreIndicesOf [] t = Unit {0}
AreIndicesOf (a ∷ types) t = IsBoundAt (length types) a t × AreIndicesOf types t

-- a binding of a bank
abbrev pub binding_at : Contents → Bound → Binding
binding_at c b = record { fresh = map (type_at c) b.fresh; body = tree_at c b.body }

-- the numbers of bindings are numbers of the bank
abbrev pub AreBoundsOf : Contents → List Bound → Type 0
AreBoundsOf c [] = Unit {0}
AreBoundsOf c (b ∷ bs) = AreTypesOf c b.fresh × (b.body < length c.terms) × AreBoundsOf c bs

-- the binding is one of the bank, and reads so
pub record IsBinding (c : Contents) (b : Bound) (k : Binding) : Type 0 where
  pub fresh_of : AreTypesOf c b.fresh
  pub body_within : b.body < length c.terms
  pub reads : binding_at c b ≡ k

-- these are bindings of the bank, and read so
pub record AreBindings (c : Contents) (bs : List Bound) (ks : List Binding) : Type 0 where
  pub of_bank : AreBoundsOf c bs
  pub reads : map (binding_at c) bs ≡ ks

-- the bank grew, and behind the bindings of a list come these
pub record AddsBindings (c d : Contents) (old new : List Bound) (more : List Binding) : Type 0 where
  pub extends : Extends c d
  pub adds : (ks : List Binding) → AreBindings c old ks → AreBindings d new (ks ++ more)

-- a truth value over the variables and the fresh ones, below lambdas of these types
pub record IsFitting (variables types : List SimpleType) (b : Binding) : Type 0 where
  pub type : type_of b.body ≡ truth_type
  pub over : IsOver (variables ++ b.fresh) (length types) b.body
  pub indices : AreIndicesOf types b.body

-- each of these bindings fits so
abbrev pub AreFitting : List SimpleType → List SimpleType → List Binding → Type 0
AreFitting variables types [] = Unit {0}
AreFitting variables types (b ∷ bs) = IsFitting variables types b × AreFitting variables types bs

-- terms of a bank that read so
pub record AreTrees (c : Contents) (ts : List ℕ) (trees : List Tree) : Type 0 where
  pub terms : AreTerms c ts
  pub reads : map (tree_at c) ts ≡ trees

-- a variable of the clause, which is a function that gives truth values
pub record IsHeadIn (c : Contents) (k : Clause) (v : Variable) : Type 0 where
  pub type_within : v.ty < length c.types
  pub stands : slice_get (map (type_at c) k.vars) v.number ≡ Some (type_at c v.ty)
  pub gives_truth : arrows (argument_types (type_at c v.ty)) truth_type ≡ type_at c v.ty

-- the term is this variable
pub record IsVariable (c : Contents) (t : Tree) (v : Variable) : Type 0 where
  pub type_within : v.ty < length c.types
  pub reads : t ≡ variable v.number (type_at c v.ty)

-- the term is no variable, so that nothing is bound
pub record IsNoVariable (t : Tree) : Type 0 where
  pub no_member : (p : ℕ) (c : ClauseTree) → primitive_for p c t ≡ []

-- the instance of a clause in line p under these terms, with variables more
abbrev pub instance_line : ℕ → ClauseTree → List SimpleType → List Tree → Line
instance_line p c fresh given = record { clause = record { variables = c.variables ++ fresh; literals = map (substituted_literal given) c.literals }; rule = inst p given }

-- two fresh variables as functions of the indices of lambdas, and their type
pub record AreTwo (c : Contents) (n : ℕ) (types : List SimpleType) (to : ℕ) (b : SimpleType) (p : Two) : Type 0 where
  pub type : IsType c p.ty (arrows types b)
  pub first : IsTerm c p.first to (fresh_function n types b)
  pub second : IsTerm c p.second to (fresh_function (n + 1) types b)
