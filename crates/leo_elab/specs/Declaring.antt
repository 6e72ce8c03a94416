-- What a typing declares, and when it is wrong.
use Rattle.std.specs.Prelude.{◌≡◌, ◌≢◌, ℕ, List, [], ◌∷◌, ◌++◌, slice_get, Some, None}
use Rattle.leo_q0.specs.Terms.{SimpleType, base}
use Rattle.leo_syntax.specs.declared.tree.TypeTree.{TypeTree}
use Rattle.leo_syntax.specs.declared.tree.TypeNode.TheOpen.{TypeNode-F as TypeNode}
use Rattle.leo_syntax.specs.declared.tree.TypeWord.TheVariants as word
use Rattle.leo_terms.specs.Contents.{Contents, Symbol}
use Rattle.leo_elab.specs.declared.refusal.ElabRefusal.{ElabRefusal}
use Rattle.leo_elab.specs.declared.refusal.ElabRefusal.TheVariants.{Twice}
use Rattle.leo_elab.specs.Problem.{Declared, Constant, named}
use Rattle.leo_elab.specs.Table.{Table}
use Rattle.leo_elab.specs.Signs.{type_top}
use Rattle.leo_elab.specs.Meaning.{MeansType}
use Rattle.leo_elab.specs.Offences.{OffendsInType}

-- an atom is declared neither as a type nor as a constant
pub record IsUndeclared (d : Declared) (atom : List ℕ) : Type 0 where
  pub no_type : named atom d.types ≡ None
  pub no_constant : named atom d.constants ≡ None

-- the type is `$tType` as a whole, so that the typing declares a type
abbrev pub DeclaresType : TypeTree → Type 0
DeclaresType ty = type_top ty ≡ TypeNode.Base word.TypeOfTypes

-- what is declared after a typing of the atom, where a new type is the base type of that number and a new constant has that number
pub data Declares (d : Declared) (atom : List ℕ) (ty : TypeTree) (base_number number : ℕ) : Declared → Type 0 where
  new_type : IsUndeclared d atom → DeclaresType ty → Declares d atom ty base_number number (record { types = d.types ++ (atom, base base_number) ∷ []; constants = d.constants })
  new_constant : {a : SimpleType} → IsUndeclared d atom → MeansType d ty a
      → Declares d atom ty base_number number (record { types = d.types; constants = d.constants ++ (atom, record { number = number; type = a }) ∷ [] })
  -- the same typing once more declares nothing
  same_type : {a : SimpleType} → named atom d.types ≡ Some a → DeclaresType ty → Declares d atom ty base_number number d
  same_constant : {k : Constant} → named atom d.types ≡ None → named atom d.constants ≡ Some k → MeansType d ty k.type → Declares d atom ty base_number number d

-- what is wrong in a typing, whose atom stands at that byte
pub data OffendsInTyping (d : Declared) (atom : List ℕ) (byte : ℕ) (ty : TypeTree) : ElabRefusal → Type 0 where
  twice_type : {a : SimpleType} → named atom d.types ≡ Some a → ¬ DeclaresType ty → OffendsInTyping d atom byte ty (Twice byte)
  twice_constant : {k : Constant} → named atom d.types ≡ None → named atom d.constants ≡ Some k → ¬ MeansType d ty k.type → OffendsInTyping d atom byte ty (Twice byte)
  in_type : {e : ElabRefusal} → IsUndeclared d atom → ¬ DeclaresType ty → OffendsInType d ty e → OffendsInTyping d atom byte ty e

-- each symbol of the bank that has a name is a declared constant
pub record AreConstantsNamed (c : Contents) (n : Table) : Type 0 where
  pub named_constant : (s : ℕ) (x : Symbol) (name : List ℕ) → slice_get c.symbols s ≡ Some x → x.name ≡ Some name → named name n.constants ≢ None
