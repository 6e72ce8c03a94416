-- What the typings of a problem declare together. A type and a constant may be declared after their use:
-- what an atom is, is what its first typing makes of it.
use Rattle.std.specs.Prelude.{◌≡◌, ℕ, ◌+◌, ◌<◌, Bool, true, false, List, [], ◌∷◌, map, slice_get, ◌≢◌, if◌then◌else◌, Some}
use Rattle.leo_q0.specs.Terms.{SimpleType, base}
use Rattle.leo_syntax.specs.declared.tree.TypeTree.{TypeTree}
use Rattle.leo_syntax.specs.declared.tree.TypeNode.{TypeNode}
use Rattle.leo_syntax.specs.declared.tree.TypeNode.TheOpen.{TypeNode-F}
use Rattle.leo_syntax.specs.declared.tree.TypeWord.{TypeWord}
use Rattle.leo_syntax.specs.declared.tree.TypeWord.TheVariants as word
use Rattle.leo_elab.specs.declared.refusal.ElabRefusal.{ElabRefusal}
use Rattle.leo_elab.specs.declared.refusal.ElabRefusal.TheVariants.{Twice, Memory}
use Rattle.leo_elab.specs.declared.refusal.TypingsRefusal.{TypingsRefusal}
use Rattle.leo_elab.specs.declared.refusal.TypingsRefusal.TheVariants as refusal
use Rattle.leo_elab.specs.Problem.{Declared, Constant, named}
use Rattle.leo_elab.specs.Pairs.{without}
use Rattle.leo_elab.specs.Signs.{type_top}
use Rattle.leo_elab.specs.Meaning.{MeansType}
use Rattle.leo_elab.specs.Offences.{OffendsInType}

-- a typing: an atom, the byte where it stands, and its type
pub record Typing : Type 0 where
  pub atom : List ℕ
  pub byte : ℕ
  pub ty : TypeTree

-- each atom with the type of its first typing, in the order of these
abbrev pub first_typings : List Typing → List (List ℕ × TypeTree)
first_typings [] = []
first_typings (t ∷ ts) = (t.atom, t.ty) ∷ without t.atom (first_typings ts)

-- whether a type is `$tType` as a whole, so that its typing declares a type
abbrev pub is_type_of_types : TypeNode-F TypeNode TypeTree → Bool
is_type_of_types (TypeNode-F.Base word.TypeOfTypes) = true
is_type_of_types _ = false

abbrev pub declares_type : TypeTree → Bool
declares_type ty = is_type_of_types (type_top ty)

-- the atoms that are types: base types, numbered in order
abbrev pub base_types : ℕ → List (List ℕ × TypeTree) → List (List ℕ × SimpleType)
base_types number [] = []
base_types number (p ∷ ps) = if declares_type p.1 then (p.0, base number) ∷ base_types (number + 1) ps else base_types number ps

-- the atoms that are constants
abbrev pub constant_atoms : List (List ℕ × TypeTree) → List (List ℕ)
constant_atoms [] = []
constant_atoms (p ∷ ps) = if declares_type p.1 then constant_atoms ps else p.0 ∷ constant_atoms ps

-- these declarations say of each atom whether it is a type or a constant, and which type it is; what types the constants have is left open
pub record SaysWhatAtomsAre (firsts : List (List ℕ × TypeTree)) (d : Declared) : Type 0 where
  pub types : d.types ≡ base_types 2 firsts
  pub constants : map (λ c. c.0) d.constants ≡ constant_atoms firsts

-- the atoms that are constants, numbered in order, each with the type that its type tree means
pub data AreConstants (d : Declared) : ℕ → List (List ℕ × TypeTree) → List (List ℕ × Constant) → Type 0 where
  no_more : {n : ℕ} → AreConstants d n [] []
  type : {n : ℕ} {atom : List ℕ} {ty : TypeTree} {ps : List (List ℕ × TypeTree)} {cs : List (List ℕ × Constant)}
      → declares_type ty ≡ true → AreConstants d n ps cs → AreConstants d n ((atom, ty) ∷ ps) cs
  constant : {n : ℕ} {atom : List ℕ} {ty : TypeTree} {a : SimpleType} {ps : List (List ℕ × TypeTree)} {cs : List (List ℕ × Constant)}
      → declares_type ty ≡ false → MeansType d ty a → AreConstants d (n + 1) ps cs → AreConstants d n ((atom, ty) ∷ ps) ((atom, record { number = n; type = a }) ∷ cs)

-- two type trees say the same, wherever they stand
pub data AreAlike : TypeTree → TypeTree → Type 0 where
  words : {s t : TypeTree} {w : TypeWord} → type_top s ≡ TypeNode-F.Base w → type_top t ≡ TypeNode-F.Base w → AreAlike s t
  functions : {s t a b c d : TypeTree} → type_top s ≡ TypeNode-F.Arrow a b → type_top t ≡ TypeNode-F.Arrow c d → AreAlike a c → AreAlike b d → AreAlike s t

-- nothing is wrong in a typing: it says the same as the first of its atom, and declares a type or has a meaning as one
pub data IsRight (firsts : List (List ℕ × TypeTree)) (t : Typing) : Type 0 where
  a_type : {first : TypeTree} → named t.atom firsts ≡ Some first → AreAlike first t.ty → declares_type t.ty ≡ true → IsRight firsts t
  a_constant : {first : TypeTree} {d : Declared} {a : SimpleType} → named t.atom firsts ≡ Some first → AreAlike first t.ty
      → declares_type t.ty ≡ false → SaysWhatAtomsAre firsts d → MeansType d t.ty a → IsRight firsts t

-- what is wrong in a typing: the atom, which was typed otherwise before, or else the first word of its type that offends
pub data OffendsAmong (firsts : List (List ℕ × TypeTree)) (t : Typing) : ElabRefusal → Type 0 where
  twice : {first : TypeTree} → named t.atom firsts ≡ Some first → ¬ AreAlike first t.ty → OffendsAmong firsts t (Twice t.byte)
  in_type : {first : TypeTree} {d : Declared} {e : ElabRefusal} → named t.atom firsts ≡ Some first → AreAlike first t.ty
      → declares_type t.ty ≡ false → SaysWhatAtomsAre firsts d → OffendsInType d t.ty e → OffendsAmong firsts t e

-- nothing is wrong in any typing
abbrev pub AreRight : List Typing → Type 0
AreRight ts = (n : ℕ) (t : Typing) → slice_get ts n ≡ Some t → IsRight (first_typings ts) t

-- what typings declare, where nothing is wrong in any of them
pub record AreDeclared (ts : List Typing) (d : Declared) : Type 0 where
  pub right : AreRight ts
  pub types : d.types ≡ base_types 2 (first_typings ts)
  pub constants : AreConstants d 0 (first_typings ts) d.constants

-- the first typing in which something is wrong, by its place in the list, and what it is
pub record IsFirstOffence (ts : List Typing) (place : ℕ) (e : ElabRefusal) : Type 0 where
  pub typing : Typing
  pub stands : slice_get ts place ≡ Some typing
  pub offends : OffendsAmong (first_typings ts) typing e
  pub before : (n : ℕ) (t : Typing) → n < place → slice_get ts n ≡ Some t → IsRight (first_typings ts) t

-- why typings are refused
abbrev pub IsRefusalOf : List Typing → TypingsRefusal → Type 0
IsRefusalOf ts (refusal.Offends place e) = IsFirstOffence ts place e
IsRefusalOf ts refusal.Memory = Unit {0}

-- the refusal of a typing, with its place
abbrev pub IsAt : ℕ → ElabRefusal → TypingsRefusal → Type 0
IsAt place e (refusal.Offends p f) = (p ≡ place) × (f ≡ e) × (e ≢ Memory)
IsAt place e refusal.Memory = Unit {0}
