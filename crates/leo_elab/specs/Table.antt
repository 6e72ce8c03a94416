-- What contracts see of the declared atoms, and what they stand for in a bank.
use Rattle.std.specs.Prelude.{◌≡◌, ℕ, nat_eq, ◌<◌, List, [], ◌∷◌, length, map, Option, Some, None, if◌then◌else◌}
use Rattle.leo_q0.specs.Terms.{SimpleType}
use Rattle.leo_terms.specs.Contents.{Contents, type_at, symbol_type}
use Rattle.leo_elab.specs.Problem.{Declared, Constant}

-- each atom that is a type with the type's number in a bank, and each that is a constant with its symbol's
pub record Table : Type 0 where
  pub types : List (List ℕ × ℕ)
  pub constants : List (List ℕ × ℕ)

-- the first atom that stands for a number
abbrev pub atom_of : ℕ → List (List ℕ × ℕ) → Option (List ℕ)
atom_of number [] = None
atom_of number (p ∷ ps) = if nat_eq p.1 number then Some p.0 else atom_of number ps

abbrev pub type_entry : Contents → List ℕ × ℕ → List ℕ × SimpleType
type_entry c p = (p.0, type_at c p.1)

abbrev pub constant_entry : Contents → List ℕ × ℕ → List ℕ × Constant
constant_entry c p = (p.0, record { number = p.1; type = type_at c (symbol_type c p.1) })

-- what the atoms stand for
abbrev pub declared_in : Contents → Table → Declared
declared_in c n = record { types = map (type_entry c) n.types; constants = map (constant_entry c) n.constants }

abbrev pub AreTypesIn : Contents → List (List ℕ × ℕ) → Type 0
AreTypesIn c [] = Unit {0}
AreTypesIn c (p ∷ ps) = (p.1 < length c.types) × AreTypesIn c ps

abbrev pub AreConstantsIn : Contents → List (List ℕ × ℕ) → Type 0
AreConstantsIn c [] = Unit {0}
AreConstantsIn c (p ∷ ps) = (p.1 < length c.symbols) × AreConstantsIn c ps

-- the types and symbols of the atoms stand in the bank
pub record AreNamesOf (c : Contents) (n : Table) : Type 0 where
  pub types : AreTypesIn c n.types
  pub constants : AreConstantsIn c n.constants

-- what the atoms stand for, where their types and symbols stand in the bank
pub record KnowsNames (c : Contents) (n : Table) (d : Declared) : Type 0 where
  pub names : AreNamesOf c n
  pub declared_is : d ≡ declared_in c n
