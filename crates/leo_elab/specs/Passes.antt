-- How far the atoms of a list of first typings are declared. For private contracts.
use Rattle.std.specs.Prelude.{◌≡◌, ℕ, ◌+◌, ◌≤◌, List, [], ◌++◌, length, drop}
use Rattle.leo_syntax.specs.declared.tree.TypeTree.{TypeTree}
use Rattle.leo_terms.specs.Contents.{Contents}
use Rattle.leo_elab.specs.Problem.{Declared, Constant}
use Rattle.leo_elab.specs.Pairs.{AreNew}
use Rattle.leo_elab.specs.Table.{Table, AreNamesOf, declared_in}
use Rattle.leo_elab.specs.Declaring.{AreConstantsNamed}
use Rattle.leo_elab.specs.Typings.{base_types, AreConstants}

-- the types before a place are declared, and no constant is
pub record AreTypesUpTo (c : Contents) (n : Table) (firsts : List (List ℕ × TypeTree)) (place : ℕ) : Type 0 where
  pub names : AreNamesOf c n
  pub types : (declared_in c n).types ++ base_types c.bases (drop place firsts) ≡ base_types 2 firsts
  pub new_atoms : AreNew (declared_in c n).types (drop place firsts)
  pub no_constants : (declared_in c n).constants ≡ []
  pub no_symbols : c.symbols ≡ []
  pub named_symbols : AreConstantsNamed c n
  pub bases : c.bases ≤ place + 2

-- all types are declared, and the constants before a place
pub record AreConstantsUpTo (c : Contents) (n : Table) (firsts : List (List ℕ × TypeTree)) (place : ℕ) : Type 0 where
  pub names : AreNamesOf c n
  pub types : (declared_in c n).types ≡ base_types 2 firsts
  pub constants : (d : Declared) (cs : List (List ℕ × Constant)) → d.types ≡ base_types 2 firsts
      → AreConstants d (length c.symbols) (drop place firsts) cs → AreConstants d 0 firsts ((declared_in c n).constants ++ cs)
  pub new_atoms : AreNew (declared_in c n).constants (drop place firsts)
  pub named_symbols : AreConstantsNamed c n
