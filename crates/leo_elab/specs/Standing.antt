-- Terms of a bank as terms of Q0, where variables of binders stand around them.
use Rattle.std.specs.Prelude.{◌≡◌, ℕ, ◌<◌, List, [], ◌∷◌, length, slice_get, Some}
use Rattle.leo_q0.specs.Terms.{SimpleType, truth, Term}
use Rattle.leo_terms.specs.Tree as tree
use Rattle.leo_terms.specs.Tree.{Tree}
use Rattle.leo_terms.specs.Contents.{Contents, type_at, tree_at, type_number}
use Rattle.leo_terms.specs.Decode.{decoded}
use Rattle.leo_syntax.specs.declared.tree.Tree as parse
use Rattle.leo_elab.specs.Problem.{Declared}
use Rattle.leo_elab.specs.Meaning.{Means}

-- no clause variable occurs in the term, and each loose index leads to a variable of the list, the innermost first, and has its type
abbrev pub IsScoped : List SimpleType → Tree → Type 0
IsScoped s (tree.variable n a) = ⊥
IsScoped s (tree.bound i a) = slice_get s i ≡ Some a
IsScoped s (tree.symbol n a) = Unit {0}
IsScoped s (tree.app f x) = IsScoped s f × IsScoped s x
IsScoped s (tree.lam a t) = IsScoped (a ∷ s) t
IsScoped s (tree.logic c x y) = IsScoped s x × IsScoped s y
IsScoped s tree.absent = Unit {0}

-- the term of the bank stands for that term of that type, under variables of these types
pub record Stands (c : Contents) (s : List SimpleType) (t : ℕ) (m : Term) (a : SimpleType) : Type 0 where
  pub within : t < length c.terms
  pub decodes : decoded (length s) (tree_at c t) ≡ m
  pub typed : type_at c (type_number c t) ≡ a
  pub scoped : IsScoped s (tree_at c t)

-- the term of the bank is a closed formula: no clause variable and no loose index occurs in it
pub record IsClosedFormula (c : Contents) (t : ℕ) : Type 0 where
  pub within : t < length c.terms
  pub formula : type_number c t ≡ 0
  pub closed : IsScoped [] (tree_at c t)

-- the term of the bank is a closed formula, which decodes to what the tree means
pub record HasMeaning (c : Contents) (d : Declared) (tree : parse.Tree) (t : ℕ) : Type 0 where
  pub closed_formula : IsClosedFormula c t
  pub means : Means d [] tree (decoded 0 (tree_at c t)) truth
