-- The heads of the sides of literals, for quick tests.
use Rattle.std.specs.Prelude.{ℕ, ◌≡◌, ◌<◌, List, [], ◌∷◌, length, map}
use Rattle.leo_terms.specs.Tree.{Tree, variable, bound, symbol, app, lam, logic, absent, Connective}
use Rattle.leo_terms.specs.Contents.{Contents, tree_at}
use Rattle.leo_q0.specs.Terms.{SimpleType}
use Rattle.leo_clause.specs.declared.clause.Lit.{Lit}
use Rattle.leo_clause.specs.Trees.{Literal}
use Rattle.leo_clause.specs.Renaming.{substituted_literal}
use Rattle.leo_keep.specs.Subsumption.{AreAmong}
use Rattle.leo_keep.specs.Matching.{IsAmong, IsSame}

-- what is applied to arguments, one after the other
abbrev pub applied_head : Tree → Tree
applied_head (app f x) = applied_head f
applied_head (variable n a) = variable n a
applied_head (bound i a) = bound i a
applied_head (symbol s a) = symbol s a
applied_head (lam a t) = lam a t
applied_head (logic c x y) = logic c x y
applied_head absent = absent

-- a term that stays as it is, whatever is put in for variables: a symbol, or a logical constant without arguments
pub data IsRigid : Tree → Type 0 where
  a_symbol : (n : ℕ) (a : SimpleType) → IsRigid (symbol n a)
  a_constant : (c : Connective) → IsRigid (logic c absent absent)

-- the sides of the second are the heads of those of the first
pub record HasHeads (c : Contents) (l : Literal) (h : Lit) : Type 0 where
  pub sign : h.pos ≡ l.positive
  pub left_within : h.left < length c.terms
  pub right_within : h.right < length c.terms
  pub left : tree_at c h.left ≡ applied_head l.left
  pub right : tree_at c h.right ≡ applied_head l.right

abbrev pub HaveHeads : Contents → List Literal → List Lit → Type 0
HaveHeads c [] [] = Unit {0}
HaveHeads c [] (h ∷ hs) = ⊥
HaveHeads c (l ∷ ls) [] = ⊥
HaveHeads c (l ∷ ls) (h ∷ hs) = HasHeads c l h × HaveHeads c ls hs

-- a term with the first head becomes none with the second
abbrev pub NeverBecomes : Tree → Tree → Type 0
NeverBecomes p t = IsRigid p × (p ≡ t → ⊥)

-- no terms make a literal with the first heads one with the second, as it is or turned
abbrev pub NeverSame : Contents → Lit → Lit → Type 0
NeverSame c h k = (l m : Literal) (terms : List Tree) → HasHeads c l h → HasHeads c m k → IsSame l m terms → ⊥

-- nor one of some
abbrev pub NeverAmong : Contents → Lit → List Lit → Type 0
NeverAmong c h ks = (l : Literal) (ms : List Literal) (terms : List Tree) → HasHeads c l h → HaveHeads c ms ks → IsAmong l ms terms → ⊥

-- no terms send the literals among those with these heads
abbrev pub NeverSend : Contents → List Literal → List Lit → Type 0
NeverSend c ls ks = (ms : List Literal) (terms : List Tree) → HaveHeads c ms ks → AreAmong (map (substituted_literal terms) ls) ms → ⊥
