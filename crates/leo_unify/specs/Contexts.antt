-- Where the terms of a state and of a pair stand: which types variables and loose indices have. Of these, public contracts speak of
-- `AreTermsIn` alone.
use Rattle.std.specs.Prelude.{ℕ, zero, suc, ◌≡◌, List, [], ◌∷◌, ◌++◌, slice_get, Some}
use Rattle.leo_q0.specs.Terms.{SimpleType}
use Rattle.leo_terms.specs.Tree.{Tree, type_of, substituted, IsBoundAt, IsGiven}
use Rattle.leo_terms.specs.Reduction.{Reduces, IsNormal}
use Rattle.leo_clause.specs.Typed.{IsOver}
use Rattle.leo_unify.specs.Pairs.{Pair}
use Rattle.leo_unify.specs.Search.{put}
use Rattle.leo_unify.specs.Acts.{Binding, Act, stay, replace, bind, refuse, branch}

-- each loose index of the term has the type that is given for it
abbrev pub AreBoundTo : (ℕ → SimpleType) → Tree → Type 0
AreBoundTo types t = (j : ℕ) → IsBoundAt j (types j) t

-- the same types under one more lambda
abbrev pub under : SimpleType → (ℕ → SimpleType) → ℕ → SimpleType
under a types zero = a
under a types (suc j) = types j

-- both sides are terms over these variables, under lambdas of the same types, and of one type
pub record IsPairIn (variables : List SimpleType) (p : Pair) : Type 0 where
  pub depth : ℕ
  pub types : ℕ → SimpleType
  pub left_over : IsOver variables depth p.left
  pub right_over : IsOver variables depth p.right
  pub left_bound : AreBoundTo types p.left
  pub right_bound : AreBoundTo types p.right
  pub same_type : type_of p.left ≡ type_of p.right

abbrev pub ArePairsIn : List SimpleType → List Pair → Type 0
ArePairsIn variables [] = Unit {0}
ArePairsIn variables (p ∷ ps) = IsPairIn variables p × ArePairsIn variables ps

-- the variable has the type of its term, which is closed
pub record IsBindingIn (variables : List SimpleType) (b : Binding) : Type 0 where
  pub found : slice_get variables b.number ≡ Some (type_of b.term)
  pub over : IsOver (variables ++ b.fresh) 0 b.term

abbrev pub AreBindingsIn : List SimpleType → List Binding → Type 0
AreBindingsIn variables [] = Unit {0}
AreBindingsIn variables (b ∷ bs) = IsBindingIn variables b × AreBindingsIn variables bs

abbrev pub IsActIn : List SimpleType → Act → Type 0
IsActIn variables stay = Unit {0}
IsActIn variables (replace ps) = ArePairsIn variables ps
IsActIn variables (bind b) = IsBindingIn variables b
IsActIn variables refuse = Unit {0}
IsActIn variables (branch bs) = AreBindingsIn variables bs

-- each of these terms is closed and normal
abbrev pub AreTermsIn : List SimpleType → List Tree → Type 0
AreTermsIn variables [] = Unit {0}
AreTermsIn variables (t ∷ terms) = IsOver variables 0 t × IsNormal t × AreTermsIn variables terms

-- what is put in for variables of the types `old`: closed terms of these types over variables of the types `new`
abbrev pub AreGivenOver : List SimpleType → List SimpleType → List Tree → Type 0
AreGivenOver old new given = (n : ℕ) (a : SimpleType) → slice_get old n ≡ Some a → (s : Tree) × (slice_get given n ≡ Some s) × (type_of s ≡ a) × IsOver new 0 s

-- each variable of these terms, and of these pairs, is given a term of its type
abbrev pub AreTreesGiven : List Tree → List Tree → Type 0
AreTreesGiven given [] = Unit {0}
AreTreesGiven given (t ∷ ts) = IsGiven given t × AreTreesGiven given ts

abbrev pub ArePairsGiven : List Tree → List Pair → Type 0
ArePairsGiven given [] = Unit {0}
ArePairsGiven given (p ∷ ps) = IsGiven given p.left × IsGiven given p.right × ArePairsGiven given ps

-- r is t with these put in, in normal form
pub record IsPutTree (given : List Tree) (t r : Tree) : Type 0 where
  pub value : r ≡ put given t
  pub reduces : Reduces (substituted given 0 t) r
  pub normal : IsNormal r
  pub same_type : type_of r ≡ type_of t

abbrev pub ArePutTrees : List Tree → List Tree → List Tree → Type 0
ArePutTrees given [] [] = Unit {0}
ArePutTrees given (t ∷ ts) (r ∷ rs) = IsPutTree given t r × ArePutTrees given ts rs
ArePutTrees given [] (r ∷ rs) = ⊥
ArePutTrees given (t ∷ ts) [] = ⊥

abbrev pub ArePutPairs : List Tree → List Pair → List Pair → Type 0
ArePutPairs given [] [] = Unit {0}
ArePutPairs given (p ∷ ps) (q ∷ qs) = IsPutTree given p.left q.left × IsPutTree given p.right q.right × ArePutPairs given ps qs
ArePutPairs given [] (q ∷ qs) = ⊥
ArePutPairs given (p ∷ ps) [] = ⊥
