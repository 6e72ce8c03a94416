-- What the calls that arrange a clause say to one another: the variables that were met, and the terms that rename them.
-- No public contract speaks of it.
use Rattle.std.specs.Prelude.{ℕ, nat_eq, ◌≡◌, ◌<◌, true, List, [], ◌∷◌, length, map, take, slice_get, Some}
use Rattle.std.specs.List.{list_any}
use Rattle.leo_q0.specs.Terms.{SimpleType}
use Rattle.leo_terms.specs.Tree.{Tree, variable, substituted, IsGiven}
use Rattle.leo_terms.specs.Contents.{Contents, AreTerms, tree_at, type_at}
use Rattle.leo_clause.specs.declared.clause.Lit.{Lit}
use Rattle.leo_clause.specs.Trees.{Literal, literal_at}
use Rattle.leo_clause.specs.Typed.{AreLiteralsOf}
use Rattle.leo_clause.specs.Arranging.{occurring, place_in}

-- the terms that are given put in for the variables of a literal
abbrev pub substituted_literal : List Tree → Literal → Literal
substituted_literal given l = record { positive = l.positive; left = substituted given 0 l.left; right = substituted given 0 l.right }

-- each of these numbers is below n
abbrev pub AreBelow : ℕ → List ℕ → Type 0
AreBelow n [] = Unit {0}
AreBelow n (m ∷ ms) = (m < n) × AreBelow n ms

-- each of these numbers stands in the list
abbrev pub AreSeen : List ℕ → List ℕ → Type 0
AreSeen seen [] = Unit {0}
AreSeen seen (n ∷ ns) = (list_any (nat_eq n) seen ≡ true) × AreSeen seen ns

-- the variables of these terms of a bank stand in the list
abbrev pub AreMet : Contents → List ℕ → List ℕ → Type 0
AreMet c terms seen = (i t : ℕ) → slice_get terms i ≡ Some t → AreSeen seen (occurring (tree_at c t))

-- the terms of a list are the variables with the places of their numbers in the order
abbrev pub AreNumbered : List ℕ → List SimpleType → List Tree → Type 0
AreNumbered order variables given = (n : ℕ) (a : SimpleType) → slice_get variables n ≡ Some a → slice_get given n ≡ Some (variable (place_in order n) a)

-- each variable of the literals is given a term of its type
abbrev pub AreGiven : List Tree → List Literal → Type 0
AreGiven given [] = Unit {0}
AreGiven given (l ∷ ls) = IsGiven given l.left × IsGiven given l.right × AreGiven given ls

-- the first n variables have their terms: the variables with the places of their numbers in the order
pub record IsRenaming (old new : Contents) (order vars sigma : List ℕ) (n : ℕ) : Type 0 where
  pub count : length sigma ≡ n
  pub terms : AreTerms new sigma
  pub numbered : (m : ℕ) (a : SimpleType) → m < n → slice_get (map (type_at old) vars) m ≡ Some a → slice_get (map (tree_at new) sigma) m ≡ Some (variable (place_in order m) a)

-- the first n literals with the terms of sigma put in
pub record AreRenamed (old new : Contents) (sigma : List ℕ) (lits renamed : List Lit) (n : ℕ) : Type 0 where
  pub literals_of : AreLiteralsOf new renamed
  pub value : map (literal_at new) renamed ≡ take n (map (substituted_literal (map (tree_at old) sigma)) (map (literal_at old) lits))
