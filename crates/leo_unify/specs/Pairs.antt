-- Pairs of terms, and the pairs of the arguments of two terms with one head.
use Rattle.std.specs.Prelude.{nat_eq, Bool, ◌&&◌, if◌then◌else◌, List, [], ◌∷◌, ◌++◌, Option, Some, None}
use Rattle.std.specs.Option.{option_map}
use Rattle.leo_q0.specs.Terms.{same_type}
use Rattle.leo_terms.specs.Tree.{Tree, bound, symbol, app, logic, Connective, choice}

-- two terms of one type that are to become equal; a loose index of both is the variable of a lambda that stood around both
pub record Pair : Type 0 where
  pub left : Tree
  pub right : Tree

-- a list of pairs with one more at its end
abbrev pub and_pair : Tree → Tree → List Pair → List Pair
and_pair x y ps = ps ++ (record { left = x; right = y }) ∷ []

abbrev pub if_same : Bool → List Pair → Option (List Pair)
if_same b ps = if b then Some ps else None

-- for choice alone among the logical constants
abbrev pub paired_constant : Connective → Tree → Connective → Tree → Option (List Pair)
paired_constant (choice a) p (choice b) q = if_same (same_type a b) ((record { left = p; right = q }) ∷ [])
paired_constant _ p _ q = None

-- the pairs of the arguments from left to right, where both terms have the same symbol, the same index or choice at one type as head,
-- and as many arguments
abbrev pub paired_arguments : Tree → Tree → Option (List Pair)
paired_arguments (app f x) (app g y) = option_map (and_pair x y) (paired_arguments f g)
paired_arguments (symbol m a) (symbol n b) = if_same (nat_eq m n && same_type a b) []
paired_arguments (bound i a) (bound j b) = if_same (nat_eq i j && same_type a b) []
paired_arguments (logic c p x) (logic d q y) = paired_constant c p d q
paired_arguments _ _ = None
