-- What is left of a pair that was solved: the pairs in which both sides differ at once.
use Rattle.std.specs.Prelude.{nat_eq, ◌&&◌, if◌then◌else◌, List, [], ◌∷◌, ◌++◌, Option, None, unwrap_or}
use Rattle.std.specs.Option.{option_map}
use Rattle.leo_q0.specs.Terms.{same_type}
use Rattle.leo_terms.specs.Tree.{Tree, symbol, app, logic, Connective, choice}
use Rattle.leo_clause.specs.Sameness.{same_tree}
use Rattle.leo_unify.specs.Pairs.{Pair, if_same}

-- nothing of equal terms; else what is left of the arguments, where their pairs may take the place of the pair; else the pair itself
abbrev pub left_of : Option (List Pair) → Tree → Tree → List Pair
left_of below s t = if same_tree s t then [] else unwrap_or below ((record { left = s; right = t }) ∷ [])

abbrev pub left_of_constant : Connective → Connective → List Pair → Option (List Pair)
left_of_constant (choice a) (choice b) ps = if_same (same_type a b) ps
left_of_constant _ _ ps = None

-- what is left of the arguments from left to right, where both terms have the same symbol or choice at one type as head, and as many
-- arguments
abbrev pub left_of_arguments : Tree → Tree → Option (List Pair)
left_of_arguments (app f x) (app g y) = option_map (λ (ps : List Pair). ps ++ left_of (left_of_arguments x y) x y) (left_of_arguments f g)
left_of_arguments (symbol m a) (symbol n b) = if_same (nat_eq m n && same_type a b) []
left_of_arguments (logic c p x) (logic d q y) = left_of_constant c d (left_of (left_of_arguments p q) p q)
left_of_arguments _ _ = None

abbrev pub residue : Tree → Tree → List Pair
residue s t = left_of (left_of_arguments s t) s t
