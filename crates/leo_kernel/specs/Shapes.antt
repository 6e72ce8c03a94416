-- Terms and literals by their shape.
use Rattle.std.specs.Prelude.{Bool, true, false}
use Rattle.leo_q0.specs.Terms.{SimpleType, base, arrow}
use Rattle.leo_terms.specs.Tree.{Tree, logic, absent, truth, falsity, negation, disjunction, conjunction, implication, equality, universal, existential, choice, type_of}
use Rattle.leo_clause.specs.declared.record.Side.{Side}
use Rattle.leo_clause.specs.declared.record.Side.TheVariants.{Left, Right}
use Rattle.leo_clause.specs.Trees.{Literal}

-- T, or F
abbrev pub truth_tree : Bool → Tree
truth_tree true = logic truth absent absent
truth_tree false = logic falsity absent absent

abbrev pub not_tree : Tree → Tree
not_tree a = logic negation a absent

abbrev pub or_tree : Tree → Tree → Tree
or_tree a b = logic disjunction a b

abbrev pub and_tree : Tree → Tree → Tree
and_tree a b = logic conjunction a b

abbrev pub imp_tree : Tree → Tree → Tree
imp_tree a b = logic implication a b

-- `s = t` at the type a
abbrev pub eq_tree : SimpleType → Tree → Tree → Tree
eq_tree a s t = logic (equality a) s t

-- `! P` for a property of things of type a
abbrev pub all_tree : SimpleType → Tree → Tree
all_tree a p = logic (universal a) p absent

-- `? P`
abbrev pub some_tree : SimpleType → Tree → Tree
some_tree a p = logic (existential a) p absent

-- `ε P`
abbrev pub choice_tree : SimpleType → Tree → Tree
choice_tree a p = logic (choice a) p absent

-- `s = t`
abbrev pub equal : Tree → Tree → Literal
equal s t = record { positive = true; left = s; right = t }

-- `s ≠ t`
abbrev pub unequal : Tree → Tree → Literal
unequal s t = record { positive = false; left = s; right = t }

-- `A = T`, or `A = F`
abbrev pub valued : Tree → Bool → Literal
valued a v = equal a (truth_tree v)

-- the side that is named, and the other one
abbrev pub side_of : Side → Literal → Tree
side_of Left l = l.left
side_of Right l = l.right

abbrev pub other_side_of : Side → Literal → Tree
other_side_of Left l = l.right
other_side_of Right l = l.left

-- the type of a literal whose sides have one
abbrev pub literal_type : Literal → SimpleType
literal_type l = type_of l.left

-- the type of the arguments of functions of this type
abbrev pub domain : SimpleType → SimpleType
domain (base n) = base n
domain (arrow a b) = a

abbrev pub IsArrowType : SimpleType → Type 0
IsArrowType (base n) = ⊥
IsArrowType (arrow a b) = Unit {0}
