-- The forms of a literal with what it becomes, as the calls that reduce it hand them on. No public contract speaks of it.
use Rattle.std.specs.Prelude.{ℕ, ◌<◌, length, Bool, true, false, not, ◌&&◌, if◌then◌else◌, [], ◌∷◌, Option, Some, None, is_some, is_none}
use Rattle.leo_q0.specs.Terms.{SimpleType}
use Rattle.leo_terms.specs.Contents.{Contents, tree_at, type_at}
use Rattle.leo_terms.specs.Tree.{Tree, variable, bound, symbol, app, lam, logic, absent, Connective, truth, falsity, negation, disjunction, conjunction, implication, equality, universal, existential, choice}
use Rattle.leo_clause.specs.declared.record.LogicKind.{LogicKind}
use Rattle.leo_clause.specs.declared.record.LogicKind.TheVariants as kind
use Rattle.leo_clause.specs.Trees.{Literal}
use Rattle.leo_kernel.specs.Choosing.{Claims, value}
use Rattle.leo_kernel.specs.Conclusions.{NeverHolds}
use Rattle.leo_kernel.specs.Parts.{value_of}
use Rattle.leo_kernel.specs.Rows.{TakesApart}
use Rattle.leo_kernel.specs.Shapes.{valued}
use Rattle.leo_kernel.specs.Tops.{IsPropertyOf}
use Rattle.leo_clausify.specs.declared.ways.Way as declared
use Rattle.leo_clausify.specs.declared.ways.Way.TheVariants as code
use Rattle.leo_clausify.specs.declared.ways.Ways as declared_ways
use Rattle.leo_clausify.specs.declared.ways.Ways.TheVariants as codes
use Rattle.leo_clausify.specs.Forms.{Form, turn, omit, apart, Forms, no_form, one_form, two_forms, never_holds}

pub data Way : Type 0 where
  turned : Way
  omitted : Way
  -- `A = v`
  single : LogicKind → Tree → Bool → Way
  -- `A = v`, `B = w`
  double : LogicKind → Tree → Bool → Tree → Bool → Way
  -- `s = t`, or `s ≠ t`
  sides : LogicKind → Bool → Tree → Tree → Way
  -- `P X = v`, for a fresh variable X
  fresh : LogicKind → SimpleType → Tree → Bool → Way
  -- `P w = v`, for a chosen w
  chosen : SimpleType → Tree → Bool → Way

pub data Ways : Type 0 where
  no_way : Ways
  one_way : Way → Ways
  two_ways : Way → Way → Ways

abbrev pub ways_with : Connective → Tree → Tree → Bool → Ways
ways_with negation x y v = one_way (single kind.Not x (not v))
ways_with disjunction x y true = one_way (double kind.OrT x true y true)
ways_with disjunction x y false = two_ways (single kind.OrF1 x false) (single kind.OrF2 y false)
ways_with conjunction x y true = two_ways (single kind.AndT1 x true) (single kind.AndT2 y true)
ways_with conjunction x y false = one_way (double kind.AndF x false y false)
ways_with implication x y true = one_way (double kind.ImpT x false y true)
ways_with implication x y false = two_ways (single kind.ImpF1 x true) (single kind.ImpF2 y false)
ways_with (equality a) x y true = one_way (sides kind.EqT true x y)
ways_with (equality a) x y false = one_way (sides kind.EqF false x y)
ways_with (universal a) x y true = one_way (fresh kind.AllT a x true)
ways_with (universal a) x y false = one_way (chosen a x false)
ways_with (existential a) x y true = one_way (chosen a x true)
ways_with (existential a) x y false = one_way (fresh kind.SomeF a x false)
ways_with truth x y v = no_way
ways_with falsity x y v = no_way
ways_with (choice a) x y v = no_way

abbrev pub ways_about : Tree → Bool → Ways
ways_about (logic c x y) v = ways_with c x y v
ways_about (variable n a) v = no_way
ways_about (bound i a) v = no_way
ways_about (symbol n a) v = no_way
ways_about (app f x) v = no_way
ways_about (lam a t) v = no_way
ways_about absent v = no_way

abbrev pub ways_valued : Literal → Option Bool → Ways
ways_valued l None = no_way
ways_valued l (Some v) = if l.positive then ways_about l.left v else one_way (single kind.Flip l.left (not v))

abbrev pub ways_of : Literal → Ways
ways_of l =
    if is_some (value_of l.left) && is_none (value_of l.right) then one_way turned
    else (if never_holds l then one_way omitted else ways_valued l (value_of l.right))

-- the forms alone
abbrev pub kind_chosen : Bool → LogicKind
kind_chosen true = kind.SomeT
kind_chosen false = kind.AllF

abbrev pub form_of : Way → Form
form_of turned = turn
form_of omitted = omit
form_of (single k a v) = apart k
form_of (double k a v b w) = apart k
form_of (sides k p s t) = apart k
form_of (fresh k c p v) = apart k
form_of (chosen c p v) = apart (kind_chosen v)

abbrev pub forms_in : Ways → Forms
forms_in no_way = no_form
forms_in (one_way f) = one_form (form_of f)
forms_in (two_ways f g) = two_forms (form_of f) (form_of g)

-- what the literal becomes is what the rule says, in a clause of `next` variables
abbrev pub IsRow : ℕ → Literal → Way → Type 0
IsRow next l turned = Unit {0}
IsRow next l omitted = NeverHolds l
IsRow next l (single k a v) = TakesApart next k l [] (valued a v ∷ [])
IsRow next l (double k a v b w) = TakesApart next k l [] (valued a v ∷ valued b w ∷ [])
IsRow next l (sides k p s t) = TakesApart next k l [] (record { positive = p; left = s; right = t } ∷ [])
IsRow next l (fresh k c p v) = TakesApart next k l (c ∷ []) (valued (app p (variable next c)) v ∷ [])
IsRow next l (chosen c p v) = Claims (kind_chosen v) l (value c p v)

abbrev pub AreRows : ℕ → Literal → Ways → Type 0
AreRows next l no_way = Unit {0}
AreRows next l (one_way f) = IsRow next l f
AreRows next l (two_ways f g) = IsRow next l f × IsRow next l g

-- how the ways over a bank read, and that their numbers are numbers of it
abbrev pub way_at : Contents → declared.Way → Way
way_at c code.Turn = turned
way_at c code.Omit = omitted
way_at c (code.Single k a v) = single k (tree_at c a) v
way_at c (code.Double k a v b w) = double k (tree_at c a) v (tree_at c b) w
way_at c (code.Sides k p s t) = sides k p (tree_at c s) (tree_at c t)
way_at c (code.Fresh k i p v) = fresh k (type_at c i) (tree_at c p) v
way_at c (code.Chosen i p v) = chosen (type_at c i) (tree_at c p) v

abbrev pub ways_at : Contents → declared_ways.Ways → Ways
ways_at c codes.Nothing = no_way
ways_at c (codes.One f) = one_way (way_at c f)
ways_at c (codes.Two f g) = two_ways (way_at c f) (way_at c g)

abbrev pub IsWayOf : Contents → declared.Way → Type 0
IsWayOf c code.Turn = Unit {0}
IsWayOf c code.Omit = Unit {0}
IsWayOf c (code.Single k a v) = a < length c.terms
IsWayOf c (code.Double k a v b w) = (a < length c.terms) × (b < length c.terms)
IsWayOf c (code.Sides k p s t) = (s < length c.terms) × (t < length c.terms)
IsWayOf c (code.Fresh k i p v) = IsPropertyOf c i p
IsWayOf c (code.Chosen i p v) = IsPropertyOf c i p

abbrev pub AreWaysOf : Contents → declared_ways.Ways → Type 0
AreWaysOf c codes.Nothing = Unit {0}
AreWaysOf c (codes.One f) = IsWayOf c f
AreWaysOf c (codes.Two f g) = IsWayOf c f × IsWayOf c g

-- the tables of the calls, by kind of formula
abbrev pub or_forms : ℕ → ℕ → Bool → declared_ways.Ways
or_forms a b true = codes.One (code.Double kind.OrT a true b true)
or_forms a b false = codes.Two (code.Single kind.OrF1 a false) (code.Single kind.OrF2 b false)

abbrev pub and_forms : ℕ → ℕ → Bool → declared_ways.Ways
and_forms a b true = codes.Two (code.Single kind.AndT1 a true) (code.Single kind.AndT2 b true)
and_forms a b false = codes.One (code.Double kind.AndF a false b false)

abbrev pub imp_forms : ℕ → ℕ → Bool → declared_ways.Ways
imp_forms a b true = codes.One (code.Double kind.ImpT a false b true)
imp_forms a b false = codes.Two (code.Single kind.ImpF1 a true) (code.Single kind.ImpF2 b false)

abbrev pub kind_equated : Bool → LogicKind
kind_equated true = kind.EqT
kind_equated false = kind.EqF

abbrev pub all_forms : ℕ → ℕ → Bool → declared_ways.Ways
all_forms i p true = codes.One (code.Fresh kind.AllT i p true)
all_forms i p false = codes.One (code.Chosen i p false)

abbrev pub some_forms : ℕ → ℕ → Bool → declared_ways.Ways
some_forms i p true = codes.One (code.Chosen i p true)
some_forms i p false = codes.One (code.Fresh kind.SomeF i p false)
