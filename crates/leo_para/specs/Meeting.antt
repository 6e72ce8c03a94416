-- What the quick test says, whether anything meets. No public contract speaks of it.
use Rattle.std.specs.Prelude.{ℕ, false, ◌≡◌, List, [], ◌∷◌}
use Rattle.leo_clause.specs.declared.record.Side.{Side}
use Rattle.leo_clause.specs.Trees.{Literal}
use Rattle.leo_kernel.specs.Shapes.{side_of}
use Rattle.leo_para.specs.Spines.{Top, head, is_whole, top, tops_meet}
use Rattle.leo_para.specs.Places.{Place}
use Rattle.leo_para.specs.Members.{each_literal, members_of_equation, members_of_target}

-- no term at these places has a head that this one meets
abbrev pub MeetsNone : Top → List Place → Type 0
MeetsNone h [] = Unit {0}
MeetsNone h (p ∷ ps) = (tops_meet (is_whole p.path) h (top (head p.term)) ≡ false) × MeetsNone h ps

-- the same, where none of the places is a whole side
abbrev pub MeetsNoneInside : Top → List Place → Type 0
MeetsNoneInside h [] = Unit {0}
MeetsNoneInside h (p ∷ ps) = (tops_meet false h (top (head p.term)) ≡ false) × MeetsNoneInside h ps

-- no side with this head is looked for in a literal
abbrev pub IsPassedOver : Top → Literal → Type 0
IsPassedOver h k = (i : ℕ) (l : Literal) (s : Side) (j : ℕ) → h ≡ top (head (side_of s l)) → members_of_target i l s j k ≡ []

-- nor in any of some literals
abbrev pub ArePassedOver : Top → List Literal → Type 0
ArePassedOver h ks = (i : ℕ) (l : Literal) (s : Side) (j : ℕ) → h ≡ top (head (side_of s l)) → each_literal (members_of_target i l s) j ks ≡ []

-- nothing is due from a literal into some
abbrev pub GivesNothing : Literal → List Literal → Type 0
GivesNothing l ks = (i : ℕ) → members_of_equation ks i l ≡ []

-- nor from any of some
abbrev pub GiveNothing : List Literal → List Literal → Type 0
GiveNothing ls ks = (i : ℕ) → each_literal (members_of_equation ks) i ls ≡ []
