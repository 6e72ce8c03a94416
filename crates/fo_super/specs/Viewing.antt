-- What the members of the code stand for.
use Rattle.std.specs.Prelude.{ℕ, ◌≡◌, List, Some, slice_get}
use Rattle.std.specs.List.{AllByRecursion}
use Rattle.fo_text.specs.declared.problem.FoSym.{FoSym}
use Rattle.fo_text.specs.declared.problem.FoClause.{FoClause}
use Rattle.fo_super.specs.declared.member.FoMember.{FoMember}
use Rattle.fo_super.specs.declared.member.FoMember.TheVariants as variant
use Rattle.fo_super.specs.Members.{Member, resolve, factor, superpose}
use Rattle.fo_super.specs.Laws.{AreSorted}

abbrev pub member_of : FoMember → Member
member_of (variant.Resolve c i) = resolve c i
member_of (variant.Factor c i s j r) = factor c i s j r
member_of (variant.Superpose c i s d j r path) = superpose c i s d j r path

-- each clause that a member names is sorted
abbrev pub NamesSorted : List FoSym → List FoClause → Member → Type 0
NamesSorted syms clauses (resolve c i) = AreSorted syms clauses c
NamesSorted syms clauses (factor c i s j r) = AreSorted syms clauses c
NamesSorted syms clauses (superpose c i s d j r path) = AreSorted syms clauses c × AreSorted syms clauses d
