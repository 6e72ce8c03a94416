-- What is so of the paramodulations that are due.
use Rattle.std.specs.Prelude.{ℕ, ◌≡◌, [], ◌∷◌, slice_get, Some}
use Rattle.leo_clause.specs.Trees.{ClauseTree}
use Rattle.leo_clause.specs.Typed.{IsTyped}
use Rattle.leo_kernel.specs.Steps.{Line}
use Rattle.leo_kernel.specs.Acceptance.{Accepts}
use Rattle.leo_kernel.specs.Symbols.{LiteralsLackSymbol}
use Rattle.leo_para.specs.Members.{Member, due_members, member_line}
use Rattle.leo_para.specs.Occurring.{ClauseLacksBase}

-- the step of each is accepted after the lines of both clauses, from no hypotheses
abbrev pub DueMembersAreAccepted : Type 0
DueMembersAreAccepted = (source target : Line) → IsTyped source.clause → IsTyped target.clause → (n : ℕ) (m : Member) → slice_get (due_members source.clause target.clause) n ≡ Some m
    → Accepts [] (source ∷ target ∷ []) (member_line source.clause target.clause m)

-- a symbol that is in neither clause is in no step
abbrev pub DueMembersAddNoSymbol : Type 0
DueMembersAddNoSymbol = (source target : ClauseTree) (s : ℕ) → LiteralsLackSymbol s source.literals → LiteralsLackSymbol s target.literals → (n : ℕ) (m : Member) → slice_get (due_members source target) n ≡ Some m
    → LiteralsLackSymbol s (member_line source target m).clause.literals

-- a base type that is in neither clause is in no step
abbrev pub DueMembersAddNoBase : Type 0
DueMembersAddNoBase = (source target : ClauseTree) (b : ℕ) → ClauseLacksBase b source → ClauseLacksBase b target → (n : ℕ) (m : Member) → slice_get (due_members source target) n ≡ Some m
    → ClauseLacksBase b (member_line source target m).clause
