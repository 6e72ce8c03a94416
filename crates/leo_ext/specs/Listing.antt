-- Lists of members in a bank.
use Rattle.std.specs.Prelude.{◌≡◌, List, [], ◌∷◌, ◌++◌, map}
use Rattle.leo_terms.specs.Contents.{Contents, Extends}
use Rattle.leo_clause.specs.declared.record.StepRecord.{StepRecord}
use Rattle.leo_kernel.specs.Records.{AreStepsOf, IsStepOf}
use Rattle.leo_kernel.specs.Steps.{Line, line_at}
use Rattle.leo_para.specs.declared.member.Due.{Due}
use Rattle.leo_ext.specs.Members.{Member}

-- a member of a bank
abbrev pub member_at : Contents → Due → Member
member_at c d = record { lines = map (line_at c) d.records; pairs = d.pairs }

-- the record is one of the bank, and reads so
pub record IsStep (c : Contents) (s : StepRecord) (l : Line) : Type 0 where
  pub step_of : IsStepOf c s
  pub reads : line_at c s ≡ l

-- the numbers of the records are numbers of the bank
abbrev pub AreDuesOf : Contents → List Due → Type 0
AreDuesOf c [] = Unit {0}
AreDuesOf c (d ∷ ds) = AreStepsOf c d.records × AreDuesOf c ds

-- these are members of the bank, and read so
pub record AreMembers (c : Contents) (ds : List Due) (members : List Member) : Type 0 where
  pub of_bank : AreDuesOf c ds
  pub reads : map (member_at c) ds ≡ members

-- the bank grew, and behind the members of a list come these
pub record Adds (c d : Contents) (old new : List Due) (more : List Member) : Type 0 where
  pub extends : Extends c d
  pub adds : (members : List Member) → AreMembers c old members → AreMembers d new (members ++ more)
