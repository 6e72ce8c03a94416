use Rattle.std.proofs.Common.{take}
use Rattle.leo_terms.specs.Contents.{Extends}
use Rattle.leo_clause.specs.Trees.{clause_at}
use Rattle.leo_para.specs.Concluding.{AreDone}
use Rattle.leo_para.specs.Members.{due_members}
use Rattle.leo_para.proofs.paramodulation.dues_of.Given as goal

abbrev pub invariant-loop-member : goal.invariant-loop-member
invariant-loop-member l = Extends l.initial.bank l.bank × AreDone l.initial.bank l.bank l.from l.into (take l.member-index (due_members (clause_at l.initial.bank l.from) (clause_at l.initial.bank l.into))) l.dues
