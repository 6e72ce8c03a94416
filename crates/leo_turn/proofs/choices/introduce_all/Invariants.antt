use Rattle.leo_terms.specs.Contents.{Extends}
use Rattle.leo_turn.proofs.Introducing.{AreIntroduced}
use Rattle.leo_turn.proofs.choices.introduce_all.Given as goal

abbrev pub invariant-loop-place : goal.invariant-loop-place
invariant-loop-place l = Extends l.initial.bank l.bank × AreIntroduced l.bank l.initial.search l.search l.items l.place
