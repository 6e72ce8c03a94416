use Rattle.leo_terms.specs.Contents.{Extends}
use Rattle.keep_rows.specs.Boards.{AreClausesOf}
use Rattle.keep_rows.proofs.asking.kept_of.Given as goal

abbrev pub invariant-loop-text : goal.invariant-loop-text
invariant-loop-text l = Extends l.initial.bank l.bank × AreClausesOf l.bank l.kept
