use Rattle.leo_terms.specs.Contents.{Extends}
use Rattle.leo_clausify.specs.Choosing.{AreInOrder}
use Rattle.ext_rows.proofs.telling.tell_clauses.Given as goal

abbrev pub invariant-loop-text : goal.invariant-loop-text
invariant-loop-text g l = Extends l.initial.bank l.bank × AreInOrder l.bank l.abbr.items
