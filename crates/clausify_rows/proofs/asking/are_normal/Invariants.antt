use Rattle.std.proofs.Common.{map, take}
use Rattle.leo_terms.specs.Contents.{Extends}
use Rattle.leo_clause.specs.Trees.{literal_at}
use Rattle.leo_clausify.specs.Splitting.{AreNormal}
use Rattle.clausify_rows.proofs.asking.are_normal.Given as goal

abbrev pub invariant-loop-lit : goal.invariant-loop-lit
invariant-loop-lit l = Extends l.initial.bank l.bank × AreNormal (map (literal_at l.bank) (take l.lit-index l.lits))
