use Rattle.std.proofs.Common.{map, take}
use Rattle.leo_terms.specs.Contents.{Extends}
use Rattle.leo_clause.specs.Trees.{literal_at}
use Rattle.leo_clausify.specs.Literals.{AreLiterals}
use Rattle.leo_clausify.specs.Splitting.{normal_literal}
use Rattle.leo_turn.proofs.normal.normal_lits.Given as goal

abbrev pub invariant-loop-lit : goal.invariant-loop-lit
invariant-loop-lit l = Extends l.initial.bank l.bank × AreLiterals l.bank l.normals (map normal_literal (map (literal_at l.initial.bank) (take l.lit-index l.lits)))
