use Rattle.std.proofs.Common.{take}
use Rattle.leo_terms.specs.Contents.{Extends}
use Rattle.leo_clause.specs.declared.clause.Lit.{Lit}
use Rattle.leo_clause.specs.Trees.{literal_at}
use Rattle.leo_kernel.specs.Conclusions.{IsConverted}
use Rattle.leo_kernel.proofs.Pairs.{Pairs}
use Rattle.leo_kernel.proofs.forms.are_converted.Given as goal

abbrev pub invariant-loop-place : goal.invariant-loop-place
invariant-loop-place l = Extends l.initial.bank l.bank × Pairs (λ (k j : Lit). IsConverted (literal_at l.initial.bank k) (literal_at l.initial.bank j)) (take l.place l.old) (take l.place l.new)
