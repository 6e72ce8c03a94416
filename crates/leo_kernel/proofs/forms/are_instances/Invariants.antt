use Rattle.std.proofs.Common.{◌≡◌, map, take}
use Rattle.leo_terms.specs.Contents.{Extends, tree_at}
use Rattle.leo_clause.specs.declared.clause.Lit.{Lit}
use Rattle.leo_clause.specs.Trees.{literal_at}
use Rattle.leo_clause.specs.Renaming.{substituted_literal}
use Rattle.leo_kernel.proofs.Pairs.{Pairs}
use Rattle.leo_kernel.proofs.forms.are_instances.Given as goal

abbrev pub invariant-loop-place : goal.invariant-loop-place
invariant-loop-place l = Extends l.initial.bank l.bank × Pairs (λ (k j : Lit). literal_at l.initial.bank j ≡ substituted_literal (map (tree_at l.initial.bank) l.sigma) (literal_at l.initial.bank k)) (take l.place l.old) (take l.place l.new)
