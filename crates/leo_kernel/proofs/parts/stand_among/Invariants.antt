use Rattle.std.proofs.Common.{◌≡◌, map, take, true}
use Rattle.std.specs.List.{list_any}
use Rattle.leo_clause.specs.declared.clause.Lit.{Lit}
use Rattle.leo_clause.specs.Trees.{literal_at}
use Rattle.leo_clause.specs.Sameness.{same_literal}
use Rattle.leo_kernel.proofs.Lists.{Each}
use Rattle.leo_kernel.proofs.parts.stand_among.Given as goal

abbrev pub invariant-loop-lit : goal.invariant-loop-lit
invariant-loop-lit l = Each (λ (k : Lit). list_any (same_literal (literal_at l.bank k)) (map (literal_at l.bank) l.others) ≡ true) (take l.lit-index l.lits)
