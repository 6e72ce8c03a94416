use Rattle.std.proofs.Common.{◌∙◌}
use Rattle.leo_turn.proofs.Converting.{clause-made}
use Rattle.leo_turn.proofs.normal.normal.Goals as goal

pub returns-clause-made : goal.returns-clause-made
returns-clause-made c = clause-made c.normal_lits.ensures.grows c.args.clause.now c.in_ok-vars.vars c.in_ok-lits.lits c.as_slice.result.now c.requires (c.in_ok-vars.ensures ∙ c.as_slice-2.ensures) c.as_slice.ensures c.in_ok-lits.ensures.made
