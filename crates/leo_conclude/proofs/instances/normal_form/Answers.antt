use Rattle.std.proofs.Common.{◌∙◌}
use Rattle.leo_conclude.proofs.Inferring.{normal-first}
use Rattle.leo_conclude.proofs.instances.normal_form.Goals as goal

pub returns-clause-derived : goal.returns-clause-derived
returns-clause-derived c =
    normal-first c.normal_lits.ensures.grows c.args.clause.now c.requires c.in_ok-lits.lits (rw c.as_slice.ensures at c.in_ok-lits.ensures.made) c.in_ok-vars.vars (c.in_ok-vars.ensures ∙ c.as_slice-2.ensures) c.in_ok-derived.derived c.in_ok-derived-2.derived c.in_ok-derived.ensures c.in_ok-derived-2.ensures.clause c.in_ok-derived-2.ensures.records
