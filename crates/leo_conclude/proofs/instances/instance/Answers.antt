use Rattle.std.proofs.Common.{◌∙◌}
use Rattle.leo_terms.proofs.CallerLemmas.{extends-trans}
use Rattle.leo_conclude.proofs.Inferring.{instance-derived, sigma-given}
use Rattle.leo_conclude.proofs.instances.instance.Goals as goal

pub instance_lits-requires-clause-given : goal.instance_lits-requires-clause-given
instance_lits-requires-clause-given c = rw (c.as_slice-terms.ensures, c.as_slice.ensures) (sigma-given c.args.bank.now c.args.clause.now c.args.sigma.now c.requires.clause c.requires.sigma)

pub returns-in_err-normals-clause-grows : goal.returns-in_err-normals-clause-grows
returns-in_err-normals-clause-grows c = extends-trans c.instance_lits.ensures.grows c.normal_lits.ensures.grows

pub returns-in_err-vars-clause-grows : goal.returns-in_err-vars-clause-grows
returns-in_err-vars-clause-grows c = extends-trans c.instance_lits.ensures.grows c.normal_lits.ensures.grows

pub returns-in_err-normal_vars-clause-grows : goal.returns-in_err-normal_vars-clause-grows
returns-in_err-normal_vars-clause-grows c = extends-trans c.instance_lits.ensures.grows c.normal_lits.ensures.grows

pub returns-in_err-from_slice-clause-grows : goal.returns-in_err-from_slice-clause-grows
returns-in_err-from_slice-clause-grows c = extends-trans c.instance_lits.ensures.grows c.normal_lits.ensures.grows

pub returns-in_err-derived-clause-grows : goal.returns-in_err-derived-clause-grows
returns-in_err-derived-clause-grows c = extends-trans c.instance_lits.ensures.grows c.normal_lits.ensures.grows

pub returns-in_err-derived-2-clause-grows : goal.returns-in_err-derived-2-clause-grows
returns-in_err-derived-2-clause-grows c = extends-trans c.instance_lits.ensures.grows c.normal_lits.ensures.grows

pub returns-in_err-derived-3-clause-grows : goal.returns-in_err-derived-3-clause-grows
returns-in_err-derived-3-clause-grows c = extends-trans c.instance_lits.ensures.grows c.normal_lits.ensures.grows

pub returns-clause-derived : goal.returns-clause-derived
returns-clause-derived c =
    instance-derived c.instance_lits.ensures.grows c.normal_lits.ensures.grows c.args.clause.now c.args.sigma.now c.requires.clause c.requires.sigma c.requires.from c.in_ok-lits.lits c.in_ok-normals.normals
    (rw (c.as_slice-terms.ensures, c.as_slice.ensures) at c.in_ok-lits.ensures.made) (rw c.as_slice-2.ensures at c.in_ok-normals.ensures.made)
    c.in_ok-derived.derived c.in_ok-derived-2.derived c.in_ok-derived-3.derived c.in_ok-vars.vars c.in_ok-from_slice.field-0 c.in_ok-normal_vars.normal_vars
    (c.in_ok-vars.ensures ∙ c.as_slice-3.ensures) (c.in_ok-normal_vars.ensures ∙ c.as_slice-4.ensures) (c.in_ok-from_slice.ensures ∙ c.as_slice-terms.ensures) c.in_ok-derived.ensures
    c.in_ok-derived-2.ensures.clause c.in_ok-derived-2.ensures.records c.in_ok-derived-3.ensures.clause c.in_ok-derived-3.ensures.records

pub returns-clause-grows : goal.returns-clause-grows
returns-clause-grows c = extends-trans c.instance_lits.ensures.grows c.normal_lits.ensures.grows
