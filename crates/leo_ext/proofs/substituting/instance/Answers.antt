use Rattle.std.proofs.Common.{◌∙◌, refl}
use Rattle.leo_ext.proofs.BoundMembers.{clause-given, instance-step}
use Rattle.leo_ext.proofs.substituting.instance.Goals as goal

pub instance_lits-requires-clause-given : goal.instance_lits-requires-clause-given
instance_lits-requires-clause-given c = rw c.as_slice.ensures (clause-given c.args.bank.now c.args.clause.now c.args.fresh.now c.args.sigma.now c.requires.clause c.requires.fits)

pub returns-clause-made : goal.returns-clause-made
returns-clause-made c =
    instance-step c.instance_lits.ensures.grows c.args.clause.now c.requires.clause c.args.fresh.now c.args.sigma.now c.append.new.self c.in_ok-sigma.sigma c.in_ok-lits.lits c.args.parent c.requires.fresh c.requires.terms
    (rw c.as_slice.ensures at c.in_ok-lits.ensures.made) (c.in_ok-append.ensures ∙ rw (c.in_ok-vars.ensures ∙ c.as_slice-2.ensures, c.in_ok-from_slice.ensures) refl) c.in_ok-sigma.ensures
