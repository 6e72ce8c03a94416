use Rattle.std.proofs.Common.{[], ◌∙◌, refl}
use Rattle.leo_ext.proofs.Adding.{adds-step}
use Rattle.leo_ext.proofs.primitive.put_bound.Goals as goal

pub returns-clause-adds : goal.returns-clause-adds
returns-clause-adds c = adds-step c.bound_instance.ensures.grows c.args.dues.now.items c.put_member.new.dues.items c.in_ok-record.record [] _ (c.in_ok-put_member.ensures ∙ rw c.in_ok-records.ensures refl) c.in_ok-record.ensures.made
