use Rattle.leo_ext.proofs.FunctionMembers.{extended-added}
use Rattle.leo_ext.proofs.func_ext.put_extended.Goals as goal

pub returns : goal.returns
returns c = record {
  adds = extended-added c.args.bank.now c.is_sound.ensures.sound c.args.extended.now c.in_ok-conclusion.conclusion c.requires c.args.before c.args.dues.now.items c.put_member.new.dues.items c.in_ok-records.records c.in_ok-conclusion.ensures c.in_ok-records.ensures c.in_ok-put_member.ensures;
}
