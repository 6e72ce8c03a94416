use Rattle.std.proofs.Common.{ap, map, sym}
use Rattle.leo_terms.proofs.CallerLemmas.{extends-itself}
use Rattle.leo_ext.specs.Functions.{extended_member}
use Rattle.leo_ext.proofs.Adding.{adds-as, adds-both, adds-nothing}
use Rattle.leo_ext.proofs.FunctionMembers.{extended-at}
use Rattle.leo_ext.proofs.Loops.{map-next, take-all}
use Rattle.leo_ext.proofs.func_ext.put_func_ext.Goals as goal

pub loop-one-init : goal.loop-one-init
loop-one-init c = adds-nothing (extends-itself c.is_sound.ensures.sound) c.args.dues.now.items

pub put_extended-requires : goal.put_extended-requires
put_extended-requires c = extended-at c.args.bank.now c.args.extended.now c.requires c.loop-one.one-index c.one-item.result c.loop-one-test.true c.one-item.is

pub loop-one-preserved : goal.loop-one-preserved
loop-one-preserved c =
    adds-as c.args.dues.now.items c.put_extended.new.dues.items _ _ (adds-both c.args.dues.now.items c.loop-one.dues.items c.put_extended.new.dues.items _ _ c.loop-one.invariant c.in_ok-put_extended.ensures.adds)
    (sym (map-next (extended_member c.args.bank.now c.args.before) c.args.extended.now c.loop-one.one-index c.one-item.result c.loop-one-test.true c.one-item.is))

pub returns : goal.returns
returns c = record {
  adds = adds-as c.args.dues.now.items c.loop-one.dues.items _ _ c.loop-one.invariant (ap (map (extended_member c.args.bank.now c.args.before)) (take-all c.args.extended.now c.loop-one.one-index c.loop-one-test.false));
}
