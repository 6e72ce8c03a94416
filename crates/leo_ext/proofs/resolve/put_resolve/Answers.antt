use Rattle.leo_ext.specs.Members.{resolve_at}
use Rattle.leo_ext.proofs.Adding.{first-none, first-next}
use Rattle.leo_ext.proofs.resolve.put_resolve.Goals as goal

pub loop-at-init : goal.loop-at-init
loop-at-init c = first-none (resolve_at c.args.before) c.args.bank.now c.args.clause.now c.is_sound.ensures.sound c.args.dues.now.items

pub loop-at-preserved : goal.loop-at-preserved
loop-at-preserved c =
    first-next (resolve_at c.args.before) c.args.bank.now c.args.clause.now c.requires.clause.of_bank c.args.bank.now c.args.bank.now c.loop-at.at c.index-lits-at.result c.args.dues.now.items c.loop-at.dues.items c.put_resolve_at.new.dues.items
    c.loop-at.invariant (rw c.as_slice-lits.ensures at c.loop-at-test.true) (rw c.as_slice-lits.ensures at c.index-lits-at.is) c.in_ok-put_resolve_at.ensures.adds
