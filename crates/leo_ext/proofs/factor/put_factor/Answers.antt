use Rattle.leo_ext.specs.Members.{factor_at}
use Rattle.leo_ext.proofs.Adding.{first-none, first-next, stands-at}
use Rattle.leo_ext.proofs.factor.put_factor.Goals as goal

pub loop-at-init : goal.loop-at-init
loop-at-init c = first-none (factor_at c.args.before) c.args.bank.now c.args.clause.now c.is_sound.ensures.sound c.args.dues.now.items

pub put_factor_at-requires-clause-lit : goal.put_factor_at-requires-clause-lit
put_factor_at-requires-clause-lit c = stands-at c.args.clause.now.lits c.loop-at.at c.index-lits-at.result (rw c.as_slice-lits.ensures at c.loop-at-test.true) (rw c.as_slice-lits.ensures at c.index-lits-at.is)

pub loop-at-preserved : goal.loop-at-preserved
loop-at-preserved c =
    first-next (factor_at c.args.before) c.args.bank.now c.args.clause.now c.requires.clause.of_bank c.args.bank.now c.args.bank.now c.loop-at.at c.index-lits-at.result c.args.dues.now.items c.loop-at.dues.items c.put_factor_at.new.dues.items
    c.loop-at.invariant (rw c.as_slice-lits.ensures at c.loop-at-test.true) (rw c.as_slice-lits.ensures at c.index-lits-at.is) c.in_ok-put_factor_at.ensures.adds
