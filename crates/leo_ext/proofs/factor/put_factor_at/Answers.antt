use Rattle.leo_clause.specs.Trees.{literal_at}
use Rattle.leo_ext.specs.Members.{factor_with}
use Rattle.leo_ext.proofs.Adding.{first-none, first-next, stands-at}
use Rattle.leo_ext.proofs.factor.put_factor_at.Goals as goal

pub loop-second-init : goal.loop-second-init
loop-second-init c = first-none (λ k. factor_with c.args.before k c.args.at (literal_at c.args.bank.now c.args.lit.now)) c.args.bank.now c.args.clause.now c.is_sound.ensures.sound c.args.dues.now.items

pub put_factor_with-requires-clause-pair : goal.put_factor_with-requires-clause-pair
put_factor_with-requires-clause-pair c = record { first_stands = c.requires.lit; second_stands = stands-at c.args.clause.now.lits c.loop-second.second c.index-lits-second.result (rw c.as_slice-lits.ensures at c.loop-second-test.true) (rw c.as_slice-lits.ensures at c.index-lits-second.is) }

pub loop-second-preserved : goal.loop-second-preserved
loop-second-preserved c =
    first-next (λ k. factor_with c.args.before k c.args.at (literal_at c.args.bank.now c.args.lit.now)) c.args.bank.now c.args.clause.now c.requires.clause.of_bank c.args.bank.now c.args.bank.now c.loop-second.second c.index-lits-second.result c.args.dues.now.items c.loop-second.dues.items c.put_factor_with.new.dues.items
    c.loop-second.invariant (rw c.as_slice-lits.ensures at c.loop-second-test.true) (rw c.as_slice-lits.ensures at c.index-lits-second.is) c.in_ok-put_factor_with.ensures.adds
