use Rattle.std.proofs.Common.{map}
use Rattle.leo_clause.specs.declared.clause.Lit.{Lit}
use Rattle.leo_clause.specs.Trees.{literal_at}
use Rattle.leo_keep.specs.Tautologies.{HoldsWith}
use Rattle.leo_keep.proofs.Numbers.{get-index, none-next, no, yes, refuted}
use Rattle.leo_keep.proofs.Opposing.{literals-at, tautology-at, tautology-nowhere}
use Rattle.leo_keep.proofs.tautologies.is_tautology.Goals as goal

pub holds_with-requires-clause-left : goal.holds_with-requires-clause-left
holds_with-requires-clause-left c = (literals-at c.args.bank.now c.args.lits.now c.requires c.loop-lit.lit-index c.lit-item.result (get-index c.args.lits.now c.loop-lit.lit-index c.lit-item.result c.loop-lit-test.true c.lit-item.is)).0

pub holds_with-requires-clause-right : goal.holds_with-requires-clause-right
holds_with-requires-clause-right c = (literals-at c.args.bank.now c.args.lits.now c.requires c.loop-lit.lit-index c.lit-item.result (get-index c.args.lits.now c.loop-lit.lit-index c.lit-item.result c.loop-lit-test.true c.lit-item.is)).1

pub returns-then-holds_with : goal.returns-then-holds_with
returns-then-holds_with c = yes (tautology-at c.args.bank.now c.args.lits.now c.loop-lit.lit-index c.lit-item.result (get-index c.args.lits.now c.loop-lit.lit-index c.lit-item.result c.loop-lit-test.true c.lit-item.is) (c.holds_with.ensures.0 c.if-holds_with.true))

pub loop-lit-preserved : goal.loop-lit-preserved
loop-lit-preserved c =
    none-next (λ (k : Lit). HoldsWith (literal_at c.args.bank.now k) (map (literal_at c.args.bank.now) c.args.lits.now)) c.args.lits.now c.loop-lit.lit-index c.lit-item.result c.loop-lit.invariant (get-index c.args.lits.now c.loop-lit.lit-index c.lit-item.result c.loop-lit-test.true c.lit-item.is)
    (refuted c.holds_with.result c.holds_with.ensures c.if-holds_with.false)

pub returns : goal.returns
returns c = no (tautology-nowhere c.args.bank.now c.args.lits.now c.loop-lit.lit-index c.loop-lit.invariant c.loop-lit-test.false)
