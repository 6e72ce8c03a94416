use Rattle.leo_clause.specs.Trees.{literal_at}
use Rattle.leo_clause.proofs.Meeting.{literals-at}
use Rattle.leo_tstp.specs.Namings.{words_in}
use Rattle.leo_tstp.specs.ClauseTexts.{further_literal}
use Rattle.leo_tstp.proofs.Writing.{one-more}
use Rattle.leo_tstp.proofs.clauses.write_further_literals.Goals as goal

pub write_further_literal-requires-clause-left : goal.write_further_literal-requires-clause-left
write_further_literal-requires-clause-left c = (literals-at c.args.bank.now c.args.lits.now c.requires c.loop-lit.lit-index c.lit-item.result c.loop-lit-test.true c.lit-item.is).0

pub write_further_literal-requires-clause-right : goal.write_further_literal-requires-clause-right
write_further_literal-requires-clause-right c = (literals-at c.args.bank.now c.args.lits.now c.requires c.loop-lit.lit-index c.lit-item.result c.loop-lit-test.true c.lit-item.is).1

pub loop-lit-preserved : goal.loop-lit-preserved
loop-lit-preserved c =
    one-more (further_literal (words_in c.args.bank.now c.args.namer.now)) (literal_at c.args.bank.now) c.args.lits.now c.loop-lit.lit-index c.lit-item.result _ c.loop-lit.out.items _
    c.loop-lit-test.true c.lit-item.is c.loop-lit.invariant c.in_ok-write_further_literal.ensures
