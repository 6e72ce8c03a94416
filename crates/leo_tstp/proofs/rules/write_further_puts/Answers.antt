use Rattle.std.proofs.Common.{◌++◌}
use Rattle.std.specs.Prelude.{codes}
use Rattle.leo_terms.specs.Contents.{tree_at}
use Rattle.leo_tstp.specs.Namings.{words_in}
use Rattle.leo_tstp.specs.StepTexts.{put_text}
use Rattle.leo_tstp.proofs.Writing.{one-more}
use Rattle.leo_tstp.proofs.rules.write_further_puts.Goals as goal

pub loop-term-preserved : goal.loop-term-preserved
loop-term-preserved c =
    one-more (λ t. codes "," ++ put_text (words_in c.args.bank.now c.args.namer.now) t) (tree_at c.args.bank.now) c.args.terms.now c.loop-term.term-index c.term-item.result _ c.loop-term.out.items _
    c.loop-term-test.true c.term-item.is c.loop-term.invariant c.in_ok-write_further_put.ensures
