use Rattle.ext_rows.proofs.Ready.{choice-at}
use Rattle.ext_rows.proofs.telling.put_choices.Goals as goal

pub put_choice-requires : goal.put_choice-requires
put_choice-requires g c = choice-at c.args.bank.now c.args.abbr.now.items c.requires c.loop-choice.choice-index c.choice-item.result (rw c.as_slice-choices.ensures at c.loop-choice-test.true) (rw c.as_slice-choices.ensures at c.choice-item.is)
