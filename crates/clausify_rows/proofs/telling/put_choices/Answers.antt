use Rattle.clausify_rows.proofs.Answering.{choice-at}
use Rattle.clausify_rows.proofs.telling.put_choices.Goals as goal

pub put_choice-requires : goal.put_choice-requires
put_choice-requires g c = choice-at c.args.bank.now c.args.choices.now c.requires c.loop-choice.choice-index c.choice-item.result c.loop-choice-test.true c.choice-item.is
