use Rattle.leo_kernel.proofs.PlainRules.{bool_cased}
use Rattle.leo_kernel.proofs.plain.is_bool_case.Goals as goal

pub returns : goal.returns
returns c = bool_cased c.args.bank.now c.is_sound.ensures.sound c.args.parent.now c.args.place c.args.half c.args.lit.pos _ _ c.valued-first.result c.valued-second.result c.args.step.now c.requires.parent c.requires.step c.valued-first.ensures.left c.valued-first.ensures.right c.valued-second.ensures.left c.valued-second.ensures.right (rw c.first_value.ensures at c.valued-first.ensures.reads) (rw c.second_value.ensures at c.valued-second.ensures.reads) c.concludes.result c.concludes.ensures
