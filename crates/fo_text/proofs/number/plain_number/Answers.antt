use Rattle.std.proofs.Common.{◌∙◌}
use Rattle.fo_text.proofs.NumberWords.{begun}
use Rattle.fo_text.proofs.number.plain_number.Goals as goal

pub returns : goal.returns
returns c = begun c.args.input.now c.in_ok-first.first c.in_ok-first.tail.now c.in_ok-first.ensures.0 ∙ c.digits.ensures.same
