use Rattle.std.proofs.Common.{◌∙◌}
use Rattle.leo_terms.proofs.MemoLemmas.{found}
use Rattle.leo_terms.proofs.memo.find.Goals as goal

pub returns : goal.returns
returns g c = found _ _ c.copied.result (c.copied.ensures ∙ c.get.ensures.value)
