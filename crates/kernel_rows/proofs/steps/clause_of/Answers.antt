use Rattle.leo_terms.proofs.CallerLemmas.{extends-itself}
use Rattle.kernel_rows.proofs.steps.clause_of.Goals as goal

pub returns-in_err-texts-clause-grows : goal.returns-in_err-texts-clause-grows
returns-in_err-texts-clause-grows c = extends-itself c.is_sound.ensures.sound
