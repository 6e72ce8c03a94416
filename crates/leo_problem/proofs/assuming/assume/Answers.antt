use Rattle.leo_terms.proofs.CallerLemmas.{extends-itself}
use Rattle.leo_problem.proofs.Assumed.{assumed-itself}
use Rattle.leo_problem.proofs.assuming.assume.Goals as goal

pub returns-in_default : goal.returns-in_default
returns-in_default c = record { closed = c.requires; means = assumed-itself c.args.role _ c.in_default.not-Conjecture; grows = extends-itself c.is_sound.ensures.sound }
