use Rattle.leo_terms.proofs.CallerLemmas.{extends-itself}
use Rattle.keep_rows.proofs.asking.ask.Goals as goal

pub returns-in_default : goal.returns-in_default
returns-in_default c = record { grows = extends-itself c.is_sound.ensures.sound }
