use Rattle.leo_terms.proofs.CallerLemmas.{extends-itself}
use Rattle.leo_kernel.proofs.shape.concludes.Goals as goal

pub returns-in-Axiom-clause-grows : goal.returns-in-Axiom-clause-grows
returns-in-Axiom-clause-grows c = extends-itself c.is_sound.ensures.sound

pub returns-in-Arrange-clause-grows : goal.returns-in-Arrange-clause-grows
returns-in-Arrange-clause-grows c = extends-itself c.is_sound.ensures.sound

pub returns-in-Drop-clause-grows : goal.returns-in-Drop-clause-grows
returns-in-Drop-clause-grows c = extends-itself c.is_sound.ensures.sound

pub returns-in-BoolExt-clause-grows : goal.returns-in-BoolExt-clause-grows
returns-in-BoolExt-clause-grows c = extends-itself c.is_sound.ensures.sound

pub returns-in-Decompose-clause-grows : goal.returns-in-Decompose-clause-grows
returns-in-Decompose-clause-grows c = extends-itself c.is_sound.ensures.sound

pub returns-in-Refl-clause-grows : goal.returns-in-Refl-clause-grows
returns-in-Refl-clause-grows c = extends-itself c.is_sound.ensures.sound

pub returns-in-Factor-clause-grows : goal.returns-in-Factor-clause-grows
returns-in-Factor-clause-grows c = extends-itself c.is_sound.ensures.sound

pub returns-in-Abbreviate-clause-grows : goal.returns-in-Abbreviate-clause-grows
returns-in-Abbreviate-clause-grows c = extends-itself c.is_sound.ensures.sound
