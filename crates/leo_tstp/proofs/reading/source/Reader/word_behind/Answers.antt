use Rattle.std.proofs.Common.{◌∙◌}
use Rattle.leo_tstp.proofs.Ahead.{second-first, second-none}
use Rattle.leo_tstp.proofs.reading.source.Reader.word_behind.Goals as goal

pub returns-then-self : goal.returns-then-self
returns-then-self c = c.word_at.ensures ∙ second-first _ _ _

pub returns-else-self : goal.returns-else-self
returns-else-self c = second-none _ _ _ c.if-self.false
