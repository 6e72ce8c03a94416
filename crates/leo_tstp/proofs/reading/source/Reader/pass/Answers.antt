use Rattle.leo_tstp.proofs.Ahead.{passed, no-word}
use Rattle.leo_tstp.proofs.reading.source.Reader.pass.Goals as goal

pub returns-then-self-clause-passes : goal.returns-then-self-clause-passes
returns-then-self-clause-passes c = λ word rest h. passed _ _ _ word rest h

pub returns-else-self-clause-passes : goal.returns-else-self-clause-passes
returns-else-self-clause-passes c = λ word rest h. absurd (no-word _ _ _ word rest c.if-self.false h)
