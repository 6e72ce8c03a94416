use Rattle.leo_problem.proofs.Pieces.{refused-file}
use Rattle.leo_problem.proofs.reading.read_tokens.Goals as goal

pub returns-in-Err-clause-refusal : goal.returns-in-Err-clause-refusal
returns-in-Err-clause-refusal c = refused-file c.in-Err.refusal c.requires.tokens c.in-Err.ensures.refusal c.refused_text.ensures.refusal
