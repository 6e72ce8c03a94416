use Rattle.leo_problem.proofs.Pieces.{refused-tokens}
use Rattle.leo_problem.proofs.reading.statements.Goals as goal

pub returns-in-Err-clause-refusal : goal.returns-in-Err-clause-refusal
returns-in-Err-clause-refusal c = refused-tokens c.in-Err.refusal c.in-Err.ensures.refusal c.refused_bytes.ensures.refusal
