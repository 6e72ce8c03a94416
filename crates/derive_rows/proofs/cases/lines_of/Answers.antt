use Rattle.std.proofs.Common.{refl}
use Rattle.leo_derive.proofs.CallerLemmas.{problem-kept}
use Rattle.derive_rows.proofs.cases.lines_of.Goals as goal

pub returns-in_default-clause-problem : goal.returns-in_default-clause-problem
returns-in_default-clause-problem c = problem-kept c.make_terms.ensures.grows refl c.requires.problem

pub returns-clause-problem : goal.returns-clause-problem
returns-clause-problem c = problem-kept c.make_terms.ensures.grows refl c.requires.problem
