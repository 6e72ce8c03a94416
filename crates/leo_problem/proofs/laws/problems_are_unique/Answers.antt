use Rattle.leo_problem.proofs.OneGathering.{one-problem}
use Rattle.leo_problem.proofs.laws.problems_are_unique.Goals as goal

pub returns : goal.returns
returns c = one-problem c.tokens_are_unique.ensures.one_list c.tokens_are_unique.ensures.one_place c.tokens_are_unique.ensures.not_both
