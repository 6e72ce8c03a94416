use Rattle.leo_problem.proofs.ShortTexts.{short-text}
use Rattle.leo_problem.proofs.loading.generated_statements.Goals as goal

pub statements-requires : goal.statements-requires
statements-requires c = rw (c.deref.ensures.value, c.in_ok-text.ensures) (short-text c.args.count c.requires.most)
