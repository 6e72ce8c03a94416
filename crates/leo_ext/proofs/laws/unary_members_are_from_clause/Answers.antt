use Rattle.leo_ext.proofs.Origins.{choices-from, members-from}
use Rattle.leo_ext.proofs.laws.unary_members_are_from_clause.Goals as goal

pub returns : goal.returns
returns c = record { lines = members-from; choices = choices-from }
