use Rattle.std.proofs.Common.{◌∙◌}
use Rattle.leo_kernel.proofs.Growing.{lits-grow}
use Rattle.leo_para.proofs.Looping.{due-kept}
use Rattle.leo_para.proofs.due.members.Goals as goal

pub members_of-requires-clause-equations : goal.members_of-requires-clause-equations
members_of-requires-clause-equations c = rw c.as_slice.ensures (lits-grow c.make_truths.ensures.grows c.args.from.now.lits c.requires.from.literals_of)

pub members_of-requires-clause-targets : goal.members_of-requires-clause-targets
members_of-requires-clause-targets c = rw c.as_slice-2.ensures (lits-grow c.make_truths.ensures.grows c.args.into.now.lits c.requires.into.literals_of)

pub returns-clause-members : goal.returns-clause-members
returns-clause-members c =
    (rw (c.as_slice.ensures, c.as_slice-2.ensures) at c.in_ok-found.ensures).found ∙ due-kept c.make_truths.ensures.grows c.args.from.now.lits c.args.into.now.lits c.requires.from.literals_of c.requires.into.literals_of
