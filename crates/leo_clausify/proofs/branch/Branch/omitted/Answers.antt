use Rattle.leo_clausify.proofs.Branching.{omitted-extended}
use Rattle.leo_clausify.proofs.branch.Branch.omitted.Goals as goal

pub returns : goal.returns
returns c = λ l later e never.
    omitted-extended c.args.bank.now c.is_sound.ensures.sound later c.args.self c.in_ok-branch.branch c.args.at l c.in_ok-clause.clause c.requires.branch e never c.in_ok-clause.ensures.vars c.in_ok-clause.ensures.lits c.in_ok-branch.ensures.clause c.in_ok-branch.ensures.steps
