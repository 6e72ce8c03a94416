use Rattle.fo_super.proofs.Reading.{front-prefix, front-read}
use Rattle.fo_super.proofs.matching.fit_variable.Goals as goal

pub bind-requires-clause-nodes : goal.bind-requires-clause-nodes
bind-requires-clause-nodes c =
    let r = c.requires.starts in
    front-prefix c.split_term.result.0.now r.0 (c.split_term.ensures r.0 r.1 r.2).0

pub returns-then-branch : goal.returns-then-branch
returns-then-branch c = λ t back e.
    let k = c.split_term.ensures t back e in
    (rw (c.if-branch.true, front-read c.split_term.result.0.now t k.0) at c.in_ok-bind.ensures, k.1)

pub returns-else-branch : goal.returns-else-branch
returns-else-branch c = λ t back e.
    let k = c.split_term.ensures t back e in
    rw (c.if-branch.false, front-read c.split_term.result.0.now t k.0) at c.in_ok-bind.ensures
