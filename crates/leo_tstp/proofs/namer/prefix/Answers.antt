use Rattle.leo_tstp.proofs.Wording.{marks-of-types, marks-of-constants}
use Rattle.leo_tstp.proofs.namer.prefix.Goals as goal

pub returns : goal.returns
returns c = rw (marks-of-types c.args.bank.now c.args.names.now.types, marks-of-constants c.args.bank.now c.args.names.now.constants, ← c.most_declared.ensures) c.marked.ensures
