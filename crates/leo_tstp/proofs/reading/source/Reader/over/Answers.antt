use Rattle.leo_tstp.proofs.Typing.{goes-by}
use Rattle.leo_tstp.proofs.TermSteps.{on-goes}
use Rattle.leo_tstp.proofs.reading.source.Reader.over.Goals as goal

pub returns-clause-goes : goal.returns-clause-goes
returns-clause-goes c = on-goes c.args.self.now c.pass.new.self c.binder.new.self c.binder.result (goes-by _ _ c.pass.ensures.stays) c.binder.ensures.goes
