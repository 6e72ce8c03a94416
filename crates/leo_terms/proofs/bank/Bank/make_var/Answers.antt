use Rattle.leo_terms.proofs.PublicWords.{extends, if_added}
use Rattle.leo_terms.proofs.bank.Bank.make_var.Goals as goal

pub returns-clause-grows : goal.returns-clause-grows
returns-clause-grows c = extends c.args.self.now c.numbered.new.self c.numbered.ensures.grows

pub returns-clause-added : goal.returns-clause-added
returns-clause-added c = if_added c.numbered.result c.args.self.now.terms c.numbered.new.self.terms _ c.numbered.ensures.added
