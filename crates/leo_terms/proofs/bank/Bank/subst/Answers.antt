use Rattle.leo_terms.proofs.PublicWords.{extends, put_in-is}
use Rattle.leo_terms.proofs.bank.Bank.subst.Goals as goal

pub returns-clause-grows : goal.returns-clause-grows
returns-clause-grows c = extends c.args.self.now c.subst_under.new.self c.subst_under.ensures.grows

pub returns-clause-made : goal.returns-clause-made
returns-clause-made c = rw put_in-is c.subst_under.ensures.made
