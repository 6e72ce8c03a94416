use Rattle.leo_terms.proofs.MemoLemmas.{AreRight-fewer}
use Rattle.leo_terms.proofs.bank.Bank.forget.Goals as goal

pub invariant_of-self : goal.invariant_of-self
invariant_of-self c = record { sound = c.self.invariant.sound; facts = c.self.invariant.facts; right = AreRight-fewer _ _ _ _ _ c.self.invariant.right _ _ _ c.shorten.ensures c.shorten-2.ensures c.shorten-3.ensures }
