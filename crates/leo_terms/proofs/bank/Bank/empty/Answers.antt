use Rattle.std.proofs.Common.{rules}
use Rattle.leo_terms.proofs.FactLemmas.{facts-of_none}
use Rattle.leo_terms.proofs.MemoLemmas.{AreRight-none}
use Rattle.leo_terms.proofs.bank.Bank.empty.Goals as goal

pub invariant_of-result : goal.invariant_of-result
invariant_of-result c = record {
  sound = search rules;
  facts = facts-of_none _ _ c.new-2.ensures.empty c.new-3.ensures.items;
  right = AreRight-none _ _ _ _ _ c.new-4.ensures.empty c.new-5.ensures.empty c.new-6.ensures.empty c.new-7.ensures.empty;
}
