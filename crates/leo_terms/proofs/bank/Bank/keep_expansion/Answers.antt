use Rattle.std.proofs.Common.{◌<◌, length, subst, sym}
use Rattle.leo_terms.specs.Contents.{Contents}
use Rattle.leo_terms.specs.Normal.{IsExpansionOf}
use Rattle.leo_terms.proofs.NodeEq.{id_same}
use Rattle.leo_terms.proofs.MemoLemmas.{AreRight-expansion}
use Rattle.leo_terms.proofs.bank.Bank.keep_expansion.Goals as goal

pub invariant_of-self : goal.invariant_of-self
invariant_of-self c = record { sound = c.self.invariant.sound; facts = c.self.invariant.facts; right = AreRight-expansion _ _ _ _ _ c.self.invariant.right _ id_same _ c.args.term c.args.r (record { known = subst (λ (v : Contents). c.args.term < length v.terms) (sym c.self.view_is) c.requires.within; made = subst (λ (v : Contents). IsExpansionOf v v c.args.term c.args.r) (sym c.self.view_is) c.requires.made }) c.keep.ensures.entries }
