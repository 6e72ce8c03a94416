use Rattle.std.proofs.Common.{◌<◌, length, subst, sym}
use Rattle.leo_terms.specs.Contents.{Contents, IsTerm, tree_at, type_number}
use Rattle.leo_terms.specs.Tree.{lifted}
use Rattle.leo_terms.proofs.NodeEq.{lift_same}
use Rattle.leo_terms.proofs.MemoLemmas.{AreRight-lift}
use Rattle.leo_terms.proofs.bank.Bank.keep_lift.Goals as goal

pub invariant_of-self : goal.invariant_of-self
invariant_of-self c = record { sound = c.self.invariant.sound; facts = c.self.invariant.facts; right = AreRight-lift _ _ _ _ _ c.self.invariant.right _ lift_same _ (record { term = c.args.term; from = c.args.from; by = c.args.by }) c.args.r (record { known = subst (λ (v : Contents). c.args.term < length v.terms) (sym c.self.view_is) c.requires.within; made = subst (λ (v : Contents). IsTerm v c.args.r (type_number v c.args.term) (lifted c.args.from c.args.by (tree_at v c.args.term))) (sym c.self.view_is) c.requires.made }) c.keep.ensures.entries }
