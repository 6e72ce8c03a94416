use Rattle.std.proofs.Common.{◌<◌, length, subst, sym}
use Rattle.leo_terms.specs.Contents.{Contents}
use Rattle.leo_terms.specs.Normal.{IsPut}
use Rattle.leo_terms.proofs.NodeEq.{put_same}
use Rattle.leo_terms.proofs.MemoLemmas.{AreRight-put}
use Rattle.leo_terms.proofs.bank.Bank.keep_put.Goals as goal

pub invariant_of-self : goal.invariant_of-self
invariant_of-self c = record { sound = c.self.invariant.sound; facts = c.self.invariant.facts; right = AreRight-put _ _ _ _ _ c.self.invariant.right _ put_same _ (record { term = c.args.term; index = c.args.index; put = c.args.put }) c.args.r (record { known = subst (λ (v : Contents). c.args.term < length v.terms) (sym c.self.view_is) c.requires.within; put_known = subst (λ (v : Contents). c.args.put < length v.terms) (sym c.self.view_is) c.requires.put_within; made = subst (λ (v : Contents). IsPut v v c.args.term c.args.index c.args.put c.args.r) (sym c.self.view_is) c.requires.made }) c.keep.ensures.entries }
