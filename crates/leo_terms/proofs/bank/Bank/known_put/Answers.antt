use Rattle.std.proofs.Common.{◌<◌, length, subst}
use Rattle.std.specs.Option.{IfSome}
use Rattle.leo_terms.specs.Normal.{IsPut}
use Rattle.leo_terms.specs.Contents.{Contents}
use Rattle.leo_terms.proofs.NodeEq.{put_same}
use Rattle.leo_terms.proofs.MemoLemmas.{known_put-right}
use Rattle.leo_terms.proofs.bank.Bank.known_put.Goals as goal

pub returns-clause-made : goal.returns-clause-made
returns-clause-made c =
    subst (λ (v : Contents). IfSome c.find.result (λ r. (c.args.term < length v.terms) × (c.args.put < length v.terms) × IsPut v v c.args.term c.args.index c.args.put r)) c.self.view_is
    (known_put-right _ _ _ _ _ c.self.invariant.right _ put_same (record { term = c.args.term; index = c.args.index; put = c.args.put }) c.find.result c.find.ensures)
