use Rattle.std.proofs.Common.{subst}
use Rattle.leo_terms.specs.Contents.{Contents, IsTerm, tree_at, type_number}
use Rattle.leo_terms.specs.Tree.{lifted}
use Rattle.std.proofs.Common.{IfOk}
use Rattle.leo_terms.proofs.Growth.{Grows-trans}
use Rattle.leo_terms.proofs.PublicWords.{extends, raised-is}
use Rattle.leo_terms.proofs.bank.Bank.lift.Goals as goal

pub returns-clause-grows : goal.returns-clause-grows
returns-clause-grows c = extends c.args.self.now c.lift_from.new.self (Grows-trans c.args.self.now c.forget.new.self c.lift_from.new.self c.forget.ensures.grows c.lift_from.ensures.grows)

pub returns-clause-made : goal.returns-clause-made
returns-clause-made c = rw raised-is (subst (λ (v : Contents). IfOk c.lift_from.result (λ r. IsTerm c.lift_from.new.self r (type_number v c.args.t) (lifted 0 c.args.by (tree_at v c.args.t)))) c.forget.ensures.same c.lift_from.ensures.made)
