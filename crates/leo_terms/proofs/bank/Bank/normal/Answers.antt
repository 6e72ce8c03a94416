use Rattle.std.proofs.Common.{subst, IfOk}
use Rattle.std.proofs.lemmas.Result.{IfOk-weaker}
use Rattle.leo_terms.specs.Contents.{Contents}
use Rattle.leo_terms.specs.Normal.{IsNormalFormOf, HasNormalForm}
use Rattle.leo_terms.proofs.Growth.{Grows-trans}
use Rattle.leo_terms.proofs.PublicWords.{extends, has_normal_form}
use Rattle.leo_terms.proofs.bank.Bank.normal.Goals as goal

pub returns-clause-grows : goal.returns-clause-grows
returns-clause-grows c = extends c.args.self.now c.normalize.new.self (Grows-trans c.args.self.now c.forget.new.self c.normalize.new.self c.forget.ensures.grows c.normalize.ensures.grows)

pub returns-clause-made : goal.returns-clause-made
returns-clause-made c =
    let old = c.args.self.now in
    let new = c.normalize.new.self in
    IfOk-weaker c.normalize.result (IsNormalFormOf old new c.args.t) (HasNormalForm old new c.args.t) (has_normal_form old new c.args.t)
    (subst (λ (v : Contents). IfOk c.normalize.result (IsNormalFormOf v new c.args.t)) c.forget.ensures.same c.normalize.ensures.made)
