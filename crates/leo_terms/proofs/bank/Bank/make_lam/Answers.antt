use Rattle.std.proofs.Common.{ℕ}
use Rattle.std.proofs.lemmas.Result.{IfOk-weaker}
use Rattle.leo_terms.specs.declared.node.TermNode.{TermNode}
use Rattle.leo_terms.specs.declared.node.View.TheVariants.{Lam}
use Rattle.leo_terms.specs.Contents.{AddsShared, IsAdded, node, type_number}
use Rattle.leo_terms.proofs.PublicWords.{extends, is_added}
use Rattle.leo_terms.proofs.bank.Bank.make_lam.Goals as goal

pub returns-clause-grows : goal.returns-clause-grows
returns-clause-grows c = extends c.args.self.now c.lambda.new.self c.lambda.ensures.grows

pub returns-clause-added : goal.returns-clause-added
returns-clause-added c =
    let old = c.args.self.now.terms in
    let new = c.lambda.new.self in
    let made : ℕ → TermNode = λ t. node (Lam c.args.ty c.args.body) (type_number new t) in
    IfOk-weaker c.lambda.result (λ t. AddsShared old new.terms (made t) t) (λ t. IsAdded old new.terms (made t) t) (λ t a. is_added old new.terms (made t) t a) c.lambda.ensures.added
