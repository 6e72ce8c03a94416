use Rattle.std.proofs.Common.{◌∙◌, sym, arith}
use Rattle.std.proofs.lemmas.Result.{err_from_is_err_and}
use Rattle.leo_syntax.specs.Source.{ahead, end_of}
use Rattle.leo_syntax.proofs.Names.{going_refused, going_last, going_step}
use Rattle.leo_syntax.proofs.includes.names.Goals as goal

pub returns-in_err-name-clause-gives : goal.returns-in_err-name-clause-gives
returns-in_err-name-clause-gives c =
    let p = err_from_is_err_and c.from_residual.result c.from_residual.ensures.1 in
    rw (p.1, p.2) (λ some. going_refused (end_of c.args.source.now) (ahead c.args.source.now c.args.at.now) (ahead c.args.source.now c.names.at) c.names.found c.in_err-name.field-0.0 (c.in_err-name.ensures.gives some) c.names.invariant.0)

pub returns-then-not-eat-clause-gives : goal.returns-then-not-eat-clause-gives
returns-then-not-eat-clause-gives c =
    let none = c.if-not-eat.true in
    let after = rw none at c.eat.ensures.after in
    rw (c.in_ok-push.ensures.ok, after) (going_last (end_of c.args.source.now) (ahead c.args.source.now c.args.at.now) (ahead c.args.source.now c.names.at) (ahead c.args.source.now c.say.new.at) c.names.found c.in_ok-name.name c.in_ok-name.ensures.gives (sym c.eat.ensures.value ∙ none) c.names.invariant.0)

pub names-preserved : goal.names-preserved
names-preserved c =
    let some = c.if-not-eat.false in
    let after = rw some at c.eat.ensures.after in
    (rw c.in_ok-push.ensures.ok (going_step (end_of c.args.source.now) (ahead c.args.source.now c.args.at.now) (ahead c.args.source.now c.names.at) (ahead c.args.source.now c.say.new.at) (ahead c.args.source.now c.eat.new.at) c.names.found c.in_ok-name.name c.in_ok-name.ensures.gives (sym c.eat.ensures.value ∙ some) after c.names.invariant.0), omega arith)
