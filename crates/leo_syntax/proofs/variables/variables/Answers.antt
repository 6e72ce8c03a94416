use Rattle.std.proofs.Common.{◌∙◌, sym, arith}
use Rattle.std.proofs.lemmas.Result.{err_from_is_err_and}
use Rattle.leo_syntax.specs.Source.{ahead}
use Rattle.leo_syntax.proofs.VariableLists.{going_refused, going_last, going_step}
use Rattle.leo_syntax.proofs.variables.variables.Goals as goal

pub returns-in_err-variable-clause-gives : goal.returns-in_err-variable-clause-gives
returns-in_err-variable-clause-gives c =
    let p = err_from_is_err_and c.from_residual.result c.from_residual.ensures.1 in
    rw (p.1, p.2) (λ some. going_refused c.args.source.now c.args.left c.args.at.now c.variables.at c.variables.found c.in_err-variable.field-0.0 (c.in_err-variable.ensures.gives some) c.variables.invariant)

pub returns-then-not-eat-clause-gives : goal.returns-then-not-eat-clause-gives
returns-then-not-eat-clause-gives c =
    let none = c.if-not-eat.true in
    let after = rw none at c.eat.ensures.after in
    rw (c.in_ok-push.ensures.ok, after) (going_last c.args.source.now c.args.left c.args.at.now c.variables.at c.variables.found c.in_ok-variable.variable (ahead c.args.source.now c.read_variable.new.at)
    c.in_ok-variable.ensures.gives (sym c.eat.ensures.value ∙ none) c.variables.invariant)

pub variables-preserved : goal.variables-preserved
variables-preserved c =
    let some = c.if-not-eat.false in
    let after = rw some at c.eat.ensures.after in
    let further = rw some at c.eat.ensures.passed in
    rw c.in_ok-push.ensures.ok (going_step c.args.source.now c.args.left c.args.at.now c.variables.at c.eat.new.at c.variables.found c.in_ok-variable.variable (ahead c.args.source.now c.read_variable.new.at)
    c.in_ok-variable.ensures.within (omega arith) c.in_ok-variable.ensures.gives (sym c.eat.ensures.value ∙ some) after c.variables.invariant)
