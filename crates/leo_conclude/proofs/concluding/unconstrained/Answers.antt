use Rattle.std.proofs.Common.{◌≡◌, [], ◌∷◌, refl, ◌∙◌}
use Rattle.leo_clause.specs.Trees.{clause_at}
use Rattle.leo_conclude.proofs.Concluded.{conclusion_of, one-conclusion}
use Rattle.leo_conclude.proofs.concluding.unconstrained.Goals as goal

pub returns-clause-each : goal.returns-clause-each
returns-clause-each c =
    let e : c.push.new.self ≡ conclusion_of c.in_ok-derived.derived ∷ [] = c.in_ok-push.ensures.ok ∙ rw (c.new-found.ensures, c.from.ensures) refl in
    rw e (one-conclusion c.normal_form.new.bank (clause_at c.args.bank.now c.args.clause.now) c.in_ok-derived.derived _ c.in_ok-derived.ensures.derived)
