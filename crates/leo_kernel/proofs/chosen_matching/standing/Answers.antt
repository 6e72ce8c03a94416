use Rattle.std.proofs.Common.{◌-◌, Some, refl, ◌∙◌, ap, arith}
use Rattle.leo_terms.specs.Contents.{tree_at}
use Rattle.leo_kernel.proofs.ChosenSteps.{leads-none, leads-more}
use Rattle.leo_kernel.proofs.chosen_matching.standing.Goals as goal

pub loop-number-init : goal.loop-number-init
loop-number-init c = record { inner_within = c.requires.within; beside_within = c.requires.other; range_is = refl; leads = leads-none (tree_at c.args.bank.now c.args.term) (tree_at c.args.bank.now c.args.form) }

pub step_from-requires-clause-within : goal.step_from-requires-clause-within
step_from-requires-clause-within c = c.loop-number.invariant.inner_within

pub step_from-requires-clause-other : goal.step_from-requires-clause-other
step_from-requires-clause-other c = c.loop-number.invariant.beside_within

pub step_from-requires-clause-variable : goal.step_from-requires-clause-variable
step_from-requires-clause-variable c = let e = c.loop-number.invariant.range_is in let l = c.requires.variable in omega arith

pub returns-in-Found : goal.returns-in-Found
returns-in-Found c = λ rho h. ap Some (c.in-Found.ensures.is rho (c.loop-number.invariant.leads.leads rho h) ∙ ap (λ n. rho (n - 1)) c.loop-number.invariant.range_is)

pub loop-number-preserved : goal.loop-number-preserved
loop-number-preserved c =
    let n = c.in-Into.ensures in
    let p = n.falls in
    let q = c.loop-number.invariant.inner_within in
    record {
      inner_within = omega arith;
      beside_within = n.within;
      range_is = n.range_is ∙ c.loop-number.invariant.range_is;
      leads = leads-more (tree_at c.args.bank.now c.args.term) (tree_at c.args.bank.now c.args.form) (tree_at c.args.bank.now c.loop-number.inner) (tree_at c.args.bank.now c.loop-number.beside) (tree_at c.args.bank.now c.in-Into.s) (tree_at c.args.bank.now c.in-Into.t) c.loop-number.invariant.leads n.parts;
    }

pub returns-in-Apart : goal.returns-in-Apart
returns-in-Apart c = λ rho h. absurd (c.in-Apart.ensures.apart rho (c.loop-number.invariant.leads.leads rho h))
