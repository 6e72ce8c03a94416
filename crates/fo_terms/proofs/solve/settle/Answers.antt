use Rattle.std.proofs.Common.{List, ℕ}
use Rattle.fo_terms.specs.declared.term.FoNode.{FoNode}
use Rattle.fo_terms.specs.declared.bindings.Binding.{Binding}
use Rattle.fo_terms.specs.declared.solve.Step.TheVariants.{Split}
use Rattle.fo_terms.specs.Solving.{IsStep}
use Rattle.fo_terms.proofs.Settling.{settle-within, settle-fewer, settle-from, settle-back}
use Rattle.fo_terms.proofs.solve.settle.Goals as goal

pub loop-equation-smaller : goal.loop-equation-smaller
loop-equation-smaller c =
    settle-fewer c.args.places.now.nodes.items c.args.bindings.now.made.items c.args.classes.now.parents.items c.args.work.now.items c.loop-equation.work.items c.pop.new.self.items c.take_step.new.work.items c.in-Some.equation c.in_ok-step.step c.in-Some.ensures.items c.in_ok-step.ensures

pub loop-equation-preserved : goal.loop-equation-preserved
loop-equation-preserved c =
    let ns : List FoNode = c.args.places.now.nodes.items in
    let bs : List Binding = c.args.bindings.now.made.items in
    let ps : List ℕ = c.args.classes.now.parents.items in
    let step : IsStep ns bs ps c.in-Some.equation c.pop.new.self.items c.take_step.new.work.items Split = rw c.in-Split.is at c.in_ok-step.ensures in (
      settle-within ns bs ps c.args.work.now.items c.loop-equation.work.items c.pop.new.self.items c.take_step.new.work.items c.in-Some.equation Split c.in-Some.ensures.items step c.loop-equation.invariant.0,
      (λ h r o a k. (settle-from ns bs ps c.args.work.now.items c.loop-equation.work.items c.pop.new.self.items c.take_step.new.work.items c.in-Some.equation Split c.in-Some.ensures.items step h r o a (c.loop-equation.invariant.1 h r o a) k).0),
      (λ h r o a k. settle-back ns bs ps c.args.work.now.items c.loop-equation.work.items c.pop.new.self.items c.take_step.new.work.items c.in-Some.equation Split c.in-Some.ensures.items step h r o a (c.loop-equation.invariant.2 h r o a) k tt),
    )

pub returns-in_default-step : goal.returns-in_default-step
returns-in_default-step c =
    let ns : List FoNode = c.args.places.now.nodes.items in
    let bs : List Binding = c.args.bindings.now.made.items in
    let ps : List ℕ = c.args.classes.now.parents.items in
    record {
      within = settle-within ns bs ps c.args.work.now.items c.loop-equation.work.items c.pop.new.self.items c.take_step.new.work.items c.in-Some.equation c.in_ok-step.step c.in-Some.ensures.items c.in_ok-step.ensures c.loop-equation.invariant.0;
      can = c.in_ok-step.ensures.can;
      all_done = (λ e. absurd (c.in_default-step.not-Split e));
      from = (λ h r o a k. settle-from ns bs ps c.args.work.now.items c.loop-equation.work.items c.pop.new.self.items c.take_step.new.work.items c.in-Some.equation c.in_ok-step.step c.in-Some.ensures.items c.in_ok-step.ensures h r o a (c.loop-equation.invariant.1 h r o a) k);
      back = (λ h r o a k t. settle-back ns bs ps c.args.work.now.items c.loop-equation.work.items c.pop.new.self.items c.take_step.new.work.items c.in-Some.equation c.in_ok-step.step c.in-Some.ensures.items c.in_ok-step.ensures h r o a (c.loop-equation.invariant.2 h r o a) k t);
    }
