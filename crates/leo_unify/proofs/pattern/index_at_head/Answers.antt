use Rattle.std.proofs.Common.{◌≡◌, ◌∙◌, ◌+◌, sym, arith, rules}
use Rattle.leo_terms.proofs.CallerLemmas.{reads-var, reads-bound, reads-sym, reads-app, reads-lam, reads-logic}
use Rattle.leo_unify.proofs.PatternSteps.{head-below, head-above}
use Rattle.leo_unify.proofs.pattern.index_at_head.Goals as goal

pub returns-in-Var : goal.returns-in-Var
returns-in-Var c = rw (reads-var c.in-Var.ensures.sound c.loop-index.part _ c.in-Var.ensures.view) at c.loop-index.invariant.1

pub returns-then-index-depth : goal.returns-then-index-depth
returns-then-index-depth c = sym (head-below c.in-Bound.index c.loop-index.depth c.if-index-depth.true) ∙ (rw (reads-bound c.in-Bound.ensures.sound c.loop-index.part _ c.in-Bound.ensures.view) at c.loop-index.invariant.1)

pub returns-in-Bound : goal.returns-in-Bound
returns-in-Bound c = sym (head-above c.in-Bound.index c.loop-index.depth c.if-index-depth.false) ∙ (rw (reads-bound c.in-Bound.ensures.sound c.loop-index.part _ c.in-Bound.ensures.view) at c.loop-index.invariant.1)

pub returns-in-Sym : goal.returns-in-Sym
returns-in-Sym c = rw (reads-sym c.in-Sym.ensures.sound c.loop-index.part _ c.in-Sym.ensures.view) at c.loop-index.invariant.1

pub returns-in-Logic : goal.returns-in-Logic
returns-in-Logic c = rw (reads-logic c.in-Logic.ensures.sound c.loop-index.part _ _ _ c.in-Logic.ensures.view) at c.loop-index.invariant.1

pub loop-index-preserved-in-App : goal.loop-index-preserved-in-App
loop-index-preserved-in-App c =
    let l = c.in-App.ensures.typed.function_below in
    let w = c.loop-index.invariant.0 in
    (omega arith, rw (reads-app c.in-App.ensures.sound c.loop-index.part _ _ c.in-App.ensures.view) at c.loop-index.invariant.1)

pub loop-index-preserved : goal.loop-index-preserved
loop-index-preserved c =
    let l = c.in-Lam.ensures.typed.body_below in
    let w = c.loop-index.invariant.0 in
    let p : c.in-Some.under ≡ c.loop-index.depth + 1 = search rules in
    (omega arith, rw p (rw (reads-lam c.in-Lam.ensures.sound c.loop-index.part _ _ c.in-Lam.ensures.view) at c.loop-index.invariant.1))
