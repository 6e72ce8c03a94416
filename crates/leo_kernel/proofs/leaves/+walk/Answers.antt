use Rattle.std.proofs.Common.{◌∙◌, sym}
use Rattle.leo_terms.proofs.CallerLemmas.{reads-var, reads-sym, reads-bound, reads-app, reads-lam, reads-logic, type_number-within}
use Rattle.leo_kernel.proofs.Walking.{both-pass, first-fails, visited-passes, visited-more}
use Rattle.leo_kernel.proofs.leaves.+walk.Goals as goal

pub walk-returns-then-contains-clause-value : goal.walk-returns-then-contains-clause-value
walk-returns-then-contains-clause-value m c =
    sym (visited-passes c.args.bank.now c.args.test.now c.args.vars.now c.args.t c.args.depth c.args.visited.now.keys c.requires.visited (sym c.contains.ensures ∙ c.if-contains.true))

pub walk-returns-clause-visited : goal.walk-returns-clause-visited
walk-returns-clause-visited m c =
    rw c.in_ok-insert.ensures.keys (visited-more c.args.bank.now c.args.test.now c.args.vars.now _ c.args.t c.args.depth c.walk_parts.new.visited.keys c.in_ok-passes.ensures.visited (sym c.if-not-passes.false ∙ c.in_ok-passes.ensures.value))

pub walk_parts-variable_is_right-requires-clause-ty : goal.walk_parts-variable_is_right-requires-clause-ty
walk_parts-variable_is_right-requires-clause-ty m c = rw c.type_of-ty.ensures.number (type_number-within c.type_of-ty.ensures.sound c.args.t c.requires.within)

pub walk_parts-returns-then-not-first-clause-value : goal.walk_parts-returns-then-not-first-clause-value
walk_parts-returns-then-not-first-clause-value m c =
    rw (reads-app c.in-App.ensures.sound c.args.t c.in-App.f c.in-App.a c.in-App.ensures.view) (first-fails c.in_ok-first-in-App.first _ _ c.in_ok-first-in-App.ensures.value c.if-not-first.true)

pub walk_parts-returns-then-not-first-2-clause-value : goal.walk_parts-returns-then-not-first-2-clause-value
walk_parts-returns-then-not-first-2-clause-value m c =
    rw (reads-logic c.in-Logic.ensures.sound c.args.t c.in-Logic.field-0 c.in-Logic.x c.in-Logic.y c.in-Logic.ensures.view) (first-fails c.in_ok-first-in-Logic.first _ _ c.in_ok-first-in-Logic.ensures.value c.if-not-first-2.true)

pub walk_parts-returns-in-Var-clause-value : goal.walk_parts-returns-in-Var-clause-value
walk_parts-returns-in-Var-clause-value m c =
    rw (reads-var c.in-Var.ensures.sound c.args.t _ c.in-Var.ensures.view, ← c.type_of-ty.ensures.number) c.variable_is_right.ensures

pub walk_parts-returns-in-Bound-clause-value : goal.walk_parts-returns-in-Bound-clause-value
walk_parts-returns-in-Bound-clause-value m c = rw (reads-bound c.in-Bound.ensures.sound c.args.t _ c.in-Bound.ensures.view) c.index_is_right.ensures

pub walk_parts-returns-in-Sym-clause-value : goal.walk_parts-returns-in-Sym-clause-value
walk_parts-returns-in-Sym-clause-value m c = rw (reads-sym c.in-Sym.ensures.sound c.args.t _ c.in-Sym.ensures.view) c.symbol_is_right.ensures

pub walk_parts-returns-in_ok-second-in-App-clause-value : goal.walk_parts-returns-in_ok-second-in-App-clause-value
walk_parts-returns-in_ok-second-in-App-clause-value m c =
    rw (reads-app c.in-App.ensures.sound c.args.t c.in-App.f c.in-App.a c.in-App.ensures.view) (both-pass c.in_ok-first-in-App.first c.in_ok-second-in-App.second _ _ c.in_ok-first-in-App.ensures.value c.if-not-first.false c.in_ok-second-in-App.ensures.value)

pub walk_parts-returns-in_ok-passes-in-Lam-clause-value : goal.walk_parts-returns-in_ok-passes-in-Lam-clause-value
walk_parts-returns-in_ok-passes-in-Lam-clause-value m c =
    rw (reads-lam c.in-Lam.ensures.sound c.args.t c.in-Lam.field-0 c.in-Lam.body c.in-Lam.ensures.view) (rw c.in-Some.ensures.1 at c.in_ok-passes-in-Lam.ensures.value)

pub walk_parts-returns-in_ok-second-in-Logic-clause-value : goal.walk_parts-returns-in_ok-second-in-Logic-clause-value
walk_parts-returns-in_ok-second-in-Logic-clause-value m c =
    rw (reads-logic c.in-Logic.ensures.sound c.args.t c.in-Logic.field-0 c.in-Logic.x c.in-Logic.y c.in-Logic.ensures.view) (both-pass c.in_ok-first-in-Logic.first c.in_ok-second-in-Logic.second _ _ c.in_ok-first-in-Logic.ensures.value c.if-not-first-2.false c.in_ok-second-in-Logic.ensures.value)
