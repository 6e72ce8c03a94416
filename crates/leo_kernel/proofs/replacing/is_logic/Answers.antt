use Rattle.leo_terms.proofs.CallerLemmas.{reads-var, reads-bound, reads-sym, reads-app, reads-lam, reads-logic}
use Rattle.leo_kernel.proofs.TopTests.{no_logic, constant-differs, first-differs, constants-decide}
use Rattle.leo_kernel.proofs.replacing.is_logic.Goals as goal

pub returns-in-Var : goal.returns-in-Var
returns-in-Var c = rw (reads-var c.in-Var.ensures.sound c.args.t _ c.in-Var.ensures.view) (no_logic _ _ _ _ tt)

pub returns-in-Bound : goal.returns-in-Bound
returns-in-Bound c = rw (reads-bound c.in-Bound.ensures.sound c.args.t _ c.in-Bound.ensures.view) (no_logic _ _ _ _ tt)

pub returns-in-Sym : goal.returns-in-Sym
returns-in-Sym c = rw (reads-sym c.in-Sym.ensures.sound c.args.t _ c.in-Sym.ensures.view) (no_logic _ _ _ _ tt)

pub returns-in-App : goal.returns-in-App
returns-in-App c = rw (reads-app c.in-App.ensures.sound c.args.t _ _ c.in-App.ensures.view) (no_logic _ _ _ _ tt)

pub returns-in-Lam : goal.returns-in-Lam
returns-in-Lam c = rw (reads-lam c.in-Lam.ensures.sound c.args.t _ _ c.in-Lam.ensures.view) (no_logic _ _ _ _ tt)

pub returns-then-not-is_one_constant : goal.returns-then-not-is_one_constant
returns-then-not-is_one_constant c = rw (reads-logic c.in-Logic.ensures.sound c.args.t _ _ _ c.in-Logic.ensures.view) (constant-differs _ _ _ _ _ _ c.is_one_constant.result c.is_one_constant.ensures c.if-not-is_one_constant.true)

pub returns-then-not-is_same_argument : goal.returns-then-not-is_same_argument
returns-then-not-is_same_argument c = rw (reads-logic c.in-Logic.ensures.sound c.args.t _ _ _ c.in-Logic.ensures.view) (first-differs _ _ _ _ _ _ c.is_same_argument.result c.is_same_argument.ensures c.if-not-is_same_argument.true)

pub returns-else-not-is_same_argument : goal.returns-else-not-is_same_argument
returns-else-not-is_same_argument c = rw (reads-logic c.in-Logic.ensures.sound c.args.t _ _ _ c.in-Logic.ensures.view) (constants-decide _ _ _ _ _ _ c.is_one_constant.result c.is_same_argument.result c.is_same_argument-in-Logic.result c.is_one_constant.ensures c.if-not-is_one_constant.false c.is_same_argument.ensures c.if-not-is_same_argument.false c.is_same_argument-in-Logic.ensures)
