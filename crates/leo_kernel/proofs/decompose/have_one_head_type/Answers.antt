use Rattle.leo_terms.specs.Contents.{tree_at, argument}
use Rattle.leo_terms.proofs.CallerLemmas.{reads-var, reads-bound, reads-sym, reads-app, reads-lam, reads-logic}
use Rattle.leo_kernel.proofs.TypedLits.{yes}
use Rattle.leo_kernel.proofs.decompose.have_one_head_type.Goals as goal

pub returns-in-Var : goal.returns-in-Var
returns-in-Var c = rw (reads-var c.in-Var.ensures.sound c.args.s _ c.in-Var.ensures.view) (yes tt)

pub returns-in-Bound : goal.returns-in-Bound
returns-in-Bound c = rw (reads-bound c.in-Bound.ensures.sound c.args.s _ c.in-Bound.ensures.view) (yes tt)

pub returns-in-Sym : goal.returns-in-Sym
returns-in-Sym c = rw (reads-sym c.in-Sym.ensures.sound c.args.s _ c.in-Sym.ensures.view) (yes tt)

pub returns-in-App : goal.returns-in-App
returns-in-App c = rw (reads-app c.in-App.ensures.sound c.args.s _ _ c.in-App.ensures.view) (c.app_has_one_type.ensures (tree_at c.args.bank.now c.in-App.field-1))

pub returns-in-Lam : goal.returns-in-Lam
returns-in-Lam c = rw (reads-lam c.in-Lam.ensures.sound c.args.s _ _ c.in-Lam.ensures.view) (yes tt)

pub returns-in-Logic : goal.returns-in-Logic
returns-in-Logic c = rw (reads-logic c.in-Logic.ensures.sound c.args.s _ _ _ c.in-Logic.ensures.view) (c.constant_has_one_type.ensures (argument (tree_at c.args.bank.now) c.in-Logic.field-1) (argument (tree_at c.args.bank.now) c.in-Logic.field-2))
