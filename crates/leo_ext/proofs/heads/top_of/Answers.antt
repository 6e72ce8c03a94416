use Rattle.std.proofs.Common.{refl}
use Rattle.leo_terms.proofs.CallerLemmas.{reads-var, reads-bound, reads-sym, reads-app, reads-lam, reads-logic}
use Rattle.leo_ext.proofs.heads.top_of.Goals as goal

pub returns-in-Var-clause-reads : goal.returns-in-Var-clause-reads
returns-in-Var-clause-reads c = rw (reads-var c.in-Var.ensures.sound c.args.t c.in-Var.field-0 c.in-Var.ensures.view) refl

pub returns-in-Bound-clause-reads : goal.returns-in-Bound-clause-reads
returns-in-Bound-clause-reads c = rw (reads-bound c.in-Bound.ensures.sound c.args.t c.in-Bound.field-0 c.in-Bound.ensures.view) refl

pub returns-in-Sym-clause-reads : goal.returns-in-Sym-clause-reads
returns-in-Sym-clause-reads c = rw (reads-sym c.in-Sym.ensures.sound c.args.t c.in-Sym.s c.in-Sym.ensures.view) refl

pub returns-in-App-clause-reads : goal.returns-in-App-clause-reads
returns-in-App-clause-reads c = rw (reads-app c.in-App.ensures.sound c.args.t c.in-App.field-0 c.in-App.field-1 c.in-App.ensures.view) refl

pub returns-in-Lam-clause-reads : goal.returns-in-Lam-clause-reads
returns-in-Lam-clause-reads c = rw (reads-lam c.in-Lam.ensures.sound c.args.t c.in-Lam.field-0 c.in-Lam.field-1 c.in-Lam.ensures.view) refl

pub returns-in-Logic-clause-reads : goal.returns-in-Logic-clause-reads
returns-in-Logic-clause-reads c = rw (reads-logic c.in-Logic.ensures.sound c.args.t c.in-Logic.op c.in-Logic.field-1 c.in-Logic.field-2 c.in-Logic.ensures.view) refl
