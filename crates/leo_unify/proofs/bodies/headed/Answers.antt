use Rattle.std.proofs.Common.{map}
use Rattle.leo_terms.specs.Contents.{tree_at}
use Rattle.leo_terms.proofs.CallerLemmas.{reads-var, reads-bound, reads-sym, reads-app, reads-lam, reads-logic}
use Rattle.leo_unify.proofs.BodySteps.{all-given}
use Rattle.leo_unify.proofs.bodies.headed.Goals as goal

pub applied_to-requires-clause-typed : goal.applied_to-requires-clause-typed
applied_to-requires-clause-typed c =
    let e = reads-var c.in-Var.ensures.sound c.args.h _ c.in-Var.ensures.view in
    all-given (tree_at c.args.bank.now c.args.h) (map (tree_at c.args.bank.now) c.args.arguments.now) (rw e (rw e at c.requires.typed))

pub returns-in-Var-clause-value : goal.returns-in-Var-clause-value
returns-in-Var-clause-value c =
    let e = reads-var c.in-Var.ensures.sound c.args.h _ c.in-Var.ensures.view in
    rw e (rw e at c.applied_to.ensures.value)

pub applied_to-requires-in-Bound-clause-typed : goal.applied_to-requires-in-Bound-clause-typed
applied_to-requires-in-Bound-clause-typed c =
    let e = reads-bound c.in-Bound.ensures.sound c.args.h _ c.in-Bound.ensures.view in
    all-given (tree_at c.args.bank.now c.args.h) (map (tree_at c.args.bank.now) c.args.arguments.now) (rw e (rw e at c.requires.typed))

pub returns-in-Bound-clause-value : goal.returns-in-Bound-clause-value
returns-in-Bound-clause-value c =
    let e = reads-bound c.in-Bound.ensures.sound c.args.h _ c.in-Bound.ensures.view in
    rw e (rw e at c.applied_to-in-Bound.ensures.value)

pub applied_to-requires-in-Sym-clause-typed : goal.applied_to-requires-in-Sym-clause-typed
applied_to-requires-in-Sym-clause-typed c =
    let e = reads-sym c.in-Sym.ensures.sound c.args.h _ c.in-Sym.ensures.view in
    all-given (tree_at c.args.bank.now c.args.h) (map (tree_at c.args.bank.now) c.args.arguments.now) (rw e (rw e at c.requires.typed))

pub returns-in-Sym-clause-value : goal.returns-in-Sym-clause-value
returns-in-Sym-clause-value c =
    let e = reads-sym c.in-Sym.ensures.sound c.args.h _ c.in-Sym.ensures.view in
    rw e (rw e at c.applied_to-in-Sym.ensures.value)

pub unreachable-requires : goal.unreachable-requires
unreachable-requires c = (let e = rw (reads-app c.in-App.ensures.sound c.args.h _ _ c.in-App.ensures.view) at c.requires.head in cc)

pub unreachable-requires-in-Lam : goal.unreachable-requires-in-Lam
unreachable-requires-in-Lam c = (let e = rw (reads-lam c.in-Lam.ensures.sound c.args.h _ _ c.in-Lam.ensures.view) at c.requires.head in cc)

pub constant_with-requires-clause-typed : goal.constant_with-requires-clause-typed
constant_with-requires-clause-typed c = rw (reads-logic c.in-Logic.ensures.sound c.args.h _ _ _ c.in-Logic.ensures.view) at c.requires.typed

pub returns-in-Logic-clause-value : goal.returns-in-Logic-clause-value
returns-in-Logic-clause-value c = rw (reads-logic c.in-Logic.ensures.sound c.args.h _ _ _ c.in-Logic.ensures.view) c.constant_with.ensures.value
