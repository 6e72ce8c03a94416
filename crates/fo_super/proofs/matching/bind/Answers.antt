use Rattle.fo_terms.specs.Prefix.{term_of}
use Rattle.fo_super.proofs.Joining.{binds, bound-again}
use Rattle.fo_super.proofs.matching.bind.Goals as goal

pub returns-in-Some : goal.returns-in-Some
returns-in-Some c =
    bound-again c.args.clause.now.vars c.args.other.now.vars c.args.syms.now c.args.bindings.now.items c.args.variable (term_of c.args.nodes.now) c.requires.sound
    c.in-Some.bound.now (rw c.deref.ensures.value at c.in-Some.ensures) (c.keeps_sort.ensures.0 c.if-not-keeps_sort.false) c.has_nodes.result c.has_nodes.ensures

pub returns-in_ok-push-in-None : goal.returns-in_ok-push-in-None
returns-in_ok-push-in-None c =
    rw (c.in_ok-push-in-None.ensures.items, c.in_ok-term-in-None.ensures)
    (binds c.args.clause.now.vars c.args.other.now.vars c.args.syms.now c.args.bindings.now.items c.args.variable (term_of c.args.nodes.now) c.requires.sound
    (c.keeps_sort.ensures.0 c.if-not-keeps_sort.false) (rw c.deref.ensures.value at c.in-None.ensures))
