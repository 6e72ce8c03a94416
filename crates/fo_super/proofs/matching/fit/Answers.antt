use Rattle.fo_terms.specs.Prefix.{term_of}
use Rattle.fo_super.proofs.Matched.{matching-starts, matching-refused, matching-next, matching-ends, term-first}
use Rattle.fo_super.proofs.matching.fit.Goals as goal

pub loop-node-init : goal.loop-node-init
loop-node-init c = matching-starts c.args.clause.now.vars c.args.other.now.vars c.args.syms.now c.args.bindings.now.items c.args.pattern.now c.args.nodes.now c.requires.pattern c.requires.nodes c.requires.sound

pub fit_next-requires-clause-starts : goal.fit_next-requires-clause-starts
fit_next-requires-clause-starts c =
    term-first c.args.clause.now.vars c.args.other.now.vars c.args.syms.now c.args.bindings.now.items c.loop-node.bindings.items (term_of c.args.pattern.now) (term_of c.args.nodes.now) c.loop-node.left.now c.loop-node.right.now
    c.in-Some.node.now c.in-Some.tail.now c.in-Some.ensures.cases.0 c.loop-node.invariant

pub returns-in_default-found : goal.returns-in_default-found
returns-in_default-found c =
    matching-refused c.args.clause.now.vars c.args.other.now.vars c.args.syms.now c.args.bindings.now.items c.loop-node.bindings.items c.fit_next.new.bindings.items (term_of c.args.pattern.now) (term_of c.args.nodes.now) c.loop-node.left.now c.loop-node.right.now
    c.in-Some.node.now c.in-Some.tail.now c.in-Some.ensures.cases.0 c.loop-node.invariant (rw c.in_default-found.is at c.in_ok-found.ensures)

pub loop-node-preserved : goal.loop-node-preserved
loop-node-preserved c =
    matching-next c.args.clause.now.vars c.args.other.now.vars c.args.syms.now c.args.bindings.now.items c.loop-node.bindings.items c.fit_next.new.bindings.items (term_of c.args.pattern.now) (term_of c.args.nodes.now) c.loop-node.left.now c.loop-node.right.now
    c.in-Some.node.now c.in-Some.tail.now c.in-Some-found.rest.now c.in-Some.ensures.cases.0 c.loop-node.invariant (rw c.in-Some-found.is at c.in_ok-found.ensures)

pub returns : goal.returns
returns c =
    matching-ends c.args.clause.now.vars c.args.other.now.vars c.args.syms.now c.args.bindings.now.items c.loop-node.bindings.items (term_of c.args.pattern.now) (term_of c.args.nodes.now) c.loop-node.left.now c.loop-node.right.now
    c.in_default.ensures.cases c.loop-node.invariant
