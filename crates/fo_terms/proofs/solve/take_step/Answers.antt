use Rattle.std.proofs.Common.{suc, ◌-◌, ◌≡◌, arith}
use Rattle.fo_terms.proofs.AtPlaces.{below_length}
use Rattle.fo_terms.proofs.Stepping.{step-nothing, step-first}
use Rattle.fo_terms.proofs.solve.take_step.Goals as goal

pub behind-requires-clause-inside : goal.behind-requires-clause-inside
behind-requires-clause-inside c = let w = c.requires.within.left in below_length c.args.places.now.nodes.items c.args.equation.left (omega arith)

pub behind-requires-2-clause-inside : goal.behind-requires-2-clause-inside
behind-requires-2-clause-inside c = let w = c.requires.within.right in below_length c.args.places.now.nodes.items c.args.equation.right (omega arith)

pub returns-then-equation-eq0 : goal.returns-then-equation-eq0
returns-then-equation-eq0 c = step-nothing c.args.places.now.nodes.items c.args.bindings.now.made.items c.args.classes.now.parents.items c.args.equation c.args.work.now.items c.if-equation-eq0.true

pub returns : goal.returns
returns c =
    let counted : c.args.equation.count ≡ suc (c.args.equation.count - 1) = omega arith in
    rw c.in_ok-push.ensures.items
    (step-first c.args.places.now.nodes.items c.args.bindings.now.made.items c.args.classes.now.parents.items c.args.equation (c.args.equation.count - 1) c.behind.result c.behind-2.result c.resolve-left.result c.resolve-right.result counted c.requires.within
    c.behind.ensures.reads c.behind-2.ensures.reads c.resolve-left.ensures.same c.resolve-right.ensures.same c.args.work.now.items c.compare-step.result c.compare-step.ensures)
