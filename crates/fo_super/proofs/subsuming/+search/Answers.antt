use Rattle.fo_super.specs.Matching.{BothFit}
use Rattle.fo_super.proofs.Answering.{no, yes}
use Rattle.fo_super.proofs.Among.{sends-narrowed, sends-none, sends-nowhere}
use Rattle.fo_super.proofs.subsuming.+search.Goals as goal

pub all_among-returns-in-None-clause-found : goal.all_among-returns-in-None-clause-found
all_among-returns-in-None-clause-found m c = yes (sends-none c.args.clause.now.vars c.args.other.now.vars c.args.syms.now c.args.bindings.now.items c.args.pattern.now c.args.other.now.lits c.requires.sound c.in-None.ensures.cases)

pub first_among-returns-clause-found : goal.first_among-returns-clause-found
first_among-returns-clause-found m c =
    no (sends-nowhere c.args.clause.now.vars c.args.other.now.vars c.args.syms.now c.args.bindings.now.items c.args.first.now c.args.rest.now c.args.other.now.lits c.loop-literal.literal-index c.loop-literal.invariant.0 (rw c.as_slice-literal-items.ensures at c.loop-literal-test.false))

pub sides_at-returns-clause-found : goal.sides_at-returns-clause-found
sides_at-returns-clause-found m c =
    yes ((sends-narrowed c.args.clause.now.vars c.args.other.now.vars c.args.syms.now c.args.bindings.now.items c.fit_sides.new.bindings.items c.in_ok-fits.fits
    (BothFit c.args.clause.now.vars c.args.other.now.vars c.args.syms.now c.args.first.now.left c.args.left.now c.args.first.now.right c.args.right.now)
    c.args.rest.now c.args.other.now.lits c.in_ok-fits.ensures c.if-not-fits.false c.in_ok-found.found c.in_ok-found.ensures.found).0 c.if-not-found.false)
