use Rattle.std.proofs.Common.{map, arith, ◌∙◌}
use Rattle.leo_terms.specs.Contents.{type_at, tree_at}
use Rattle.leo_clause.specs.declared.clause.Lit.{Lit}
use Rattle.leo_clause.specs.Trees.{literal_at}
use Rattle.leo_keep.specs.Matching.{BothFit, IsSame, SendsFirst}
use Rattle.leo_keep.proofs.Numbers.{get-index, no, none-next, refuted, yes}
use Rattle.leo_keep.proofs.Opposing.{literals-at}
use Rattle.leo_keep.proofs.Among.{polarities-same, sends-at, sends-narrowed, sends-none, sends-nowhere, sends-straight, sends-turned}
use Rattle.leo_keep.proofs.subsuming.+search.Goals as goal

pub all_among-returns-in-None-clause-found : goal.all_among-returns-in-None-clause-found
all_among-returns-in-None-clause-found m c = yes (sends-none c.args.bank.now (map (type_at c.args.bank.now) c.args.vars.now) c.args.bindings.now.items c.args.pattern.now (map (literal_at c.args.bank.now) c.args.lits.now) c.requires.sound c.in-None.ensures.cases)

pub first_among-first_at-requires : goal.first_among-first_at-requires
first_among-first_at-requires m c =
    let w = literals-at c.args.bank.now c.args.lits.now c.requires.lits c.loop-lit.lit-index c.lit-item.result (get-index c.args.lits.now c.loop-lit.lit-index c.lit-item.result c.loop-lit-test.true c.lit-item.is) in
    (omega arith, (c.requires.vars, (c.requires.left, (c.requires.right, (c.requires.first_typed, (c.requires.rest, (c.requires.typed, (w.0, (w.1, (c.requires.lits, rw c.loop-lit.invariant.1 c.requires.sound))))))))))

pub first_among-returns-then-found-clause-found : goal.first_among-returns-then-found-clause-found
first_among-returns-then-found-clause-found m c =
    yes (sends-at c.args.bank.now (map (type_at c.args.bank.now) c.args.vars.now) c.args.bindings.now.items (literal_at c.args.bank.now c.args.first.now) (map (literal_at c.args.bank.now) c.args.rest.now) c.args.lits.now (map (literal_at c.args.bank.now) c.args.lits.now) c.loop-lit.lit-index c.lit-item.result (get-index c.args.lits.now c.loop-lit.lit-index c.lit-item.result c.loop-lit-test.true c.lit-item.is) ((rw c.loop-lit.invariant.1 at c.in_ok-found.ensures.found).0 c.if-found.true))

pub first_among-loop-lit-preserved : goal.first_among-loop-lit-preserved
first_among-loop-lit-preserved m c = (
  none-next (λ (k : Lit). SendsFirst c.args.bank.now (map (type_at c.args.bank.now) c.args.vars.now) c.args.bindings.now.items (IsSame (literal_at c.args.bank.now c.args.first.now) (literal_at c.args.bank.now k)) (map (literal_at c.args.bank.now) c.args.rest.now) (map (literal_at c.args.bank.now) c.args.lits.now)) c.args.lits.now c.loop-lit.lit-index c.lit-item.result c.loop-lit.invariant.0 (get-index c.args.lits.now c.loop-lit.lit-index c.lit-item.result c.loop-lit-test.true c.lit-item.is)
      (refuted c.in_ok-found.found (rw c.loop-lit.invariant.1 at c.in_ok-found.ensures.found) c.if-found.false),
  (rw c.if-found.false at c.in_ok-found.ensures.restored) ∙ c.loop-lit.invariant.1,
)

pub first_among-returns-clause-found : goal.first_among-returns-clause-found
first_among-returns-clause-found m c =
    no (sends-nowhere c.args.bank.now (map (type_at c.args.bank.now) c.args.vars.now) c.args.bindings.now.items (literal_at c.args.bank.now c.args.first.now) (map (literal_at c.args.bank.now) c.args.rest.now) c.args.lits.now (map (literal_at c.args.bank.now) c.args.lits.now) c.loop-lit.lit-index c.loop-lit.invariant.0 c.loop-lit-test.false)

pub first_at-returns-then-as_it_is-clause-found : goal.first_at-returns-then-as_it_is-clause-found
first_at-returns-then-as_it_is-clause-found m c =
    yes (sends-straight c.args.bank.now (map (type_at c.args.bank.now) c.args.vars.now) c.args.bindings.now.items (literal_at c.args.bank.now c.args.first.now) (literal_at c.args.bank.now c.args.lit.now) (map (literal_at c.args.bank.now) c.args.rest.now) (map (literal_at c.args.bank.now) c.args.lits.now) (polarities-same c.args.first.now.pos c.args.lit.now.pos c.if-first-lit.false) (c.in_ok-as_it_is.ensures.found.0 c.if-as_it_is.true))

pub first_at-returns-clause-found : goal.first_at-returns-clause-found
first_at-returns-clause-found m c =
    let e = rw c.if-as_it_is.false at c.in_ok-as_it_is.ensures.restored in
    sends-turned c.args.bank.now (map (type_at c.args.bank.now) c.args.vars.now) c.args.bindings.now.items (literal_at c.args.bank.now c.args.first.now) (literal_at c.args.bank.now c.args.lit.now) (map (literal_at c.args.bank.now) c.args.rest.now) (map (literal_at c.args.bank.now) c.args.lits.now) c.in_ok-turned.turned c.in_ok-as_it_is.as_it_is (polarities-same c.args.first.now.pos c.args.lit.now.pos c.if-first-lit.false)
    c.in_ok-as_it_is.ensures.found c.if-as_it_is.false (rw e at c.in_ok-turned.ensures.found)

pub sides_at-returns-clause-found : goal.sides_at-returns-clause-found
sides_at-returns-clause-found m c =
    yes ((sends-narrowed c.args.bank.now (map (type_at c.args.bank.now) c.args.vars.now) c.args.bindings.now.items c.fit_sides.new.bindings.items c.in_ok-fits.fits
    (BothFit (tree_at c.args.bank.now c.args.first.now.left) (tree_at c.args.bank.now c.args.left) (tree_at c.args.bank.now c.args.first.now.right) (tree_at c.args.bank.now c.args.right))
    (map (literal_at c.args.bank.now) c.args.rest.now) (map (literal_at c.args.bank.now) c.args.lits.now) c.in_ok-fits.ensures c.if-not-fits.false c.in_ok-found.found c.in_ok-found.ensures.found).0 c.if-not-found.false)
