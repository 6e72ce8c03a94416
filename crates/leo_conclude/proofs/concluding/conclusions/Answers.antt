use Rattle.leo_terms.proofs.CallerLemmas.{extends-itself, extends-trans}
use Rattle.leo_clause.specs.Trees.{clause_at}
use Rattle.leo_conclude.proofs.Concluded.{clause-grows, constraints-grow, empty-list, found-from, no-constraints, sigmas-over, solved-conclusions, some-list, start-back}
use Rattle.leo_conclude.proofs.concluding.conclusions.Goals as goal

pub returns-then-is_empty-clause-conclusions : goal.returns-then-is_empty-clause-conclusions
returns-then-is_empty-clause-conclusions c = no-constraints (clause_at c.args.bank.now c.args.clause.now) c.args.depth c.args.constraints.now _ (empty-list c.args.constraints.now c.is_empty.result c.is_empty.ensures c.if-is_empty.true) c.in_ok-found.ensures.clauses

pub returns-in_err-pairs-clause-grows : goal.returns-in_err-pairs-clause-grows
returns-in_err-pairs-clause-grows c = extends-itself c.is_sound.ensures.sound

pub concluded_all-requires-clause-clause : goal.concluded_all-requires-clause-clause
concluded_all-requires-clause-clause c = clause-grows c.solve.ensures.grows c.args.clause.now c.requires.clause

pub concluded_all-requires-clause-constraints : goal.concluded_all-requires-clause-constraints
concluded_all-requires-clause-constraints c = constraints-grow c.solve.ensures.grows c.args.clause.now c.requires.clause c.args.constraints.now c.requires.constraints

pub concluded_all-requires-clause-sigmas : goal.concluded_all-requires-clause-sigmas
concluded_all-requires-clause-sigmas c = rw c.as_slice-2.ensures (sigmas-over c.solve.ensures.grows c.args.clause.now c.requires.clause c.in_ok-sigmas.sigmas (rw c.as_slice-vars.ensures at c.in_ok-sigmas.ensures.sigmas))

pub concluded_all-requires-clause-from : goal.concluded_all-requires-clause-from
concluded_all-requires-clause-from c =
    rw c.as_slice-2.ensures (found-from c.solve.ensures.grows c.args.clause.now c.requires.clause c.solutions_are_from_pairs.ensures c.args.constraints.now c.args.depth c.in_ok-pairs.pairs _ c.in_ok-pairs.ensures.pairs (rw (c.as_slice-vars.ensures, c.as_slice.ensures) at c.in_ok-sigmas.ensures.found))

pub returns-in_err-found-2-clause-grows : goal.returns-in_err-found-2-clause-grows
returns-in_err-found-2-clause-grows c = extends-trans c.solve.ensures.grows c.concluded_all.ensures.grows

pub returns-clause-conclusions : goal.returns-clause-conclusions
returns-clause-conclusions c =
    solved-conclusions c.solve.ensures.grows c.args.clause.now c.requires.clause c.args.constraints.now c.args.depth c.in_ok-pairs.pairs _ _ (some-list c.args.constraints.now c.is_empty.result c.is_empty.ensures c.if-is_empty.false) c.in_ok-pairs.ensures.pairs
    (rw (c.as_slice-vars.ensures, c.as_slice.ensures) at c.in_ok-sigmas.ensures.found) (rw c.as_slice-2.ensures at c.in_ok-found-2.ensures.clauses)

pub returns-clause-each : goal.returns-clause-each
returns-clause-each c = start-back c.solve.ensures.grows c.args.clause.now c.requires.clause _ _ c.in_ok-found-2.ensures.each

pub returns-clause-grows : goal.returns-clause-grows
returns-clause-grows c = extends-trans c.solve.ensures.grows c.concluded_all.ensures.grows
