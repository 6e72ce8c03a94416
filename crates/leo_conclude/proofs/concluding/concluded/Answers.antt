use Rattle.leo_terms.proofs.CallerLemmas.{new_bank}
use Rattle.leo_clause.specs.Trees.{clause_at}
use Rattle.leo_unify.specs.Solutions.{sigma_at}
use Rattle.leo_conclude.proofs.Concluded.{derived-constraints, rests-concluded, rests-read}
use Rattle.leo_conclude.proofs.concluding.concluded.Goals as goal

pub relieve_all-requires-clause-constraints : goal.relieve_all-requires-clause-constraints
relieve_all-requires-clause-constraints c =
    derived-constraints c.instance.new.bank (clause_at c.args.bank.now c.args.clause.now) c.in_ok-derived.derived (clause_at c.args.bank.now c.args.clause.now) (sigma_at c.args.bank.now c.args.sigma.now) c.args.constraints.now c.in_ok-derived.ensures.derived c.requires.constraints

pub returns-clause-conclusion : goal.returns-clause-conclusion
returns-clause-conclusion c =
    rw c.from.ensures (rests-concluded c.instance.new.bank (new_bank c.instance.ensures.grows) (clause_at c.args.bank.now c.args.clause.now) c.in_ok-derived.derived c.in_ok-relieved.relieved _ c.args.constraints.now c.in_ok-derived.ensures.derived c.in_ok-relieved.ensures)

pub returns-clause-clause : goal.returns-clause-clause
returns-clause-clause c =
    rw c.from.ensures (rests-read c.instance.new.bank (new_bank c.instance.ensures.grows) (clause_at c.args.bank.now c.args.clause.now) c.in_ok-derived.derived c.in_ok-relieved.relieved _ c.args.constraints.now c.in_ok-derived.ensures.derived c.in_ok-relieved.ensures)
