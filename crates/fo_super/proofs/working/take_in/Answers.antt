use Rattle.std.proofs.Common.{subst}
use Rattle.fo_replay.specs.Instances.{as_terms}
use Rattle.fo_super.specs.declared.outcomes.FoOutcome.{FoOutcome}
use Rattle.fo_super.specs.Outcomes.{OutcomeOf}
use Rattle.fo_super.specs.Turns.{done, kept, refused}
use Rattle.fo_super.proofs.Answering.{refuted}
use Rattle.fo_super.proofs.working.take_in.Goals as goal

pub returns-then-not-is_kept-clause-worked : goal.returns-then-not-is_kept-clause-worked
returns-then-not-is_kept-clause-worked c =
    refused c.args.found.instance.vars (as_terms c.args.found.terms) c.args.found.instance c.args.found.conclusion c.in_ok-decided.decided c.requires.due (rw (c.as_slice.ensures, c.as_slice-2.ensures) at c.in_ok-decided.ensures)
    (refuted c.is_kept.result c.is_kept.ensures c.if-not-is_kept.true) done

pub returns-clause-worked : goal.returns-clause-worked
returns-clause-worked c =
    rw (c.in_ok-keep.ensures.clauses, c.in_ok-keep.ensures.origins)
    (kept c.args.found.instance.vars (as_terms c.args.found.terms) c.args.found.instance c.args.found.conclusion c.requires.due
    (subst (λ (o : FoOutcome). OutcomeOf c.args.problem.now.syms c.args.clauses.now c.args.problem.now.weight c.args.found.instance c.args.found.conclusion o) (c.is_kept.ensures.0 c.if-not-is_kept.false) (rw (c.as_slice.ensures, c.as_slice-2.ensures) at c.in_ok-decided.ensures)) done)
