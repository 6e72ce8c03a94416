use Rattle.std.proofs.Common.{◌≡◌, List, Some, map, sym, subst}
use Rattle.leo_q0.specs.Connectives.{false_term}
use Rattle.leo_q0.specs.Derivations.{Derives}
use Rattle.leo_clause.specs.declared.record.StepRecord.{StepRecord}
use Rattle.leo_kernel.specs.Steps.{line_at}
use Rattle.leo_problem.specs.Loading.{theory_of}
use Rattle.leo_derive.specs.Pruning.{IsPruned}
use Rattle.leo_derive.specs.Verdicts.{IsRefutation, hypotheses_of}
use Rattle.leo_turn.specs.Origins.{AreFrom}
use Rattle.leo_core.specs.declared.event.Cause.TheVariants.{Won}
use Rattle.leo_core.specs.Books.{Pages}
use Rattle.leo_core.proofs.Origins.{pruned-from}
use Rattle.leo_core.proofs.Refuting.{book_from, book_refutes, falsity}
use Rattle.leo_core.proofs.book.Book.derivation.Goals as goal

pub prune-requires-clause-refutation : goal.prune-requires-clause-refutation
prune-requires-clause-refutation c =
    subst (λ (ls : List StepRecord). IsRefutation (hypotheses_of c.self.inside.problem) (map (line_at c.self.inside.problem.bank) ls)) (sym c.as_slice.ensures)
    (book_refutes c.self.invariant.book (subst (λ (q : Pages). q.ending ≡ Some Won) (sym c.self.view_is) c.requires))

pub returns-clause-origin : goal.returns-clause-origin
returns-clause-origin c =
    let all : AreFrom (hypotheses_of c.self.inside.problem) (map (line_at c.self.inside.problem.bank) c.self.inside.search.lines) = book_from c.self.invariant.book in
    let pruned : IsPruned (map (line_at c.self.inside.problem.bank) c.self.inside.search.lines) (map (line_at c.self.inside.problem.bank) c.in_ok-found.found.items) = rw c.as_slice.ensures at c.in_ok-found.ensures.pruned in
    subst (λ (q : Pages). AreFrom (hypotheses_of q.problem) (map (line_at q.problem.bank) c.in_ok-found.found.items)) c.self.view_is
    (pruned-from (hypotheses_of c.self.inside.problem) (map (line_at c.self.inside.problem.bank) c.self.inside.search.lines) all (map (line_at c.self.inside.problem.bank) c.in_ok-found.found.items) pruned)

pub returns-clause-falsity : goal.returns-clause-falsity
returns-clause-falsity c =
    subst (λ (q : Pages). Derives (map (λ h. h.formula) (theory_of q.problem).hypotheses) false_term) c.self.view_is
    (falsity c.self.invariant.book c.is_sound.ensures.sound c.soundness_laws.ensures.falsity c.bank_laws.ensures c.in_ok-found.found.items c.in_ok-found.ensures.steps c.in_ok-found.ensures.refutation)
