use Rattle.std.proofs.Common.{refl, subst}
use Rattle.leo_turn.specs.Turns.{state_of}
use Rattle.leo_core.specs.declared.event.Cause.TheVariants.{Won, Limit, Exhausted}
use Rattle.leo_core.specs.declared.event.Owed.TheVariants as owed
use Rattle.leo_core.specs.Books.{Pages}
use Rattle.leo_core.specs.Machine.{IsDue, won, at_limit, exhausted, a_turn}
use Rattle.leo_core.proofs.Books.{not_refuted, some_passive}
use Rattle.leo_core.proofs.book.Book.due.Goals as goal

pub returns-then-self : goal.returns-then-self
returns-then-self c = subst (λ (q : Pages). IsDue q.settings.turns (state_of q.problem.bank q.search) (owed.End Won)) c.self.view_is (won (c.self.invariant.refuted.0 c.if-self.true))

pub returns-then-self-2 : goal.returns-then-self-2
returns-then-self-2 c = subst (λ (q : Pages). IsDue q.settings.turns (state_of q.problem.bank q.search) (owed.End Limit)) c.self.view_is (at_limit (not_refuted c.self.inside.refuted (state_of c.self.inside.problem.bank c.self.inside.search) c.self.invariant.refuted c.if-self.false) c.if-self-2.true)

pub returns-in-Some : goal.returns-in-Some
returns-in-Some c = subst (λ (q : Pages). IsDue q.settings.turns (state_of q.problem.bank q.search) owed.Turn) c.self.view_is (a_turn (not_refuted c.self.inside.refuted (state_of c.self.inside.problem.bank c.self.inside.search) c.self.invariant.refuted c.if-self.false) c.if-self-2.false (some_passive c.self.inside.search.passive c.in-Some.field-0 (c.in-Some.ensures.oldest refl).0))

pub returns-in-None : goal.returns-in-None
returns-in-None c = subst (λ (q : Pages). IsDue q.settings.turns (state_of q.problem.bank q.search) (owed.End Exhausted)) c.self.view_is (exhausted (not_refuted c.self.inside.refuted (state_of c.self.inside.problem.bank c.self.inside.search) c.self.invariant.refuted c.if-self.false) c.if-self-2.false (c.in-None.ensures.oldest refl))
