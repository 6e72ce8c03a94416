use Rattle.std.proofs.Common.{refl}
use Rattle.leo_terms.proofs.CallerLemmas.{reads-base, reads-arrow, arrow-parts}
use Rattle.leo_unify.proofs.BodySteps.{is-arrow}
use Rattle.leo_unify.proofs.heads.function_parts.Goals as goal

pub returns-in-Base-clause-takes_none : goal.returns-in-Base-clause-takes_none
returns-in-Base-clause-takes_none c = rw (reads-base c.in-Base.ensures.sound c.args.ty _ c.in-Base.ensures.view) refl

pub returns-in-Base-clause-gives : goal.returns-in-Base-clause-gives
returns-in-Base-clause-gives c = rw (reads-base c.in-Base.ensures.sound c.args.ty _ c.in-Base.ensures.view) refl

pub returns-in-Arrow-clause-value : goal.returns-in-Arrow-clause-value
returns-in-Arrow-clause-value c = reads-arrow c.in-Arrow.ensures.sound (is-arrow c.args.bank.now c.args.ty _ _ c.in-Arrow.ensures.view)

pub returns-in-Arrow-clause-from : goal.returns-in-Arrow-clause-from
returns-in-Arrow-clause-from c = (arrow-parts c.in-Arrow.ensures.sound (is-arrow c.args.bank.now c.args.ty _ _ c.in-Arrow.ensures.view)).1

pub returns-in-Arrow-clause-to : goal.returns-in-Arrow-clause-to
returns-in-Arrow-clause-to c = (arrow-parts c.in-Arrow.ensures.sound (is-arrow c.args.bank.now c.args.ty _ _ c.in-Arrow.ensures.view)).2
