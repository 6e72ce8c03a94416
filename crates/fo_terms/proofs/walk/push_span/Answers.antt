use Rattle.fo_terms.proofs.Walking.{pending-push}
use Rattle.fo_terms.proofs.walk.push_span.Goals as goal

pub returns-in_ok-push-clause-pending : goal.returns-in_ok-push-clause-pending
returns-in_ok-push-clause-pending c ns s =
    rw c.in_ok-push.ensures.items (pending-push ns s c.args.spans.now.items (record { at = c.args.at; count = c.args.terms }))
