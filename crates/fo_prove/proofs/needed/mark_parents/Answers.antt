use Rattle.std.proofs.Common.{refl, inl, inr}
use Rattle.fo_prove.proofs.needed.mark_parents.Goals as goal

pub mark-requires : goal.mark-requires
mark-requires c = (rw c.in-Resolve.is at (rw c.in-Concluded.is at c.requires)) c.in-Resolve.clause refl

pub mark-requires-in-Factor : goal.mark-requires-in-Factor
mark-requires-in-Factor c = (rw c.in-Factor.is at (rw c.in-Concluded.is at c.requires)) c.in-Factor.clause refl

pub mark_both-requires-clause-one : goal.mark_both-requires-clause-one
mark_both-requires-clause-one c = (rw c.in-Superpose.is at (rw c.in-Concluded.is at c.requires)) c.in-Superpose.from (inl refl)

pub mark_both-requires-clause-other : goal.mark_both-requires-clause-other
mark_both-requires-clause-other c = (rw c.in-Superpose.is at (rw c.in-Concluded.is at c.requires)) c.in-Superpose.into (inr refl)
