use Rattle.std.proofs.Common.{refl, inl, inr}
use Rattle.fo_prove.proofs.steps.lines_of.Goals as goal

pub line_of-line-requires : goal.line_of-line-requires
line_of-line-requires c = (rw c.in-Resolve.is at c.requires.lines) c.in-Resolve.clause refl

pub factored_place-requires : goal.factored_place-requires
factored_place-requires c = (rw c.in-Factor.is at c.requires.clauses) c.in-Factor.clause refl

pub line_of-requires : goal.line_of-requires
line_of-requires c = (rw c.in-Factor.is at c.requires.lines) c.in-Factor.clause refl

pub superposed_place-requires-clause-from : goal.superposed_place-requires-clause-from
superposed_place-requires-clause-from c = (rw c.in-Superpose.is at c.requires.clauses) c.in-Superpose.from (inl refl)

pub superposed_place-requires-clause-into : goal.superposed_place-requires-clause-into
superposed_place-requires-clause-into c = (rw c.in-Superpose.is at c.requires.clauses) c.in-Superpose.into (inr refl)

pub line_of-requires-in-Superpose : goal.line_of-requires-in-Superpose
line_of-requires-in-Superpose c = (rw c.in-Superpose.is at c.requires.lines) c.in-Superpose.from (inl refl)

pub line_of-requires-in-Superpose-2 : goal.line_of-requires-in-Superpose-2
line_of-requires-in-Superpose-2 c = (rw c.in-Superpose.is at c.requires.lines) c.in-Superpose.into (inr refl)
