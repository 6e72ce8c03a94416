use Rattle.leo_terms.specs.Contents.{Extends}
use Rattle.leo_elab.specs.Passes.{AreConstantsUpTo}
use Rattle.leo_elab.proofs.declaring.declare_constants.Given as goal

abbrev pub invariant-loop-place : goal.invariant-loop-place
invariant-loop-place l = record { up_to : AreConstantsUpTo l.bank l.names l.firsts l.place; grows : Extends l.initial.bank l.bank }
