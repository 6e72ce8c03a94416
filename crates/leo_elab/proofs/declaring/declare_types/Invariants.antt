use Rattle.leo_terms.specs.Contents.{Extends}
use Rattle.leo_elab.specs.Passes.{AreTypesUpTo}
use Rattle.leo_elab.proofs.declaring.declare_types.Given as goal

abbrev pub invariant-loop-place : goal.invariant-loop-place
invariant-loop-place l = record { up_to : AreTypesUpTo l.bank l.names l.firsts l.place; grows : Extends l.initial.bank l.bank }
