-- A line more.
use Rattle.std.proofs.Common.{List, [], ◌∷◌, ◌++◌, ◌≡◌, inl, inr, sym}
use Rattle.leo_terms.specs.Contents.{Contents}
use Rattle.leo_clause.specs.declared.record.StepRecord.{StepRecord}
use Rattle.leo_clause.proofs.Meeting.{end-only}
use Rattle.leo_kernel.specs.Records.{IsStepOf, AreStepsOf}
use Rattle.leo_tstp.specs.Records.{IsSymbolOfRule, AreSymbolsOf}

pub steps-more : (c : Contents) (steps more : List StepRecord) (s : StepRecord) → more ≡ steps ++ s ∷ [] → AreStepsOf c steps → IsStepOf c s → AreStepsOf c more
steps-more c steps more s e all one n x h =
    elim (end-only steps s n x (rw e at h)) [
      | inl f ↦ all n x f
      | inr f ↦ rw (← f) one
    ]

pub symbols-more : (c : Contents) (steps more : List StepRecord) (s : StepRecord) → more ≡ steps ++ s ∷ [] → AreSymbolsOf c steps → IsSymbolOfRule c s.rule → AreSymbolsOf c more
symbols-more c steps more s e all one n x h =
    elim (end-only steps s n x (rw e at h)) [
      | inl f ↦ all n x f
      | inr f ↦ rw (← f) one
    ]
