-- Lines of a bank that grew.
use Rattle.std.proofs.Common.{zero, suc, ◌≡◌, List, [], ◌∷◌, map, refl, ap}
use Rattle.leo_terms.specs.Contents.{Contents, Extends}
use Rattle.leo_terms.proofs.CallerLemmas.{trees-kept, are_terms-kept}
use Rattle.leo_clause.specs.declared.record.Rule.{Rule}
use Rattle.leo_clause.specs.declared.record.Rule.TheVariants as record_of
use Rattle.leo_clause.specs.declared.record.StepRecord.{StepRecord}
use Rattle.leo_kernel.specs.Steps.{inst, rule_at, line_at}
use Rattle.leo_kernel.specs.Records.{AreTermsOfRule, IsStepOf, AreStepsOf}
use Rattle.leo_kernel.proofs.Growing.{clause-grow, clause-kept}

module _ {c d : Contents} (e : Extends c d) where
  pub rule-kept : (r : Rule) → AreTermsOfRule c r → rule_at d r ≡ rule_at c r
  rule-kept (record_of.Inst p sigma) h = ap (inst p) (trees-kept e sigma h)
  rule-kept (record_of.Axiom h) k = refl
  rule-kept (record_of.Convert p) k = refl
  rule-kept (record_of.Para p i s q j r path) k = refl
  rule-kept (record_of.Arrange p) k = refl
  rule-kept (record_of.Drop p i) k = refl
  rule-kept (record_of.Logic p i kind a) k = refl
  rule-kept (record_of.BoolExt p i half) k = refl
  rule-kept (record_of.FuncExt p i a) k = refl
  rule-kept (record_of.Decompose p i) k = refl
  rule-kept record_of.Refl k = refl
  rule-kept record_of.Choice k = refl
  rule-kept (record_of.Factor p i j) k = refl
  rule-kept (record_of.Abbreviate s) k = refl

  pub rule-grow : (r : Rule) → AreTermsOfRule c r → AreTermsOfRule d r
  rule-grow (record_of.Inst p sigma) h = are_terms-kept e sigma h
  rule-grow (record_of.Axiom h) k = tt
  rule-grow (record_of.Convert p) k = tt
  rule-grow (record_of.Para p i s q j r path) k = tt
  rule-grow (record_of.Arrange p) k = tt
  rule-grow (record_of.Drop p i) k = tt
  rule-grow (record_of.Logic p i kind a) k = tt
  rule-grow (record_of.BoolExt p i half) k = tt
  rule-grow (record_of.FuncExt p i a) k = tt
  rule-grow (record_of.Decompose p i) k = tt
  rule-grow record_of.Refl k = tt
  rule-grow record_of.Choice k = tt
  rule-grow (record_of.Factor p i j) k = tt
  rule-grow (record_of.Abbreviate s) k = tt

  pub step-kept : (s : StepRecord) → IsStepOf c s → line_at d s ≡ line_at c s
  step-kept s h = rw (clause-kept e s.clause h.clause_of, rule-kept s.rule h.terms_of) refl

  pub step-grow : (s : StepRecord) → IsStepOf c s → IsStepOf d s
  step-grow s h = record { clause_of = clause-grow e s.clause h.clause_of; terms_of = rule-grow s.rule h.terms_of }

  pub lines-kept : (lines : List StepRecord) → AreStepsOf c lines → map (line_at d) lines ≡ map (line_at c) lines
  lines-kept [] h = refl
  lines-kept (s ∷ lines) h = rw (step-kept s (h zero s refl), lines-kept lines (λ n t g. h (suc n) t g)) refl

  pub lines-grow : (lines : List StepRecord) → AreStepsOf c lines → AreStepsOf d lines
  lines-grow lines h n s g = step-grow s (h n s g)
