-- Lines that were read, in a bank that grows.
use Rattle.std.proofs.Common.{ℕ, zero, suc, ◌≡◌, ◌∙◌, ◌+◌, ◌≤◌, List, [], ◌∷◌, ◌++◌, slice_get, Some, sym, ap, subst, arith, append_assoc, append-nil}
use Rattle.leo_terms.specs.Contents.{Contents, Extends}
use Rattle.leo_clause.specs.declared.record.Rule.{Rule}
use Rattle.leo_clause.specs.declared.record.Rule.TheVariants as record_of
use Rattle.leo_clause.specs.declared.record.StepRecord.{StepRecord}
use Rattle.leo_kernel.specs.Records.{AreStepsOf}
use Rattle.leo_kernel.proofs.LinesGrowing.{rule-grow}
use Rattle.leo_tstp.specs.Records.{IsSymbolOfRule, AreSymbolsOf}
use Rattle.leo_tstp.specs.NewSymbols.{introduced_by, introduced, IsRising}
use Rattle.leo_tstp.specs.TextWords.{AreTypedSteps}
use Rattle.leo_tstp.specs.Built.{IsStepBuilt, AreStepsRead}
use Rattle.leo_tstp.proofs.Recorded.{typed-kept}

-- ---- numbers that rise

pub rising-lower : (m n : ℕ) (xs : List ℕ) (top : ℕ) → m ≤ n → IsRising n xs top → IsRising m xs top
rising-lower m n [] top l h = let k : n ≤ top = h in omega arith
rising-lower m n (x ∷ xs) top l h = let k = h.0 in (omega arith, h.1)

pub rising-append : (n m top : ℕ) (xs ys : List ℕ) → IsRising n xs m → IsRising m ys top → IsRising n (xs ++ ys) top
rising-append n m top [] ys h k = rising-lower n m ys top h k
rising-append n m top (x ∷ xs) ys h k = (h.0, rising-append (x + 1) m top xs ys h.1 k)

introduced-push : (ss : List StepRecord) (s : StepRecord) → introduced (ss ++ s ∷ []) ≡ introduced ss ++ introduced_by s.rule
introduced-push [] s = append-nil (introduced_by s.rule)
introduced-push (x ∷ ss) s = ap (λ xs. introduced_by x.rule ++ xs) (introduced-push ss s) ∙ sym (append_assoc (introduced_by x.rule) (introduced ss) (introduced_by s.rule))

pub rising-push : (n m top : ℕ) (ss : List StepRecord) (s : StepRecord) → IsRising n (introduced ss) m → IsRising m (introduced_by s.rule) top → IsRising n (introduced (ss ++ s ∷ [])) top
rising-push n m top ss s h k = rw (introduced-push ss s) (rising-append n m top (introduced ss) (introduced_by s.rule) h k)

pub rising-none : (n : ℕ) {ss : List StepRecord} → ss ≡ [] → IsRising n (introduced ss) n
rising-none n e = subst (λ (ss : List StepRecord). IsRising n (introduced ss) n) (sym e) (same n)
  where
    same : (m : ℕ) → m ≤ m
    same m = omega arith

-- ---- lines

module _ {c d : Contents} (e : Extends c d) where
  symbol-kept : (r : Rule) → IsSymbolOfRule c r → IsSymbolOfRule d r
  symbol-kept (record_of.Abbreviate s) h = let k = h in let more = e.symbols_more in omega arith
  symbol-kept (record_of.Inst p sigma) h = tt
  symbol-kept (record_of.Axiom k) h = tt
  symbol-kept (record_of.Convert p) h = tt
  symbol-kept (record_of.Para p i s q j r path) h = tt
  symbol-kept (record_of.Arrange p) h = tt
  symbol-kept (record_of.Drop p i) h = tt
  symbol-kept (record_of.Logic p i kind a) h = tt
  symbol-kept (record_of.BoolExt p i half) h = tt
  symbol-kept (record_of.FuncExt p i a) h = tt
  symbol-kept (record_of.Decompose p i) h = tt
  symbol-kept record_of.Refl h = tt
  symbol-kept record_of.Choice h = tt
  symbol-kept (record_of.Factor p i j) h = tt

  step-kept : (s : StepRecord) → IsStepBuilt c s → IsStepBuilt d s
  step-kept s h = record {
    typed = typed-kept e s.clause h.typed;
    rule = record { terms_of = rule-grow e s.rule h.rule.terms_of; symbol_of = symbol-kept s.rule h.rule.symbol_of };
  }

  pub steps-kept : (ss : List StepRecord) → AreStepsRead c ss → AreStepsRead d ss
  steps-kept ss h n s g = step-kept s (h n s g)

pub steps-push : (c : Contents) (ss : List StepRecord) (s : StepRecord) → AreStepsRead c ss → IsStepBuilt c s → AreStepsRead c (ss ++ s ∷ [])
steps-push c [] s h k zero t e = let f : s ≡ t = cc in rw (← f) k
steps-push c [] s h k (suc n) t e = absurd cc
steps-push c (x ∷ ss) s h k zero t e = h zero t e
steps-push c (x ∷ ss) s h k (suc n) t e = steps-push c ss s (λ m u f. h (suc m) u f) k n t e

pub no-steps : (c : Contents) {ss : List StepRecord} → ss ≡ [] → AreStepsRead c ss
no-steps c e n s f = absurd (nothing n s (subst (λ (ss : List StepRecord). slice_get ss n ≡ Some s) e f))
  where
    nothing : (n : ℕ) (s : StepRecord) → slice_get [] n ≡ Some s → ⊥
    nothing n s g = cc

-- what callers see of them
pub steps-of : {c : Contents} (ss : List StepRecord) → AreStepsRead c ss → AreStepsOf c ss
steps-of ss r n s e = let h = r n s e in record { clause_of = h.typed.of_bank; terms_of = h.rule.terms_of }

pub typed-of : {c : Contents} (ss : List StepRecord) → AreStepsRead c ss → AreTypedSteps c ss
typed-of ss r n s e = (r n s e).typed

pub symbols-of : {c : Contents} (ss : List StepRecord) → AreStepsRead c ss → AreSymbolsOf c ss
symbols-of ss r n s e = (r n s e).rule.symbol_of
