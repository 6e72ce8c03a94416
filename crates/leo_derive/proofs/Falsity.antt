-- A problem's hypotheses are closed formulas, so a refutation makes falsity derivable from them.
use Rattle.std.proofs.Common.{◌≡◌, ℕ, ◌+◌, zero, suc, List, [], ◌∷◌, map, length, refl, ap, subst, ◌∙◌, arith}
use Rattle.std.specs.Prelude.{Result}
use Rattle.std.proofs.lemmas.Option.{slice_get_within}
use Rattle.leo_q0.specs.Terms.{SimpleType}
use Rattle.leo_q0.specs.Connectives.{false_term}
use Rattle.leo_q0.specs.Derivations.{Derives}
use Rattle.leo_terms.specs.Tree as tree
use Rattle.leo_terms.specs.Tree.{Tree, type_of, truth_type}
use Rattle.leo_terms.specs.Contents.{Contents, IsBank, AreTerms, tree_at}
use Rattle.leo_terms.specs.Decode.{decoded}
use Rattle.leo_terms.proofs.CallerLemmas.{term-typed, term-present, type_of-term}
use Rattle.leo_clause.specs.Typed.{IsOver}
use Rattle.leo_clause.specs.declared.record.StepRecord.{StepRecord}
use Rattle.leo_kernel.specs.Records.{AreStepsOf}
use Rattle.leo_kernel.specs.Steps.{Line, line_at}
use Rattle.leo_elab.specs.Standing.{IsScoped, IsClosedFormula}
use Rattle.leo_elab.proofs.Standing.{truth-is}
use Rattle.leo_problem.specs.declared.loaded.Hyp.{Hyp}
use Rattle.leo_problem.specs.Loading.{hypothesis_in, AreClosedFormulas}
use Rattle.leo_simulation.specs.Proper.{IsHypothesis, AreHypotheses}
use Rattle.leo_simulation.specs.Laws.{RefutationsDeriveFalsity, BankLinesAreProper}
use Rattle.leo_derive.specs.declared.refusal.CheckRefusal.{CheckRefusal}
use Rattle.leo_derive.specs.Verdicts.{IsRefutation, IsVerdict}

scoped_over : (s : List SimpleType) (t : Tree) → IsScoped s t → IsOver [] (length s) t
scoped_over s (tree.variable n a) h = absurd h
scoped_over s (tree.bound i a) h = slice_get_within s i a h
scoped_over s (tree.symbol n a) h = tt
scoped_over s (tree.app f x) h = (scoped_over s f h.0, scoped_over s x h.1)
scoped_over s (tree.lam a t) h = let e : length s + 1 ≡ suc (length s) = omega arith in rw e (scoped_over (a ∷ s) t h)
scoped_over s (tree.logic c x y) h = (scoped_over s x h.0, scoped_over s y h.1)
scoped_over s tree.absent h = tt

module _ {c : Contents} (b : IsBank c) where
  closed_hypothesis : (t : ℕ) → IsClosedFormula c t → IsHypothesis (tree_at c t)
  closed_hypothesis t h = record {
    term = record { typed = term-typed b t h.within; present = term-present b t h.within };
    formula = type_of-term b t h.within ∙ rw h.formula (truth-is b);
    closed = scoped_over [] (tree_at c t) h.closed;
  }

  closed_hypotheses : (hs : List Hyp) → AreClosedFormulas c hs → AreHypotheses (map (tree_at c) (map (λ h. h.term) hs))
  closed_hypotheses [] a = tt
  closed_hypotheses (h ∷ hs) a = (closed_hypothesis h.term a.0, closed_hypotheses hs a.1)

closed_terms : (c : Contents) (hs : List Hyp) → AreClosedFormulas c hs → AreTerms c (map (λ h. h.term) hs)
closed_terms c [] a n t e = absurd cc
closed_terms c (h ∷ hs) a zero t e = let f : h.term ≡ t = cc in rw (← f) a.0.within
closed_terms c (h ∷ hs) a (suc n) t e = closed_terms c hs a.1 n t e

hypotheses_at : (c : Contents) (hs : List Hyp) → map (tree_at c) (map (λ h. h.term) hs) ≡ map (λ h. tree_at c h.term) hs
hypotheses_at c [] = refl
hypotheses_at c (h ∷ hs) = ap (λ ts. tree_at c h.term ∷ ts) (hypotheses_at c hs)

formulas_at : (c : Contents) (hs : List Hyp) → map (decoded 0) (map (tree_at c) (map (λ h. h.term) hs)) ≡ map (λ h. h.formula) (map (hypothesis_in c) hs)
formulas_at c [] = refl
formulas_at c (h ∷ hs) = ap (λ ts. decoded 0 (tree_at c h.term) ∷ ts) (formulas_at c hs)

-- where these are the terms of the hypotheses
module _ (c : Contents) (hs : List Hyp) (terms : List ℕ) (e : terms ≡ map (λ h. h.term) hs) where
  pub terms_of : AreClosedFormulas c hs → AreTerms c terms
  terms_of a = rw e (closed_terms c hs a)

  pub verdict_of : (lines : List Line) (r : Result Unit CheckRefusal) → IsVerdict (map (tree_at c) terms) lines r → IsVerdict (map (λ h. tree_at c h.term) hs) lines r
  verdict_of lines r v = subst (λ ts. IsVerdict ts lines r) (ap (map (tree_at c)) e ∙ hypotheses_at c hs) v

  pub falsity_derived : RefutationsDeriveFalsity → BankLinesAreProper → (steps : List StepRecord) → IsBank c → AreClosedFormulas c hs → AreStepsOf c steps
      → IsRefutation (map (tree_at c) terms) (map (line_at c) steps) → Derives (map (λ h. h.formula) (map (hypothesis_in c) hs)) false_term
  falsity_derived sound proper steps b a s r =
      let z : IsRefutation (map (tree_at c) (map (λ h. h.term) hs)) (map (line_at c) steps) = rw e at r in
      rw (← formulas_at c hs) (sound (map (tree_at c) (map (λ h. h.term) hs)) (map (line_at c) steps) (closed_hypotheses b hs a) (proper c steps b s).0 z.0 z.1.number z.1.line z.1.line_is z.1.empty)
