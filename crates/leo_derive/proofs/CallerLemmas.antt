-- What callers cite of a problem whose bank grew, as `check` leaves it: it is a problem still, with the same hypotheses, and a refutation is one still.
use Rattle.std.proofs.Common.{◌≡◌, List, [], ◌∷◌, map, refl, sym, subst}
use Rattle.leo_terms.specs.Contents.{Contents, Extends, tree_at}
use Rattle.leo_terms.proofs.CallerLemmas.{tree-kept}
use Rattle.leo_clause.specs.declared.record.StepRecord.{StepRecord}
use Rattle.leo_kernel.specs.Records.{AreStepsOf}
use Rattle.leo_kernel.specs.Steps.{line_at}
use Rattle.leo_kernel.proofs.LinesGrowing.{lines-kept}
use Rattle.leo_elab.proofs.Places.{declared-kept}
use Rattle.leo_problem.specs.declared.loaded.Hyp.{Hyp}
use Rattle.leo_problem.specs.declared.loaded.Problem.{Problem}
use Rattle.leo_problem.specs.Loading.{AreClosedFormulas, IsProblem}
use Rattle.leo_problem.proofs.Assumed.{all-closed-kept}
use Rattle.leo_derive.specs.Verdicts.{IsRefutation, hypotheses_of}

formulas-kept : {c d : Contents} (hs : List Hyp) → Extends c d → AreClosedFormulas c hs → map (λ h. tree_at d h.term) hs ≡ map (λ h. tree_at c h.term) hs
formulas-kept [] e h = refl
formulas-kept {c} {d} (x ∷ hs) e h =
    let k : tree_at d x.term ≡ tree_at c x.term = tree-kept e x.term h.0.within in
    rw (k, formulas-kept hs e h.1) refl

-- the problem with another bank
abbrev pub in_bank : Problem → Contents → Problem
in_bank p d = record { bank = d; names = p.names; hyps = p.hyps; conjecture = p.conjecture; statements = p.statements }

module _ {p q : Problem} (e : Extends p.bank q.bank) (same : q ≡ in_bank p q.bank) (h : IsProblem p) where
  pub problem-kept : IsProblem q
  problem-kept =
      let later : IsProblem (in_bank p q.bank) = record { names = (declared-kept e p.names h.names).1; closed = all-closed-kept p.hyps e h.closed } in
      subst IsProblem (sym same) later

  pub hypotheses-kept : hypotheses_of q ≡ hypotheses_of p
  hypotheses-kept =
      let later : hypotheses_of (in_bank p q.bank) ≡ hypotheses_of p = formulas-kept p.hyps e h.closed in
      subst (λ r. hypotheses_of r ≡ hypotheses_of p) (sym same) later

  pub refutation-kept : (steps : List StepRecord) → AreStepsOf p.bank steps → IsRefutation (hypotheses_of p) (map (line_at p.bank) steps) → IsRefutation (hypotheses_of q) (map (line_at q.bank) steps)
  refutation-kept steps s r = rw (hypotheses-kept, lines-kept e steps s) r
