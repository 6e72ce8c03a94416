-- The members of negative literals.
use Rattle.std.proofs.Common.{ℕ, ◌≡◌, ◌∙◌, false, List, [], ◌∷◌, ◌++◌, refl, ap}
use Rattle.leo_terms.specs.Contents.{Contents, IsBank}
use Rattle.leo_terms.proofs.CallerLemmas.{extends-itself}
use Rattle.leo_clause.specs.declared.clause.Clause.{Clause}
use Rattle.leo_clause.specs.declared.clause.Lit.{Lit}
use Rattle.leo_clause.specs.declared.record.Rule.TheVariants as record_of
use Rattle.leo_clause.specs.declared.record.StepRecord.{StepRecord}
use Rattle.leo_clause.specs.Trees.{clause_at, literal_at}
use Rattle.leo_clause.specs.Typed.{IsClauseOf}
use Rattle.leo_kernel.specs.Steps.{convert}
use Rattle.leo_para.specs.declared.member.Due.{Due}
use Rattle.leo_ext.specs.Listing.{Adds}
use Rattle.leo_ext.specs.Members.{resolve_at}
use Rattle.leo_ext.proofs.Adding.{adds-as, adds-step}

pub resolve-added : (c : Contents) → IsBank c → (k conclusion : Clause) → IsClauseOf c k → (before at number : ℕ) (l : Lit) (old new : List Due) (records : List StepRecord) → l.pos ≡ false → conclusion ≡ k → records ≡ record { clause = conclusion; rule = record_of.Convert before } ∷ [] → number ≡ at → new ≡ old ++ record { records = records; pairs = number ∷ [] } ∷ []
    → Adds c c old new (resolve_at before (clause_at c k) at (literal_at c l))
resolve-added c b k conclusion of before at number l old new records negative e f g is =
    let s : StepRecord = record { clause = k; rule = record_of.Convert before } in
    let r : records ≡ s ∷ [] = f ∙ ap (λ (x : Clause). record { clause = x; rule = record_of.Convert before } ∷ []) e in
    let put : new ≡ old ++ record { records = s ∷ []; pairs = at ∷ [] } ∷ [] = is ∙ rw (r, g) refl in
    adds-as old new _ _ (adds-step (extends-itself b) old new s (at ∷ []) (record { clause = clause_at c k; rule = convert before }) put (record { step_of = record { clause_of = of; terms_of = tt }; reads = refl })) (rw negative refl)
