use Rattle.std.proofs.Common.{refl}
use Rattle.leo_terms.proofs.CallerLemmas.{new_bank, reads-arrow, type-kept}
use Rattle.leo_unify.proofs.BodySteps.{truth-number}
use Rattle.leo_unify.proofs.heads.property_domain.Goals as goal

pub returns-clause-value : goal.returns-clause-value
returns-clause-value c =
    let e = c.arrow.ensures.grows in
    rw (c.in_ok-taken.ensures, reads-arrow (new_bank e) c.in_ok-property.ensures.made, type-kept e c.args.ty c.requires, c.truth.ensures, truth-number c.arrow.new.self (new_bank e)) refl
