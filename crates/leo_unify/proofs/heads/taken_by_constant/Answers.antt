use Rattle.std.proofs.Common.{◌∙◌, refl}
use Rattle.std.proofs.lemmas.List.{map-append}
use Rattle.leo_terms.specs.Contents.{type_at}
use Rattle.leo_terms.proofs.CallerLemmas.{type-kept}
use Rattle.leo_unify.proofs.Growing.{types-append}
use Rattle.leo_unify.proofs.heads.taken_by_constant.Goals as goal

pub returns-clause-value : goal.returns-clause-value
returns-clause-value c =
    let e = c.constant_domains.ensures.grows in
    rw c.in_ok-append.ensures (map-append (type_at c.constant_domains.new.bank) c.in_ok-taken.taken c.in_ok-others.others ∙ rw (c.in_ok-taken.ensures.value, c.in_ok-others.ensures.value, type-kept e c.args.ty c.requires.ty) refl)

pub returns-clause-types : goal.returns-clause-types
returns-clause-types c = rw c.in_ok-append.ensures (types-append c.constant_domains.new.bank c.in_ok-taken.taken c.in_ok-others.others c.in_ok-taken.ensures.types c.in_ok-others.ensures.types)
