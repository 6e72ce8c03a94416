use Rattle.std.proofs.Common.{◌∙◌, ap}
use Rattle.leo_terms.specs.Contents.{Contents}
use Rattle.leo_terms.proofs.CallerLemmas.{type_number-within}
use Rattle.leo_tstp.proofs.printing.type_of_symbol.Goals as goal

pub returns-clause-within : goal.returns-clause-within
returns-clause-within c =
    let w = type_number-within c.type_of.ensures.sound _ c.in_ok-term.ensures.made.within in
    let e = ap (λ (d : Contents). d.types) (c.in_ok-term.ensures.rest) ∙ ap (λ (d : Contents). d.types) c.in_ok-copy.ensures.equal in
    rw (c.type_of.ensures.number, ← e) w
