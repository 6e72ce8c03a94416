use Rattle.std.proofs.Common.{ap, subst}
use Rattle.fo_terms.specs.Prefix.{prefix, IsPrefix}
use Rattle.fo_terms.specs.Reading.{term_of-prefix}
use Rattle.fo_terms.proofs.term.FoTerm.new.Goals as goal

pub returns-else-is_prefix-clause-refused : goal.returns-else-is_prefix-clause-refused
returns-else-is_prefix-clause-refused c t e =
    let read : IsPrefix c.args.nodes.items = subst IsPrefix e (ap prefix (term_of-prefix t)) in
    let false = c.if-is_prefix.ensures.1 (rw c.deref.ensures.value read) in
    cc
