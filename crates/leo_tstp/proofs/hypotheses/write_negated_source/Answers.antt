use Rattle.leo_tstp.specs.Derivations.{negated_source}
use Rattle.leo_tstp.proofs.Writing.{three-written}
use Rattle.leo_tstp.proofs.hypotheses.write_negated_source.Goals as goal

pub returns : goal.returns
unfolding negated_source
returns c = three-written _ _ _ _ _ _ _ c.in_ok-extend_from_slice.ensures.items c.in_ok-write_source.ensures c.in_ok-extend_from_slice-2.ensures.items
