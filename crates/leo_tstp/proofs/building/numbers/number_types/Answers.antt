use Rattle.std.proofs.Common.{refl}
use Rattle.leo_terms.proofs.CallerLemmas.{extends-itself, extends-trans}
use Rattle.leo_tstp.proofs.Built.{numbering-kept, types-push}
use Rattle.leo_tstp.proofs.building.numbers.number_types.Goals as goal

pub loop-place-init : goal.loop-place-init
loop-place-init c = record { numbering = c.requires; symbols = refl; grows = extends-itself c.is_sound.ensures.sound }

pub returns-in_err-ty-clause-grows : goal.returns-in_err-ty-clause-grows
returns-in_err-ty-clause-grows c = extends-trans c.loop-place.invariant.grows c.type_of_node.ensures.grows

pub returns-in_err-push-clause-grows : goal.returns-in_err-push-clause-grows
returns-in_err-push-clause-grows c = extends-trans c.loop-place.invariant.grows c.type_of_node.ensures.grows

pub loop-place-preserved : goal.loop-place-preserved
loop-place-preserved c = let k = numbering-kept c.type_of_node.ensures.grows c.loop-place.invariant.numbering in record { numbering = record { bases = k.bases; types = rw c.in_ok-push.ensures.items (types-push c.type_of_node.new.bank _ _ k.types c.in_ok-ty.ensures.within); symbols = k.symbols }; symbols = c.loop-place.invariant.symbols; grows = extends-trans c.loop-place.invariant.grows c.type_of_node.ensures.grows }
