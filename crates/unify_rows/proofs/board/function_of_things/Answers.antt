use Rattle.std.proofs.Common.{◌≡◌, arith}
use Rattle.leo_terms.proofs.CallerLemmas.{extends-itself, extends-trans}
use Rattle.unify_rows.proofs.board.function_of_things.Goals as goal

pub loop-init : goal.loop-init
loop-init c = (extends-itself c.is_sound.ensures.sound, (let b = c.is_sound.ensures.sound.base_types in let t : c.thing-ty.result ≡ 1 = c.thing-ty.ensures in omega arith))

pub loop-preserved : goal.loop-preserved
loop-preserved c = (extends-trans c.loop.invariant.0 c.arrow.ensures.grows, c.in_ok-ty.ensures.within)
