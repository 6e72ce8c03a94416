use Rattle.leo_terms.proofs.CallerLemmas.{extends-itself, extends-trans}
use Rattle.unify_rows.proofs.Ready.{types-later, types-end}
use Rattle.unify_rows.proofs.board.put_functions.Goals as goal

pub loop-count-init : goal.loop-count-init
loop-count-init c = (extends-itself c.is_sound.ensures.sound, c.requires)

pub returns-in_err-ty-clause-types : goal.returns-in_err-ty-clause-types
returns-in_err-ty-clause-types c = types-later c.function_of_things.ensures.grows _ c.loop-count.invariant.1

pub returns-in_err-ty-clause-grows : goal.returns-in_err-ty-clause-grows
returns-in_err-ty-clause-grows c = extends-trans c.loop-count.invariant.0 c.function_of_things.ensures.grows

pub returns-in_err-push-clause-types : goal.returns-in_err-push-clause-types
returns-in_err-push-clause-types c = rw c.in_err-push.ensures.err (types-later c.function_of_things.ensures.grows _ c.loop-count.invariant.1)

pub returns-in_err-push-clause-grows : goal.returns-in_err-push-clause-grows
returns-in_err-push-clause-grows c = extends-trans c.loop-count.invariant.0 c.function_of_things.ensures.grows

pub loop-count-preserved : goal.loop-count-preserved
loop-count-preserved c = (extends-trans c.loop-count.invariant.0 c.function_of_things.ensures.grows, rw c.in_ok-push.ensures.ok (types-end c.function_of_things.new.bank _ _ (types-later c.function_of_things.ensures.grows _ c.loop-count.invariant.1) c.in_ok-ty.ensures.within))
