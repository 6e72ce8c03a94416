use Rattle.leo_terms.proofs.CallerLemmas.{extends-itself, extends-trans}
use Rattle.conclude_rows.proofs.Ready.{first-types}
use Rattle.conclude_rows.proofs.board.make_types.Goals as goal

pub loop-parts-init : goal.loop-parts-init
loop-parts-init c = (extends-itself c.is_sound.ensures.sound, rw c.in_ok-types.ensures (first-types c.args.bank.now c.is_sound.ensures.sound c.truth.result c.thing.result c.truth.ensures c.thing.ensures))

pub returns-in_err-types-clause-grows : goal.returns-in_err-types-clause-grows
returns-in_err-types-clause-grows c = extends-itself c.is_sound.ensures.sound

pub put_function-requires : goal.put_function-requires
put_function-requires c = c.loop-parts.invariant.1

pub returns-in_err-put_function-clause-grows : goal.returns-in_err-put_function-clause-grows
returns-in_err-put_function-clause-grows c = extends-trans c.loop-parts.invariant.0 c.put_function.ensures.grows

pub loop-parts-preserved : goal.loop-parts-preserved
loop-parts-preserved c = (extends-trans c.loop-parts.invariant.0 c.put_function.ensures.grows, c.put_function.ensures.types)
