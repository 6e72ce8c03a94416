use Rattle.fo_text.proofs.KnownSorts.{sound_start}
use Rattle.fo_text.proofs.known.inhabited.Goals as goal

pub loop-known-init : goal.loop-known-init
loop-known-init c = (sound_start c.args.vars.now c.args.syms.now c.in_ok-known.known c.in_ok-known.ensures.only, c.in_ok-known.ensures.vars)
