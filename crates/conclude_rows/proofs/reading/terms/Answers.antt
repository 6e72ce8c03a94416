use Rattle.leo_terms.proofs.CallerLemmas.{extends-itself, extends-trans}
use Rattle.conclude_rows.proofs.Ready.{symbols-later, types-later}
use Rattle.conclude_rows.proofs.reading.terms.Goals as goal

pub put-requires-clause-symbols : goal.put-requires-clause-symbols
put-requires-clause-symbols c = symbols-later c.loop-byte.invariant.0 c.args.symbols.now c.requires.symbols

pub put-requires-clause-vars : goal.put-requires-clause-vars
put-requires-clause-vars c = types-later c.loop-byte.invariant.0 c.args.vars.now c.requires.vars

pub put-requires-clause-stack : goal.put-requires-clause-stack
put-requires-clause-stack c = c.loop-byte.invariant.1

pub loop-byte-init : goal.loop-byte-init
loop-byte-init c = (extends-itself c.is_sound.ensures.sound, rw c.new-stack.ensures tt)

pub returns-in_err-read-clause-grows : goal.returns-in_err-read-clause-grows
returns-in_err-read-clause-grows c = extends-trans c.loop-byte.invariant.0 c.put.ensures.grows

pub returns-then-not-read-clause-grows : goal.returns-then-not-read-clause-grows
returns-then-not-read-clause-grows c = extends-trans c.loop-byte.invariant.0 c.put.ensures.grows

pub loop-byte-preserved : goal.loop-byte-preserved
loop-byte-preserved c = (extends-trans c.loop-byte.invariant.0 c.put.ensures.grows, c.put.ensures.stack)
