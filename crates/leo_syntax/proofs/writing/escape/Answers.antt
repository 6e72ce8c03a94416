use Rattle.leo_syntax.proofs.WrittenLists.{escaped_next, escaped_end}
use Rattle.leo_syntax.proofs.writing.escape.Goals as goal

pub loop-byte-preserved : goal.loop-byte-preserved
loop-byte-preserved c = rw c.in_ok-character.ensures (escaped_next c.args.content.now c.loop-byte.out.items _ c.loop-byte.byte-index c.loop-byte-test.true c.loop-byte.invariant)

pub returns : goal.returns
returns c = escaped_end c.args.content.now c.loop-byte.out.items _ c.loop-byte.byte-index c.loop-byte-test.false c.loop-byte.invariant
