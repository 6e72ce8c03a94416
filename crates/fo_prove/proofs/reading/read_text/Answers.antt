use Rattle.std.proofs.Common.{arith}
use Rattle.fo_prove.proofs.EndLines.{line_read, end_read, limit_read}
use Rattle.fo_prove.proofs.reading.read_text.Goals as goal

pub returns-in-Some-clause-read : goal.returns-in-Some-clause-read
returns-in-Some-clause-read g c =
    let piece = rw c.in-Given.is at c.in_ok-append_next.ensures.piece in
    let some = rw c.deref.ensures.value at c.in-Some.ensures in
    line_read (g.R.Source.given c.args.source.now) (g.R.Source.has_ended c.append_next.new.source) c.truncate.new.self.items c.in-Some.length c.loop-buffer.invariant.told piece c.truncate.ensures.items some.within some.found some.first

pub returns-in-Ended-clause-read : goal.returns-in-Ended-clause-read
returns-in-Ended-clause-read g c =
    let piece = rw c.in-Ended.is at c.in_ok-append_next.ensures.piece in
    end_read (g.R.Source.given c.args.source.now) c.loop-buffer.invariant.told c.loop-buffer.invariant.no_end piece

pub returns-clause-read : goal.returns-clause-read
returns-clause-read g c =
    limit_read (g.R.Source.given c.args.source.now) (g.R.Source.given c.loop-buffer.source) (g.R.Source.has_ended c.loop-buffer.source) c.loop-buffer.text.items c.loop-buffer.invariant.told c.loop-buffer.invariant.no_end c.loop-buffer.invariant.within (omega (arith, c.loop-buffer-test.false, c.len.ensures))
