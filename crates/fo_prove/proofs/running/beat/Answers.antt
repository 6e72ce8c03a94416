use Rattle.std.proofs.Common.{refl}
use Rattle.fo_prove.specs.Endings.{none_due, taken, cut_off, without_room}
use Rattle.fo_prove.proofs.running.beat.Goals as goal

pub returns-then-turns-ne0-clause-beat : goal.returns-then-turns-ne0-clause-beat
returns-then-turns-ne0-clause-beat g c = none_due c.if-turns-ne0.true refl

pub returns-then-turns-gt-MOST_BEATS-clause-beat : goal.returns-then-turns-gt-MOST_BEATS-clause-beat
returns-then-turns-gt-MOST_BEATS-clause-beat g c = without_room c.if-turns-ne0.false c.if-turns-gt-MOST_BEATS.true c.put_end.ensures.put

pub returns-in-Ok-clause-beat : goal.returns-in-Ok-clause-beat
returns-in-Ok-clause-beat g c = taken c.if-turns-ne0.false c.if-turns-gt-MOST_BEATS.false c.in-Ok.ensures.ok

pub returns-in-Err-clause-beat : goal.returns-in-Err-clause-beat
returns-in-Err-clause-beat g c = cut_off c.if-turns-ne0.false c.if-turns-gt-MOST_BEATS.false c.in-Err.ensures.cut c.in-Err.ensures.failed
