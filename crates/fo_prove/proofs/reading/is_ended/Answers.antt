use Rattle.fo_prove.proofs.EndLines.{ended_is}
use Rattle.fo_prove.proofs.reading.is_ended.Goals as goal

pub returns : goal.returns
returns c = ended_is c.args.text.now c.as_slice.result.now c.eq.result c.ends_with.result c.eq.ensures c.if-eq.false c.as_slice.ensures c.ends_with.ensures.value
