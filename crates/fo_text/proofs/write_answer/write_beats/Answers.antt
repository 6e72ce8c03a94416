use Rattle.fo_text.proofs.AnswerReading.{beats_out}
use Rattle.fo_text.proofs.write_answer.write_beats.Goals as goal

pub loop-preserved : goal.loop-preserved
loop-preserved c = beats_out c.loop.counter c.args.out.now.items c.loop.out.items c.extend_from_slice.new.self.items c.loop.invariant c.in_ok-extend_from_slice.ensures.items
