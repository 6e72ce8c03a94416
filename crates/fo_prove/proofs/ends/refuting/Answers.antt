use Rattle.std.proofs.Common.{arith, ◌∙◌}
use Rattle.fo_super.specs.Runs.{search_of}
use Rattle.fo_prove.proofs.Beating.{of_room}
use Rattle.fo_prove.proofs.Finishing.{refuted_end, long_end}
use Rattle.fo_prove.proofs.ends.refuting.Goals as goal

pub overflow_sub-beats : goal.overflow_sub-beats
overflow_sub-beats c = (let h = of_room (search_of c.args.state.now) c.requires.room in omega (arith, h))

pub returns-then-bytes-beats : goal.returns-then-bytes-beats
returns-then-bytes-beats c =
    let is = c.as_slice-bytes.ensures.value ∙ c.in_ok-text.ensures in
    long_end c.args.state.now.problem (search_of c.args.state.now) c.args.empty c.in_ok-steps.steps c.as_slice-bytes.result.now c.requires.room c.requires.empty c.in_ok-steps.ensures is c.if-bytes-beats.true
    c.in_ok-r.r.status c.in_ok-r.r.text.items c.in_ok-r.ensures.status c.in_ok-r.ensures.text

pub returns : goal.returns
returns c =
    let le = rw c.as_slice-bytes.ensures.value at c.if-bytes-beats.false in
    refuted_end c.args.state.now.problem (search_of c.args.state.now) c.args.empty c.in_ok-steps.steps c.in_ok-text.text.items c.requires.room c.requires.empty c.in_ok-steps.ensures c.in_ok-text.ensures le
