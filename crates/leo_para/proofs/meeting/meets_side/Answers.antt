use Rattle.std.proofs.Common.{◌∙◌, sym}
use Rattle.leo_terms.specs.Contents.{tree_at}
use Rattle.leo_terms.proofs.CallerLemmas.{term-present}
use Rattle.leo_para.specs.Reading.{top_at}
use Rattle.leo_para.proofs.Passing.{none-whole, on-false}
use Rattle.leo_para.proofs.meeting.meets_side.Goals as goal

pub returns : goal.returns
returns c =
    on-false c.meets_below.result
    (none-whole (top_at c.args.bank.now c.args.head.now) (tree_at c.args.bank.now c.args.t) (term-present c.is_sound.ensures.sound c.args.t c.requires.within)
    (rw c.head_of.ensures.reads at (sym c.meet.ensures ∙ c.if-meet.false)))
    c.meets_below.ensures
