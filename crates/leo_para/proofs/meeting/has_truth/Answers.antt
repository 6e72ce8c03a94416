use Rattle.std.proofs.Common.{None, refl}
use Rattle.leo_terms.proofs.CallerLemmas.{reads-logic}
use Rattle.leo_para.proofs.meeting.has_truth.Goals as goal

pub returns-in-Logic-True-None-None : goal.returns-in-Logic-True-None-None
returns-in-Logic-True-None-None c =
    let k = c.in-Logic-True-None-None in
    rw (reads-logic k.ensures.sound c.args.lit.now.right k.field-0 None None (rw (k.field-1-is, k.field-2-is) at k.ensures.view), k.field-0-is) refl

pub returns-in-Logic-False-None-None : goal.returns-in-Logic-False-None-None
returns-in-Logic-False-None-None c =
    let k = c.in-Logic-False-None-None in
    rw (reads-logic k.ensures.sound c.args.lit.now.right k.field-0 None None (rw (k.field-1-is, k.field-2-is) at k.ensures.view), k.field-0-is) refl
