use Rattle.leo_terms.proofs.CallerLemmas.{term-typed}
use Rattle.leo_keep.proofs.Numbers.{yes}
use Rattle.leo_keep.proofs.Comparing.{false-alone}
use Rattle.leo_keep.proofs.tops.is_false.Goals as goal

pub returns-in-False : goal.returns-in-False
returns-in-False c =
    let k = c.in-Some.ensures in
    yes (false-alone c.args.bank.now c.in-Some.constant.op _ _ _ c.in-False.is (term-typed c.is_sound.ensures.sound c.args.t c.requires) k.reads)
