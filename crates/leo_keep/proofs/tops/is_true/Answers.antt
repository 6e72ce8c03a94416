use Rattle.leo_terms.proofs.CallerLemmas.{term-typed}
use Rattle.leo_keep.proofs.Numbers.{yes}
use Rattle.leo_keep.proofs.Comparing.{true-alone}
use Rattle.leo_keep.proofs.tops.is_true.Goals as goal

pub returns-in-True : goal.returns-in-True
returns-in-True c =
    let k = c.in-Some.ensures in
    yes (true-alone c.args.bank.now c.in-Some.constant.op _ _ _ c.in-True.is (term-typed c.is_sound.ensures.sound c.args.t c.requires) k.reads)
