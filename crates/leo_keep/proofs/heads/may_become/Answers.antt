use Rattle.leo_keep.proofs.Sending.{rigid-differs}
use Rattle.leo_keep.proofs.heads.may_become.Goals as goal

pub returns : goal.returns
returns c =
    rigid-differs c.is_sound.ensures.sound c.args.head c.args.other c.requires.head c.requires.other c.is_rigid.result c.eq.result c.is_rigid.ensures c.eq.ensures c.if-eq.false
