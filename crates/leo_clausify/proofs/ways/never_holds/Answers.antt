use Rattle.leo_clausify.proofs.Banks.{never-negative}
use Rattle.leo_clausify.proofs.ways.never_holds.Goals as goal

pub returns-else-lit : goal.returns-else-lit
returns-else-lit c = never-negative c.args.bank.now c.is_sound.ensures.sound c.args.lit.now.left c.args.lit.now.right c.args.lit.now.pos c.requires.left_within c.requires.right_within c.if-lit.false c.eq.result c.eq.ensures
