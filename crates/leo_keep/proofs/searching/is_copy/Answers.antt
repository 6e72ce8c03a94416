use Rattle.leo_keep.proofs.Fronting.{other-clause}
use Rattle.leo_keep.proofs.Numbers.{no}
use Rattle.leo_keep.proofs.Clauses.{other-literals}
use Rattle.leo_keep.proofs.searching.is_copy.Goals as goal

pub returns-then-not-may_be_copy : goal.returns-then-not-may_be_copy
returns-then-not-may_be_copy c =
    no (other-literals c.args.bank.now c.is_sound.ensures.sound c.args.clause.now c.args.other.now c.requires.clause c.requires.other
    (other-clause c.args.bank.now c.args.clause.now c.args.other.now c.args.front.now c.requires.front c.if-not-may_be_copy.ensures))
