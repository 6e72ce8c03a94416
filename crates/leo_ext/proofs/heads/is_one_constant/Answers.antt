use Rattle.leo_ext.proofs.Comparing.{same-types}
use Rattle.leo_ext.proofs.heads.is_one_constant.Goals as goal

pub returns-in-Eq-other : goal.returns-in-Eq-other
returns-in-Eq-other c = rw (c.in-Eq.is, c.in-Eq-other.is) (same-types c.args.bank.now c.is_sound.ensures.sound c.in-Eq.a c.in-Eq-other.b (rw c.in-Eq.is at c.requires.first) (rw c.in-Eq-other.is at c.requires.second) c.eq.result c.eq.ensures)

pub returns-in-All-other : goal.returns-in-All-other
returns-in-All-other c = rw (c.in-All.is, c.in-All-other.is) (same-types c.args.bank.now c.is_sound.ensures.sound c.in-All.a c.in-All-other.b (rw c.in-All.is at c.requires.first) (rw c.in-All-other.is at c.requires.second) c.eq-in-All-other.result c.eq-in-All-other.ensures)

pub returns-in-Some-other : goal.returns-in-Some-other
returns-in-Some-other c = rw (c.in-Some.is, c.in-Some-other.is) (same-types c.args.bank.now c.is_sound.ensures.sound c.in-Some.a c.in-Some-other.b (rw c.in-Some.is at c.requires.first) (rw c.in-Some-other.is at c.requires.second) c.eq-in-Some-other.result c.eq-in-Some-other.ensures)

pub returns-in-Eps-other : goal.returns-in-Eps-other
returns-in-Eps-other c = rw (c.in-Eps.is, c.in-Eps-other.is) (same-types c.args.bank.now c.is_sound.ensures.sound c.in-Eps.a c.in-Eps-other.b (rw c.in-Eps.is at c.requires.first) (rw c.in-Eps-other.is at c.requires.second) c.eq-in-Eps-other.result c.eq-in-Eps-other.ensures)
