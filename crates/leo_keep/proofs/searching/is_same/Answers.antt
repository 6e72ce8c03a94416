use Rattle.leo_keep.proofs.Numbers.{no, refuted}
use Rattle.leo_keep.proofs.Clauses.{other-literals, same-clauses}
use Rattle.leo_keep.proofs.searching.is_same.Goals as goal

pub returns-then-not-same_lits : goal.returns-then-not-same_lits
returns-then-not-same_lits c =
    no (other-literals c.args.bank.now c.is_sound.ensures.sound c.args.clause.now c.args.other.now c.requires.clause c.requires.other
    (refuted c.same_lits.result (rw (c.as_slice.ensures, c.as_slice-2.ensures) at c.same_lits.ensures) c.if-not-same_lits.true))

pub returns : goal.returns
returns c =
    same-clauses c.args.bank.now c.is_sound.ensures.sound c.args.clause.now c.args.other.now c.requires.clause c.requires.other
    ((rw (c.as_slice.ensures, c.as_slice-2.ensures) at c.same_lits.ensures).0 c.if-not-same_lits.false)
    c.same_types.result (rw (c.as_slice-3.ensures, c.as_slice-4.ensures) at c.same_types.ensures)
