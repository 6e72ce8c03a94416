use Rattle.fo_super.specs.Outcomes.{tautology, room, heavy, copy, subsumed, kept}
use Rattle.fo_super.proofs.Answering.{refuted}
use Rattle.fo_super.proofs.Keeping.{admitted}
use Rattle.fo_super.proofs.deciding.outcome.Goals as goal

pub returns-then-is_tautology : goal.returns-then-is_tautology
returns-then-is_tautology c = tautology ((rw c.as_slice.ensures at c.is_tautology.ensures).0 c.if-is_tautology.true)

pub returns-then-lacks_room : goal.returns-then-lacks_room
returns-then-lacks_room c =
    room (refuted c.is_tautology.result (rw c.as_slice.ensures at c.is_tautology.ensures) c.if-is_tautology.false) (c.lacks_room.ensures.0 c.if-lacks_room.true)

pub returns-then-is_heavy : goal.returns-then-is_heavy
returns-then-is_heavy c =
    heavy (refuted c.is_tautology.result (rw c.as_slice.ensures at c.is_tautology.ensures) c.if-is_tautology.false)
    (refuted c.lacks_room.result c.lacks_room.ensures c.if-lacks_room.false)
    (c.is_heavy.ensures.0 c.if-is_heavy.true)

pub returns-in-Some : goal.returns-in-Some
returns-in-Some c = copy (admitted c.args.kept.now c.args.weight c.args.instance.now c.args.clause.now c.is_tautology.result c.lacks_room.result c.is_heavy.result (rw c.as_slice.ensures at c.is_tautology.ensures) c.if-is_tautology.false c.lacks_room.ensures c.if-lacks_room.false c.is_heavy.ensures c.if-is_heavy.false) c.in-Some.ensures

pub returns-in-Some-2 : goal.returns-in-Some-2
returns-in-Some-2 c =
    subsumed (admitted c.args.kept.now c.args.weight c.args.instance.now c.args.clause.now c.is_tautology.result c.lacks_room.result c.is_heavy.result (rw c.as_slice.ensures at c.is_tautology.ensures) c.if-is_tautology.false c.lacks_room.ensures c.if-lacks_room.false c.is_heavy.ensures c.if-is_heavy.false) c.in-None.ensures
    (rw c.in-Some-2.is at c.in_ok-number-in-None.ensures)

pub returns-in-None-2 : goal.returns-in-None-2
returns-in-None-2 c =
    kept (admitted c.args.kept.now c.args.weight c.args.instance.now c.args.clause.now c.is_tautology.result c.lacks_room.result c.is_heavy.result (rw c.as_slice.ensures at c.is_tautology.ensures) c.if-is_tautology.false c.lacks_room.ensures c.if-lacks_room.false c.is_heavy.ensures c.if-is_heavy.false) c.in-None.ensures
    (rw c.in-None-2.is at c.in_ok-number-in-None.ensures)
