use Rattle.std.proofs.Common.{map}
use Rattle.leo_clause.specs.Trees.{clause_at}
use Rattle.leo_keep.specs.Outcomes.{tautology, room, heavy, copy, subsumed, kept}
use Rattle.leo_keep.proofs.Numbers.{refuted}
use Rattle.leo_keep.proofs.Clauses.{room-decides}
use Rattle.leo_keep.proofs.Admitting.{admitted}
use Rattle.leo_keep.proofs.deciding.outcome.Goals as goal

pub returns-then-is_tautology : goal.returns-then-is_tautology
returns-then-is_tautology c = tautology ((rw c.as_slice.ensures at c.is_tautology.ensures).0 c.if-is_tautology.true)

pub returns-then-lacks_room : goal.returns-then-lacks_room
returns-then-lacks_room c =
    room (refuted c.is_tautology.result (rw c.as_slice.ensures at c.is_tautology.ensures) c.if-is_tautology.false) ((room-decides c.args.bank.now c.args.kept.now c.args.c.now c.lacks_room.result (rw c.clauses-clauses.ensures at c.lacks_room.ensures)).0 c.if-lacks_room.true)

pub returns-then-is_heavy : goal.returns-then-is_heavy
returns-then-is_heavy c =
    heavy (refuted c.is_tautology.result (rw c.as_slice.ensures at c.is_tautology.ensures) c.if-is_tautology.false)
    (refuted c.lacks_room.result (room-decides c.args.bank.now c.args.kept.now c.args.c.now c.lacks_room.result (rw c.clauses-clauses.ensures at c.lacks_room.ensures)) c.if-lacks_room.false)
    (c.is_heavy.ensures.0 c.if-is_heavy.true)

pub returns-in-Some : goal.returns-in-Some
returns-in-Some c = copy (admitted (map (clause_at c.args.bank.now) c.args.kept.now) (clause_at c.args.bank.now c.args.c.now) c.args.weight c.is_tautology.result c.lacks_room.result c.is_heavy.result (rw c.as_slice.ensures at c.is_tautology.ensures) c.if-is_tautology.false (room-decides c.args.bank.now c.args.kept.now c.args.c.now c.lacks_room.result (rw c.clauses-clauses.ensures at c.lacks_room.ensures)) c.if-lacks_room.false c.is_heavy.ensures c.if-is_heavy.false) (rw c.clauses-clauses.ensures at c.in-Some.ensures)

pub returns-in-Some-2 : goal.returns-in-Some-2
returns-in-Some-2 c =
    subsumed (admitted (map (clause_at c.args.bank.now) c.args.kept.now) (clause_at c.args.bank.now c.args.c.now) c.args.weight c.is_tautology.result c.lacks_room.result c.is_heavy.result (rw c.as_slice.ensures at c.is_tautology.ensures) c.if-is_tautology.false (room-decides c.args.bank.now c.args.kept.now c.args.c.now c.lacks_room.result (rw c.clauses-clauses.ensures at c.lacks_room.ensures)) c.if-lacks_room.false c.is_heavy.ensures c.if-is_heavy.false) (rw c.clauses-clauses.ensures at c.in-None.ensures)
    (rw (c.clauses-clauses.ensures, c.in-Some-2.is) at c.in_ok-number-in-None.ensures)

pub returns-in-None-2 : goal.returns-in-None-2
returns-in-None-2 c =
    kept (admitted (map (clause_at c.args.bank.now) c.args.kept.now) (clause_at c.args.bank.now c.args.c.now) c.args.weight c.is_tautology.result c.lacks_room.result c.is_heavy.result (rw c.as_slice.ensures at c.is_tautology.ensures) c.if-is_tautology.false (room-decides c.args.bank.now c.args.kept.now c.args.c.now c.lacks_room.result (rw c.clauses-clauses.ensures at c.lacks_room.ensures)) c.if-lacks_room.false c.is_heavy.ensures c.if-is_heavy.false) (rw c.clauses-clauses.ensures at c.in-None.ensures)
    (rw (c.clauses-clauses.ensures, c.in-None-2.is) at c.in_ok-number-in-None.ensures)
