use Rattle.std.proofs.Common.{◌+◌, ◌∙◌, take, drop, ap}
use Rattle.leo_clausify.proofs.Branching.{placed-list}
use Rattle.leo_clausify.proofs.literals.placed.Goals as goal

pub returns-clause-lits : goal.returns-clause-lits
returns-clause-lits c =
    placed-list c.in_ok-lits.lits (take c.args.at c.args.clause.now.lits) c.in_ok-from_slice-2.field-0 c.args.new.now c.in_ok-from_slice-3.field-0 (drop (c.args.at + 1) c.args.clause.now.lits) c.append-2.new.self c.append-3.new.self
    (c.in_ok-lits.ensures ∙ c.split_at.ensures.front ∙ ap (take c.args.at) c.as_slice-2.ensures)
    c.in_ok-from_slice-2.ensures
    (c.in_ok-from_slice-3.ensures ∙ c.split_at-2.ensures.back ∙ ap (drop (c.args.at + 1)) c.as_slice-3.ensures)
    c.in_ok-append-2.ensures c.in_ok-append-3.ensures
