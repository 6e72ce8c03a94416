use Rattle.std.proofs.Common.{◌+◌, ◌∙◌, take, drop}
use Rattle.leo_clausify.proofs.Branching.{placed-list}
use Rattle.leo_ext.proofs.literals.replaced.Goals as goal

pub returns : goal.returns
returns c =
    placed-list c.in_ok-out.out (take c.args.at c.args.lits.now) c.in_ok-from_slice.field-0 c.args.new.now c.in_ok-from_slice-2.field-0 (drop (c.args.at + 1) c.args.lits.now) c.append.new.self c.append-2.new.self
    (c.in_ok-out.ensures ∙ c.split_at.ensures.front)
    c.in_ok-from_slice.ensures
    (c.in_ok-from_slice-2.ensures ∙ c.split_at-2.ensures.back)
    c.in_ok-append.ensures c.in_ok-append-2.ensures
