use Rattle.std.proofs.Common.{suc, ◌≡◌, ◌∙◌, ◌+◌, take, drop, ap, arith}
use Rattle.leo_para.proofs.Joined.{placed-list}
use Rattle.leo_para.proofs.concluding.with_lits.Goals as goal

pub returns : goal.returns
returns c =
    let e : c.args.at + 1 ≡ suc c.args.at = omega arith in
    placed-list c.in_ok-placed.placed (take c.args.at c.args.lits.now) c.in_ok-from_slice.field-0 c.args.new.now c.in_ok-from_slice-2.field-0 (drop (suc c.args.at) c.args.lits.now) c.append.new.self c.append-2.new.self
    (c.in_ok-placed.ensures ∙ c.split_at.ensures.front)
    c.in_ok-from_slice.ensures
    (c.in_ok-from_slice-2.ensures ∙ c.split_at-2.ensures.back ∙ ap (λ n. drop n c.args.lits.now) e)
    c.in_ok-append.ensures c.in_ok-append-2.ensures
