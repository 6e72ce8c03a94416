use Rattle.std.proofs.Common.{◌≡◌, ◌+◌, ◌-◌, length, map, subst, arith, [], replicate, false}
use Rattle.std.proofs.lemmas.List.{length-map}
use Rattle.leo_kernel.specs.Steps.{line_at}
use Rattle.leo_derive.specs.Marking.{IsMarkedFrom}
use Rattle.leo_derive.proofs.Marked.{goal_marked_first, all_marked, no_items, nothing_there}
use Rattle.leo_derive.proofs.marking.marks.Goals as goal

pub loop-passed-init : goal.loop-passed-init
loop-passed-init c =
    let e : c.args.goal + 1 ≡ c.args.goal + 1 - 0 = omega arith in
    let l = length-map c.args.lines.now (line_at c.args.bank.now) in
    let m : c.in_ok-marks.marks.items ≡ replicate (length c.args.lines.now) false = c.in_ok-marks.ensures.items_if_clones_equal (λ y e. e) in
    let s : c.new-symbols.result.keys ≡ [] = no_items c.new-symbols.result.keys c.new-symbols.ensures.len in
    let v : c.new-visited.result.keys ≡ [] = no_items c.new-visited.result.keys c.new-visited.ensures.len in
    let first = rw l at (goal_marked_first (map (line_at c.args.bank.now) c.args.lines.now) c.args.goal (rw l c.requires.goal)) in
    (λ i t h. absurd (nothing_there i t (rw v at h)), rw (← e, m, s) first)

pub step-requires-clause-marked : goal.step-requires-clause-marked
step-requires-clause-marked c =
    let e : c.args.goal + 1 - c.loop-passed.passed ≡ c.args.goal - c.loop-passed.passed + 1 = omega (arith, c.loop-passed-test.true) in
    subst (λ n. IsMarkedFrom (map (line_at c.args.bank.now) c.args.lines.now) c.args.goal n c.loop-passed.marks.items c.loop-passed.symbols.keys) e c.loop-passed.invariant.1

pub returns : goal.returns
returns c =
    let e : c.args.goal + 1 - c.loop-passed.passed ≡ 0 = omega (arith, c.loop-passed-test.false) in
    all_marked (map (line_at c.args.bank.now) c.args.lines.now) c.args.goal c.loop-passed.marks.items c.loop-passed.symbols.keys
    (subst (λ n. IsMarkedFrom (map (line_at c.args.bank.now) c.args.lines.now) c.args.goal n c.loop-passed.marks.items c.loop-passed.symbols.keys) e c.loop-passed.invariant.1)
