use Rattle.std.proofs.Common.{ap, length, ◌≡◌, ◌≤◌, arith}
use Rattle.fo_terms.specs.Prefix.{prefix}
use Rattle.fo_replay.proofs.Paths.{reached_start, reached_next, reached_end, reached_within, one_term}
use Rattle.fo_replay.proofs.places.find.Goals as goal

pub loop-number-init : goal.loop-number-init
loop-number-init c = reached_start c.args.term.now c.args.path.now c.nodes-nodes.result.now c.nodes-nodes.ensures

pub loop-number-preserved : goal.loop-number-preserved
loop-number-preserved c =
    let i = c.loop-number.invariant in
    reached_next c.args.term.now c.args.path.now c.loop-number.rest.now c.loop-number.left.now c.in-Some.number.now c.in-Some.others.now c.in_ok-rest.rest.now c.in-Some.ensures.cases.0 i (c.in_ok-rest.ensures i.term i.back i.rest_is)

pub overflow_sub-result-2 : goal.overflow_sub-result-2
overflow_sub-result-2 c =
    let i = c.loop-number.invariant in
    let e = one_term c.loop-number.rest.now i.term i.back c.behind-end.result.now i.rest_is c.behind-end.ensures in
    let w = reached_within c.args.term.now c.args.path.now c.loop-number.rest.now c.loop-number.left.now c.behind-end.result.now c.nodes-nodes.result.now i e c.nodes-nodes.ensures in
    w.1

pub returns : goal.returns
returns c =
    let i = c.loop-number.invariant in
    let e = one_term c.loop-number.rest.now i.term i.back c.behind-end.result.now i.rest_is c.behind-end.ensures in
    let w = reached_within c.args.term.now c.args.path.now c.loop-number.rest.now c.loop-number.left.now c.behind-end.result.now c.nodes-nodes.result.now i e c.nodes-nodes.ensures in
    let n : length c.nodes-nodes.result.now ≡ length (prefix c.args.term.now) = ap length c.nodes-nodes.ensures in
    let a : length c.loop-number.rest.now ≤ length c.nodes-nodes.result.now = w.0 in
    let b : length c.behind-end.result.now ≤ length c.nodes-nodes.result.now = w.1 in
    reached_end c.args.term.now c.args.path.now c.loop-number.rest.now c.loop-number.left.now c.behind-end.result.now _ _ c.in_default.ensures.cases i e (omega arith) (omega arith)
