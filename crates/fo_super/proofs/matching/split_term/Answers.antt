use Rattle.std.proofs.Common.{◌≡◌, ◌+◌, ◌-◌, ◌∙◌, [], ap, arith, length, length-append}
use Rattle.fo_terms.specs.Prefix.{prefix}
use Rattle.fo_replay.proofs.Nodes.{range_start, range_rest}
use Rattle.fo_replay.proofs.Paths.{one_term}
use Rattle.fo_super.proofs.matching.split_term.Goals as goal

pub overflow_sub-nodes : goal.overflow_sub-nodes
overflow_sub-nodes c =
    let r = c.requires in
    let e = one_term c.args.nodes.now r.0 r.1 c.behind-rest.result.now r.2 c.behind-rest.ensures in
    let l : length c.args.nodes.now ≡ length (prefix r.0) + length r.1 = ap length r.2 ∙ length-append (prefix r.0) r.1 in
    let k : length c.behind-rest.result.now ≡ length r.1 = ap length e in
    omega arith

pub returns : goal.returns
returns c = λ t back h.
    let e = one_term c.args.nodes.now t back c.behind-rest.result.now h c.behind-rest.ensures in
    let l : length c.args.nodes.now ≡ length (prefix t) + length back = ap length h ∙ length-append (prefix t) back in
    let k : length c.behind-rest.result.now ≡ length back = ap length e in
    let m : length (prefix t) ≡ length c.args.nodes.now - length c.behind-rest.result.now = omega arith in
    let n : length (prefix t) + 0 ≡ length c.args.nodes.now - length c.behind-rest.result.now = omega arith in (
      c.split_at.ensures.front ∙ range_start c.args.nodes.now (prefix t) [] back (length c.args.nodes.now - length c.behind-rest.result.now) h m,
      c.split_at.ensures.back ∙ range_rest c.args.nodes.now (prefix t) [] back (length c.args.nodes.now - length c.behind-rest.result.now) h n,
    )
