use Rattle.std.proofs.Common.{◌≡◌, ◌∷◌, [], ◌∙◌, ◌-◌, ◌+◌, ap, sym, refl, arith, length, take, List, length-append}
use Rattle.fo_terms.specs.declared.term.FoNode.{FoNode}
use Rattle.fo_terms.specs.Prefix.{prefix}
use Rattle.fo_replay.proofs.Instancing.{first_of_row, row_next}
use Rattle.fo_replay.proofs.instance.terms_of.Goals as goal

some : (n : FoNode) (ns : List FoNode) → n ∷ ns ≡ [] → ⊥
some n ns e = cc

pub overflow_sub-rest : goal.overflow_sub-rest
overflow_sub-rest c =
    let i = c.loop-head.invariant in
    let f = first_of_row c.loop-head.rest.now (take (length c.loop-head.rest.now - length c.behind-end.result.now) c.loop-head.rest.now) c.behind-end.result.now i.1.0 i.1.1 (λ e. some c.in-Some._head.now c.in-Some._tail.now (sym c.in-Some.ensures.cases.0 ∙ e)) c.behind-end.ensures refl in
    let l : length c.loop-head.rest.now ≡ length (prefix f.term) + length c.behind-end.result.now = ap length f.rest_is ∙ length-append (prefix f.term) c.behind-end.result.now in
    omega arith

pub built-requires : goal.built-requires
built-requires c =
    let i = c.loop-head.invariant in
    let f = first_of_row c.loop-head.rest.now (take (length c.loop-head.rest.now - length c.behind-end.result.now) c.loop-head.rest.now) c.behind-end.result.now i.1.0 i.1.1 (λ e. some c.in-Some._head.now c.in-Some._tail.now (sym c.in-Some.ensures.cases.0 ∙ e)) c.behind-end.ensures refl in
    (f.term, f.first_is ∙ sym (c.in_ok-from_slice.ensures.items ∙ c.split_at.ensures.front))

pub loop-head-preserved : goal.loop-head-preserved
loop-head-preserved c =
    let i = c.loop-head.invariant in
    let f = first_of_row c.loop-head.rest.now (take (length c.loop-head.rest.now - length c.behind-end.result.now) c.loop-head.rest.now) c.behind-end.result.now i.1.0 i.1.1 (λ e. some c.in-Some._head.now c.in-Some._tail.now (sym c.in-Some.ensures.cases.0 ∙ e)) c.behind-end.ensures refl in
    (row_next c.loop-head.list c.push.new.self c.built.result c.args.nodes.now c.loop-head.rest.now (take (length c.loop-head.rest.now - length c.behind-end.result.now) c.loop-head.rest.now) c.behind-end.result.now i.0 f (c.built.ensures ∙ c.in_ok-from_slice.ensures.items ∙ c.split_at.ensures.front) c.in_ok-push.ensures.ok, (f.others, f.end_is))
