use Rattle.std.proofs.Common.{◌≡◌, ◌∙◌, ap, nat_eq, []}
use Rattle.std.specs.List.{list_any}
use Rattle.leo_clause.specs.Arranging.{firsts}
use Rattle.leo_clause.proofs.Seen.{firsts-next}
use Rattle.leo_ext.proofs.Loops.{take-all}
use Rattle.leo_ext.proofs.binding.different.Goals as goal
use Rattle.leo_ext.proofs.binding.different.Goals.{then-not-stands_among+in_ok-push, else-not-stands_among}

pub loop-ty-preserved : goal.loop-ty-preserved
loop-ty-preserved c =
    let e : c.stands_among.result ≡ list_any (nat_eq c.ty-item.result) c.loop-ty.kept.items = c.stands_among.ensures ∙ ap (list_any (nat_eq c.ty-item.result)) c.deref.ensures.value in
    let n = firsts-next nat_eq c.args.types.now c.loop-ty.kept.items c.loop-ty.ty-index c.ty-item.result c.stands_among.result c.loop-ty-test.true c.ty-item.is c.loop-ty.invariant e in
    elim c.if-not-stands_among.branch [
      | then-not-stands_among+in_ok-push w ↦ rw (w.kept-is, w.in_ok-push.ensures.items) (rw w.if-not-stands_among.true at n)
      | else-not-stands_among w ↦ rw w.kept-is (rw w.if-not-stands_among.false at n)
    ]

pub returns : goal.returns
returns c = c.loop-ty.invariant ∙ ap (firsts nat_eq []) (take-all c.args.types.now c.loop-ty.ty-index c.loop-ty-test.false)
