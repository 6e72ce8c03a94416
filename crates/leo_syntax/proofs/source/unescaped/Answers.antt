use Rattle.std.proofs.Common.{◌∙◌}
use Rattle.leo_syntax.proofs.Unescaping.{passed, kept_escaped, kept_plain, all_passed}
use Rattle.leo_syntax.proofs.source.unescaped.Goals as goal
use Rattle.leo_syntax.proofs.source.unescaped.Goals.{then-not-escaping+then-byte-eq92, else-not-escaping+in_ok-push, else-not-escaping-via-then-not-escaping+else-byte-eq92, else-not-escaping-via-else-not-escaping}

pub loop-byte-preserved : goal.loop-byte-preserved
loop-byte-preserved c = elim c.if-not-escaping.branch [
  | then-not-escaping+then-byte-eq92 w ↦ rw (w.found-is, w.escaping-is) (passed c.args.text.now c.loop-byte.found.items _ c.loop-byte.byte-index c.loop-byte.escaping c.loop-byte-test.true w.if-not-escaping.true w.if-byte-eq92.true c.loop-byte.invariant)
  | else-not-escaping+in_ok-push w ↦ elim w.else-not-escaping.branch [
    | else-not-escaping-via-then-not-escaping+else-byte-eq92 v ↦ rw (w.found-is, w.escaping-is, w.in_ok-push.ensures.items) (kept_plain c.args.text.now c.loop-byte.found.items _ c.loop-byte.byte-index c.loop-byte.escaping c.loop-byte-test.true v.if-not-escaping.true v.if-byte-eq92.false c.loop-byte.invariant)
    | else-not-escaping-via-else-not-escaping v ↦ rw (w.found-is, w.escaping-is, w.in_ok-push.ensures.items) (kept_escaped c.args.text.now c.loop-byte.found.items _ c.loop-byte.byte-index c.loop-byte.escaping c.loop-byte-test.true v.if-not-escaping.false c.loop-byte.invariant)
  ]
]

pub returns : goal.returns
returns c = c.from_vec.ensures ∙ all_passed c.args.text.now c.loop-byte.found.items _ c.loop-byte.byte-index c.loop-byte.escaping c.loop-byte-test.false c.loop-byte.invariant
