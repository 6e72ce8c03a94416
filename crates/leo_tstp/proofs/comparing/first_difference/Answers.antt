use Rattle.std.proofs.Common.{Bool, true, false, not, ◌≡◌, ◌∙◌, refl, sym, arith}
use Rattle.std.specs.Cmp.Lexicographic.{same_text}
use Rattle.leo_tstp.proofs.Worded.{both-more}
use Rattle.leo_tstp.proofs.comparing.first_difference.Goals as goal

negated : (b r : Bool) → r ≡ not b → r ≡ false → true ≡ b
negated true r e f = refl
negated false r e f = absurd cc

pub loop-place-preserved : goal.loop-place-preserved
loop-place-preserved c = record {
  same = both-more c.args.bytes.now c.args.other.now c.args.tokens.now c.args.others.now c.loop-place.place _ _ _ _ c.loop-place-test.true c.if-place-others.false refl refl
      (sym c.word_of.ensures ∙ (same_text c.word_of.result.now c.word_of-in-loop-place.result.now (negated _ _ c.ne.ensures c.if-ne.false) ∙ c.word_of-in-loop-place.ensures)) c.loop-place.invariant.same;
  within = omega arith;
}
