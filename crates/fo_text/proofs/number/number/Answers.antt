use Rattle.std.proofs.Common.{arith, sym, ◌∙◌}
use Rattle.fo_text.proofs.NumberWords.{refuses-start, refuses-end, begun}
use Rattle.fo_text.proofs.number.number.Goals as goal

pub returns-in_default-clause-refused : goal.returns-in_default-clause-refused
returns-in_default-clause-refused c =
    refuses-start c.args.least c.args.most c.args.ends c.args.input.now c.requires.range.0 c.requires.low c.requires.range.1 c.in_default.ensures

pub returns-then-is_ended-clause-read : goal.returns-then-is_ended-clause-read
returns-then-is_ended-clause-read c =
    let from = c.digits-value.ensures.from in record {
      input_is = begun c.args.input.now c.in-Some.first c.in-Some.tail.now c.in-Some.ensures.0 ∙ c.digits-value.ensures.same;
      not_below = omega (arith, c.in-Some.ensures.1);
      not_above = c.digits-value.ensures.not_above;
      ended = sym c.is_ended.ensures ∙ c.if-is_ended.true;
    }

pub returns-else-is_ended-clause-refused : goal.returns-else-is_ended-clause-refused
returns-else-is_ended-clause-refused c =
    let from = c.digits-value.ensures.from in
    refuses-end c.args.least c.args.most c.args.ends c.args.input.now c.digits-value.result.0 c.digits-value.result.1.now
    (begun c.args.input.now c.in-Some.first c.in-Some.tail.now c.in-Some.ensures.0 ∙ c.digits-value.ensures.same)
    (omega (arith, c.in-Some.ensures.1)) c.digits-value.ensures.not_above c.requires.range.1 c.digits-value.ensures.stops (sym c.is_ended.ensures ∙ c.if-is_ended.false)
