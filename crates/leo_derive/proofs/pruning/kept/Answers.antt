use Rattle.std.proofs.Common.{◌≡◌, ◌∙◌, ◌+◌, ◌++◌, ◌∷◌, [], map, length, get_or, sym, ap, arith}
use Rattle.std.proofs.lemmas.List.{length-map}
use Rattle.leo_kernel.specs.Steps.{line_at}
use Rattle.leo_derive.specs.Marking.{is_marked}
use Rattle.leo_derive.specs.Pruning.{kept_before}
use Rattle.leo_derive.proofs.Marked.{below_more}
use Rattle.leo_derive.proofs.Records.{line_stands, record_stands}
use Rattle.leo_derive.proofs.Keeping.{numbers_next, numbers_length, kept_next}
use Rattle.leo_derive.proofs.pruning.kept.Goals as goal

pub keep_if-requires-clause-step : goal.keep_if-requires-clause-step
keep_if-requires-clause-step c = c.requires.lines c.loop-at.at c.index-lines-at.result (record_stands c.args.lines.now c.loop-at.at c.index-lines-at.result c.loop-at-test.true c.index-lines-at.is)

pub keep_if-requires-clause-named : goal.keep_if-requires-clause-named
keep_if-requires-clause-named c =
    let stands = line_stands c.args.bank.now c.args.lines.now c.loop-at.at c.index-lines-at.result c.loop-at-test.true c.index-lines-at.is in
    let many = numbers_length c.loop-at.numbers.items c.count_of.result c.loop-at.at c.loop-at.invariant.0 in
    let long : length c.deref-in-loop-at.result.now ≡ c.loop-at.at + 1 = rw (c.deref-in-loop-at.ensures.value, c.in_ok-push.ensures.items) many in
    below_more c.loop-at.at (length c.deref-in-loop-at.result.now) _ (omega (arith, long)) (c.requires.order.named_earlier c.loop-at.at _ stands)

pub loop-at-preserved : goal.loop-at-preserved
loop-at-preserved c =
    let keeps = is_marked c.args.marks.now in
    let l = line_at c.args.bank.now c.index-lines-at.result in
    let stands = line_stands c.args.bank.now c.args.lines.now c.loop-at.at c.index-lines-at.result c.loop-at-test.true c.index-lines-at.is in
    let place : c.count_of.result ≡ kept_before keeps c.loop-at.at = c.count_of.ensures ∙ ap length c.deref.ensures.value ∙ c.loop-at.invariant.2 in
    let numbers = numbers_next keeps c.loop-at.at c.loop-at.numbers.items c.count_of.result c.loop-at.invariant.0 c.loop-at.invariant.1 place in
    let many = numbers_length c.loop-at.numbers.items c.count_of.result c.loop-at.at c.loop-at.invariant.0 in
    let same : c.deref-in-loop-at.result.now ≡ c.loop-at.numbers.items ++ c.count_of.result ∷ [] = c.deref-in-loop-at.ensures.value ∙ c.in_ok-push.ensures.items in
    let count = length-map c.loop-at.found.items (line_at c.args.bank.now) ∙ c.loop-at.invariant.2 in
    let next = kept_next keeps c.loop-at.at (map (line_at c.args.bank.now) c.args.lines.now) l stands (λ n. get_or c.deref-in-loop-at.result.now n 0) (λ n o. rw same (numbers n (omega (arith, o)))) (c.requires.order.named_earlier c.loop-at.at l stands)
    c.stands-stands.result c.stands-stands.ensures (map (line_at c.args.bank.now) c.loop-at.found.items) (map (line_at c.args.bank.now) c.keep_if.new.found.items) _ c.in_ok-keep_if.ensures.kept count c.loop-at.invariant.3 in
    (rw c.in_ok-push.ensures.items many, rw c.in_ok-push.ensures.items numbers, sym (length-map c.keep_if.new.found.items (line_at c.args.bank.now)) ∙ next.0, next.1, c.in_ok-keep_if.ensures.steps)
