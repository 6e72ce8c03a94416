use Rattle.std.proofs.Common.{◌∙◌, ◌++◌, ap}
use Rattle.fo_super.specs.Sifting.{head_symbol, sites}
use Rattle.fo_super.specs.Walks.{made, selected}
use Rattle.fo_super.proofs.Answering.{refuted}
use Rattle.fo_super.proofs.Never.{places-listed, side-passed}
use Rattle.fo_super.proofs.candidates.list_side.Goals as goal

pub returns-then-not-is_not_below : goal.returns-then-not-is_not_below
returns-then-not-is_not_below c = λ clauses at there.
    side-passed clauses c.args.from c.args.into c.args.equation.now c.args.literal.now at there c.order_laws.ensures.stable
    (refuted c.is_not_below.result (rw (c.near.ensures, c.far.ensures) at c.is_not_below.ensures) c.if-not-is_not_below.true) c.args.out.now

pub returns : goal.returns
returns c = λ clauses at there.
    places-listed clauses c.args.from c.args.into c.args.equation.now c.args.literal.now at there c.args.out.now c.list_places.new.out c.head-head.result (c.head-head.ensures ∙ ap head_symbol c.near-2.ensures)
    (c.in_ok-list_places.ensures ∙ ap (λ t. c.args.out.now ++ made c.args.from c.args.into (selected c.head-head.result (sites t))) c.near-3.ensures)
