use Rattle.std.proofs.Common.{◌∙◌}
use Rattle.fo_super.proofs.Weighing.{given-first, given-lightest, named-too}
use Rattle.fo_super.proofs.turning.given.Goals as goal

pub returns-then-state-eq0 : goal.returns-then-state-eq0
returns-then-state-eq0 c = given-first c.args.state.now c.requires.state c.as_slice-passive.result.now c.as_slice-passive.ensures c.requires.passive c.if-state-eq0.true

pub lightest-place-requires-clause-named : goal.lightest-place-requires-clause-named
lightest-place-requires-clause-named c = rw c.as_slice-passive.ensures (named-too c.as_slice.result.now c.args.state.now.clauses c.args.state.now.passive (c.as_slice.ensures ∙ c.requires.state.notes.weights) c.requires.state.named)

pub returns : goal.returns
returns c =
    given-lightest c.args.state.now c.requires.state c.as_slice-passive.result.now c.as_slice-passive.ensures c.lightest-place.result c.lightest-place.ensures.inside (λ g. c.lightest-place.ensures.first c.args.state.now.clauses g (c.as_slice.ensures ∙ c.requires.state.notes.weights))
    c.if-state-eq0.false
