use Rattle.std.proofs.Common.{sym, ◌∙◌, arith}
use Rattle.leo_passive.proofs.Calls
use Rattle.leo_passive.proofs.passive.Passive.lightest.Goals as goal

pub returns-then-is_some : goal.returns-then-is_some
returns-then-is_some c =
    Calls.front-found c.self.inside.slots c.self.inside.weights.items c.args.self.now c.loop-list.list c.front-front.result
    (Calls.has c.self.inside.slots c.self.inside.weights.items c.args.self.now (c.self.invariant, c.self.view_is))
    c.loop-list.invariant.0 c.loop-list-test.true c.loop-list.invariant.1 c.front-front.ensures (sym c.is_some.ensures ∙ c.if-is_some.true)

pub loop-list-preserved : goal.loop-list-preserved
loop-list-preserved c = (
  omega arith,
  Calls.one-more c.args.self.now c.loop-list.list c.loop-list.invariant.1
      (Calls.front-missing c.self.inside.slots c.self.inside.weights.items c.args.self.now c.loop-list.list c.front-front.result
      (Calls.has c.self.inside.slots c.self.inside.weights.items c.args.self.now (c.self.invariant, c.self.view_is))
      c.loop-list.invariant.0 c.loop-list-test.true c.front-front.ensures (sym c.is_some.ensures ∙ c.if-is_some.false)),
)

pub least_heavy-requires : goal.least_heavy-requires
least_heavy-requires c = λ k a b. c.loop-list.invariant.1 k a (let e = c.loop-list-test.false in omega (arith, b, e))
