use Rattle.fo_super.proofs.Sifted.{listed-nothing, other-listed, other-same}
use Rattle.fo_super.proofs.candidates.list_other.Goals as goal

pub returns-then-not-literal : goal.returns-then-not-literal
returns-then-not-literal c = λ clauses. rw c.if-not-literal.true (listed-nothing clauses c.args.out.now)

pub returns-then-first-second : goal.returns-then-first-second
returns-then-first-second c = λ clauses. other-same clauses c.args.number c.args.first c.args.side c.args.second c.args.literal.now c.args.out.now c.if-first-second.true

pub returns : goal.returns
returns c = λ clauses. other-listed clauses c.args.number c.args.first c.args.side c.args.second c.args.literal.now c.args.out.now c.push.new.self c.push-2.new.self c.if-not-literal.false c.if-first-second.false c.in_ok-push.ensures.ok c.in_ok-push-2.ensures.ok
