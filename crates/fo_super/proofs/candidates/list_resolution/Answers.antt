use Rattle.fo_super.specs.declared.member.FoMember.TheVariants.{Resolve}
use Rattle.fo_super.proofs.Sifted.{listed-nothing, listed-one}
use Rattle.fo_super.proofs.candidates.list_resolution.Goals as goal

pub returns-then-literal : goal.returns-then-literal
returns-then-literal c = λ clauses. rw c.if-literal.true (listed-nothing clauses c.args.out.now)

pub returns : goal.returns
returns c = λ clauses. rw c.if-literal.false (listed-one clauses (Resolve c.args.number c.args.place) c.args.out.now c.push.new.self c.in_ok-push.ensures.ok)
