use Rattle.fo_super.proofs.Sifted.{listed-both, listed-end, listed-nothing}
use Rattle.fo_super.proofs.candidates.list_factors_of.Goals as goal

pub returns-then-not-literal : goal.returns-then-not-literal
returns-then-not-literal c = λ clauses. rw c.if-not-literal.true (listed-nothing clauses c.args.out.now)

pub returns : goal.returns
returns c = λ clauses. rw c.if-not-literal.false (listed-end clauses _ c.args.out.now c.list_others-2.new.out (listed-both clauses _ _ c.args.out.now c.list_others.new.out c.list_others-2.new.out (c.in_ok-list_others.ensures clauses) (c.in_ok-list_others-2.ensures clauses)))
