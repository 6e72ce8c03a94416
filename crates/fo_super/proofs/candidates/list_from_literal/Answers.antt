use Rattle.fo_super.proofs.Sifted.{listed-both, listed-end, listed-nothing}
use Rattle.fo_super.proofs.candidates.list_from_literal.Goals as goal

pub returns-then-not-literal : goal.returns-then-not-literal
returns-then-not-literal c = λ clauses at e. rw c.if-not-literal.true (listed-nothing clauses c.args.out.now)

pub returns : goal.returns
returns c = λ clauses at e. rw c.if-not-literal.false (listed-end clauses _ c.args.out.now c.list_from_side-2.new.out (listed-both clauses _ _ c.args.out.now c.list_from_side.new.out c.list_from_side-2.new.out (c.in_ok-list_from_side.ensures clauses at e) (c.in_ok-list_from_side-2.ensures clauses at e)))
