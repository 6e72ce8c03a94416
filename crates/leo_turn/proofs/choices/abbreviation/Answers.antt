use Rattle.leo_turn.proofs.Introducing.{line-made}
use Rattle.leo_turn.proofs.choices.abbreviation.Goals as goal

pub returns-clause-line : goal.returns-clause-line
returns-clause-line c = rw (c.in_ok-push.ensures.ok, c.new-lits.ensures, c.new.ensures) (line-made c.make_sym.ensures.grows c.args.symbol c.args.term c.in_ok-left.left c.requires c.in_ok-left.ensures.made).0

pub returns-clause-step : goal.returns-clause-step
returns-clause-step c = rw (c.in_ok-push.ensures.ok, c.new-lits.ensures, c.new.ensures) (line-made c.make_sym.ensures.grows c.args.symbol c.args.term c.in_ok-left.left c.requires c.in_ok-left.ensures.made).1
