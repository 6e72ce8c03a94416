use Rattle.std.proofs.Common.{◌∙◌}
use Rattle.leo_clause.proofs.Renumbered.{place-some, place-none}
use Rattle.leo_clausify.proofs.closing.place_of.Goals as goal

pub returns-in-Some : goal.returns-in-Some
returns-in-Some c = place-some c.args.n c.in-Some.place c.args.order.now.keys c.in-Some.ensures.index

pub returns-in-None : goal.returns-in-None
returns-in-None c = c.len.ensures.len ∙ place-none c.args.n c.args.order.now.keys c.in-None.ensures.index
