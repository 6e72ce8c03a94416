use Rattle.leo_terms.proofs.CallerLemmas.{extends-trans}
use Rattle.leo_clausify.proofs.Reduced.{order-grow}
use Rattle.ext_rows.proofs.asking.ask.Goals as goal

pub unary-requires-clause-in_order : goal.unary-requires-clause-in_order
unary-requires-clause-in_order c = order-grow c.clause_of.ensures.grows _ c.requires.in_order

pub returns-in_err-read-clause-in_order : goal.returns-in_err-read-clause-in_order
returns-in_err-read-clause-in_order c = order-grow c.clause_of.ensures.grows _ c.requires.in_order

pub returns-in_default-clause-in_order : goal.returns-in_default-clause-in_order
returns-in_default-clause-in_order c = order-grow c.clause_of.ensures.grows _ c.requires.in_order

pub returns-then-not-is_typed-clause-in_order : goal.returns-then-not-is_typed-clause-in_order
returns-then-not-is_typed-clause-in_order c = order-grow c.clause_of.ensures.grows _ c.requires.in_order

pub returns-in_err-dues-clause-grows : goal.returns-in_err-dues-clause-grows
returns-in_err-dues-clause-grows c = extends-trans c.clause_of.ensures.grows c.unary.ensures.grows

pub returns-clause-grows : goal.returns-clause-grows
returns-clause-grows c = extends-trans c.clause_of.ensures.grows c.unary.ensures.grows
