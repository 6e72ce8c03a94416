use Rattle.std.proofs.Common.{arith}
use Rattle.fo_terms.proofs.AtPlaces.{some_at}
use Rattle.fo_kbo.proofs.difference.end_of.Goals as goal

pub pass-requires-clause-enough : goal.pass-requires-clause-enough
pass-requires-clause-enough c = some_at c.args.nodes.now c.args.at c.requires.inside

pub returns : goal.returns
returns c = record { later = c.pass.ensures.later (omega arith); inside = c.pass.ensures.inside; reads = c.pass.ensures.reads }
