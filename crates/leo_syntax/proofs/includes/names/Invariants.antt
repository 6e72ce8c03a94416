use Rattle.std.proofs.Common.{◌-◌, ◌≤◌, length}
use Rattle.leo_syntax.specs.Source.{ahead, end_of}
use Rattle.leo_syntax.proofs.Names.{Going}
use Rattle.leo_syntax.proofs.includes.names.Given as goal

abbrev pub invariant-names : goal.invariant-names
invariant-names l = Going (end_of l.source) (ahead l.source l.fn.at) (ahead l.source l.at) l.found × (l.fn.at ≤ l.at)

abbrev pub decreases-names : goal.decreases-names
decreases-names l = length l.source.tokens.now - l.at
