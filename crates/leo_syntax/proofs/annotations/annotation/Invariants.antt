use Rattle.std.proofs.Common.{◌≡◌, ◌-◌, ◌≤◌, [], length}
use Rattle.leo_syntax.specs.Source.{ahead, end_of}
use Rattle.leo_syntax.specs.Reading.{annotated}
use Rattle.leo_syntax.proofs.annotations.annotation.Given as goal

abbrev pub invariant-annotations : goal.invariant-annotations
invariant-annotations l = (annotated (end_of l.source) [] (ahead l.source l.fn.at) ≡ annotated (end_of l.source) l.due (ahead l.source l.at)) × (l.fn.at ≤ l.at)

abbrev pub decreases-annotations : goal.decreases-annotations
decreases-annotations l = length l.source.tokens.now - l.at
