use Rattle.std.proofs.Common.{◌≡◌, ◌++◌, map, drop}
use Rattle.std.specs.List.{concat}
use Rattle.leo_problem.proofs.generating.add_parts.Given as goal

abbrev pub invariant-loop-part : goal.invariant-loop-part
invariant-loop-part l =
    l.text.items ++ concat (map (λ part. part.now) (drop l.part-index l.parts)) ≡ l.initial.text.items ++ concat (map (λ part. part.now) l.parts)
