use Rattle.std.proofs.Common.{◌≡◌, map, drop, max}
use Rattle.leo_tstp.specs.Vocabulary.{most_marks}
use Rattle.leo_tstp.proofs.namer.most_marks.Given as goal

abbrev pub invariant-loop-place : goal.invariant-loop-place
invariant-loop-place g l =
    max l.most (most_marks (map (λ p. (p.0.items, p.1)) (drop l.place l.atoms.entries))) ≡ most_marks (map (λ p. (p.0.items, p.1)) l.atoms.entries)
