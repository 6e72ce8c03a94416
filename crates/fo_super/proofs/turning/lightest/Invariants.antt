use Rattle.std.proofs.Common.{List, ◌≡◌, ◌<◌, map}
use Rattle.fo_text.specs.declared.problem.FoClause.{FoClause}
use Rattle.fo_replay.specs.Replays.{clause_weight}
use Rattle.fo_super.proofs.Choosing.{IsLightest}
use Rattle.fo_super.proofs.turning.lightest.Given as goal

abbrev pub invariant-loop-place : goal.invariant-loop-place
invariant-loop-place l = (l.best.place < l.place) × ((clauses : List FoClause) → l.weights ≡ map clause_weight clauses → IsLightest clauses l.passive l.best.place l.place l.best.weight)
