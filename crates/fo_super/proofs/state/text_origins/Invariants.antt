use Rattle.std.proofs.Common.{◌≡◌, map, take}
use Rattle.fo_super.specs.Runs.{origin_of}
use Rattle.fo_super.specs.Turns.{given}
use Rattle.fo_super.proofs.state.text_origins.Given as goal

abbrev pub invariant-loop : goal.invariant-loop
invariant-loop l = map origin_of l.origins ≡ map (λ c. given) (take l.index l.clauses)
