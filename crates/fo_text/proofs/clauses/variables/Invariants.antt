use Rattle.std.proofs.Common.{◌≡◌, ◌++◌, ◌∷◌, length}
use Rattle.std.specs.Prelude.{decimal}
use Rattle.fo_text.specs.Words.{numbers_text}
use Rattle.fo_text.specs.Problems.{AreSorts}
use Rattle.fo_text.proofs.clauses.variables.Given as goal

abbrev pub invariant-loop : goal.invariant-loop
invariant-loop l = (l.input ≡ decimal l.count ++ (numbers_text l.vars ++ 32 ∷ l.rest)) × AreSorts l.sorts l.vars × (length l.vars ≡ l.counter)
