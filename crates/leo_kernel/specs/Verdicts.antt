-- The answer to a step: accepted, or refused for the first condition that does not hold.
use Rattle.std.specs.Prelude.{List, Result, Ok, Err}
use Rattle.leo_terms.specs.Tree.{Tree}
use Rattle.leo_kernel.specs.declared.reason.StepRefusal.{StepRefusal}
use Rattle.leo_kernel.specs.declared.reason.StepRefusal.TheVariants.{Refused, Memory}
use Rattle.leo_kernel.specs.Steps.{Line}
use Rattle.leo_kernel.specs.Acceptance.{Accepts, IsRefusedFor}

-- memory may run out at any step; each other answer is the right one
abbrev pub IsVerdict : List Tree → List Line → Line → Result Unit StepRefusal → Type 0
IsVerdict hypotheses lines step (Ok u) = Accepts hypotheses lines step
IsVerdict hypotheses lines step (Err (Refused reason)) = IsRefusedFor hypotheses lines step reason
IsVerdict hypotheses lines step (Err Memory) = Unit {0}
