use Rattle.std.proofs.Common.{◌≡◌, ◌<◌, length}
use Rattle.leo_terms.specs.Contents.{type_at}
use Rattle.leo_unify.specs.Acts.{result_type}
use Rattle.leo_unify.proofs.heads.result_type.Given as goal

abbrev pub invariant-loop-function : goal.invariant-loop-function
invariant-loop-function l = (l.part < length l.bank.types) × (result_type (type_at l.bank l.part) ≡ result_type (type_at l.bank l.fn.ty))

abbrev pub decreases-loop-function : goal.decreases-loop-function
decreases-loop-function l = l.part
