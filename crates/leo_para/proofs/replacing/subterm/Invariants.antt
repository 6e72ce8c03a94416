use Rattle.std.proofs.Common.{◌≡◌, ◌<◌, length, drop}
use Rattle.leo_terms.specs.Contents.{tree_at}
use Rattle.leo_kernel.specs.Places.{subterm}
use Rattle.leo_para.proofs.replacing.subterm.Given as goal

abbrev pub invariant-loop-number : goal.invariant-loop-number
invariant-loop-number l = (l.at < length l.bank.terms) × (subterm l.path (tree_at l.bank l.fn.t) ≡ subterm (drop l.number-index l.path) (tree_at l.bank l.at))
