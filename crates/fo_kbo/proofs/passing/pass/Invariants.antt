use Rattle.std.proofs.Common.{◌-◌, length}
use Rattle.fo_kbo.proofs.Scanning.{IsScanned}
use Rattle.fo_kbo.proofs.passing.pass.Given as goal

abbrev pub invariant-loop-missing : goal.invariant-loop-missing
invariant-loop-missing l = IsScanned l.nodes l.at l.terms l.here l.missing

abbrev pub decreases-loop-missing : goal.decreases-loop-missing
decreases-loop-missing l = length l.nodes - l.here
