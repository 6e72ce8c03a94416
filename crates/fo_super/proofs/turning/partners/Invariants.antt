use Rattle.std.proofs.Common.{◌≡◌, ◌++◌, ◌-◌}
use Rattle.fo_super.specs.Passives.{others_from, IsRisingFrom}
use Rattle.fo_super.proofs.turning.partners.Given as goal

abbrev pub invariant-loop-number : goal.invariant-loop-number
invariant-loop-number l = (l.list ++ others_from l.number (l.count - l.number) l.rest ≡ others_from 0 l.count l.passive) × IsRisingFrom l.number l.rest
