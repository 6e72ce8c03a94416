use Rattle.std.proofs.Common.{◌≡◌, drop}
use Rattle.leo_elab.specs.Table.{atom_of}
use Rattle.leo_elab.proofs.names.Names.atom_of.Given as goal

abbrev pub invariant-loop-place : goal.invariant-loop-place
invariant-loop-place l = atom_of l.constant (drop l.place l.self.constants) ≡ atom_of l.constant l.self.constants
