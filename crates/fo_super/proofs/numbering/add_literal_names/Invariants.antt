use Rattle.std.proofs.Common.{◌≡◌, take}
use Rattle.std.specs.List.{fold}
use Rattle.fo_super.specs.Numbering.{clause_variables, with_name}
use Rattle.fo_super.proofs.numbering.add_literal_names.Given as goal

abbrev pub invariant-loop-literal : goal.invariant-loop-literal
invariant-loop-literal l = l.names.items ≡ fold with_name l.fn.names.items (clause_variables (take l.literal-index l.literals))
