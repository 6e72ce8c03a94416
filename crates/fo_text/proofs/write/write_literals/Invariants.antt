use Rattle.std.proofs.Common.{◌≡◌, ◌++◌, take}
use Rattle.std.specs.List.{flat_map}
use Rattle.fo_text.specs.Spellings.{literal_text}
use Rattle.fo_text.proofs.write.write_literals.Given as goal

abbrev pub invariant-loop-literal : goal.invariant-loop-literal
invariant-loop-literal l = l.out.items ≡ l.fn.out.items ++ flat_map literal_text (take l.literal-index l.literals)
