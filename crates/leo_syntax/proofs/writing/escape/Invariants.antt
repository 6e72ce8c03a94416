use Rattle.std.proofs.Common.{◌≡◌, ◌++◌, drop}
use Rattle.leo_syntax.specs.Texts.{escaped}
use Rattle.leo_syntax.proofs.writing.escape.Given as goal

abbrev pub invariant-loop-byte : goal.invariant-loop-byte
invariant-loop-byte l = l.out.items ++ escaped (drop l.byte-index l.content) ≡ l.fn.out.items ++ escaped l.content
