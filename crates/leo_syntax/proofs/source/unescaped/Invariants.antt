use Rattle.std.proofs.Common.{◌≡◌, ◌++◌, drop, false}
use Rattle.leo_syntax.specs.Lexemes.{unescaped}
use Rattle.leo_syntax.proofs.source.unescaped.Given as goal

abbrev pub invariant-loop-byte : goal.invariant-loop-byte
invariant-loop-byte l = l.found.items ++ unescaped l.escaping (drop l.byte-index l.text) ≡ unescaped false l.text
