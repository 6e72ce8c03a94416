use Rattle.std.proofs.Common.{◌≡◌, ◌++◌, length}
use Rattle.std.specs.Prelude.{decimal}
use Rattle.std.specs.List.{AllByRecursion, flat_map}
use Rattle.fo_text.specs.Problems.{IsLiteral}
use Rattle.fo_text.specs.Spellings.{literal_text}
use Rattle.fo_text.specs.Pieces.{StandsFirst}
use Rattle.fo_text.specs.Clauses.{behind_lits}
use Rattle.fo_text.proofs.clauses.literals.Given as goal

abbrev pub invariant-loop-read : goal.invariant-loop-read
invariant-loop-read l = (l.input ≡ decimal l.count ++ (flat_map literal_text l.lits ++ l.rest)) × AllByRecursion (IsLiteral l.names.vars.now l.names.syms.now) l.lits × (length l.lits ≡ l.read) × StandsFirst (behind_lits l.read l.count) l.rest
