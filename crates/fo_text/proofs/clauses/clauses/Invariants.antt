use Rattle.std.proofs.Common.{◌≡◌, ◌++◌, length}
use Rattle.std.specs.List.{AllByRecursion, flat_map}
use Rattle.fo_text.specs.Problems.{IsClause}
use Rattle.fo_text.specs.Spellings.{clause_text}
use Rattle.fo_text.proofs.clauses.clauses.Given as goal

abbrev pub invariant-loop : goal.invariant-loop
invariant-loop l = (l.input ≡ flat_map clause_text l.list ++ l.rest) × AllByRecursion (IsClause l.sorts l.syms) l.list × (length l.list ≡ l.counter)
