use Rattle.std.proofs.Common.{◌≡◌, ◌++◌, length}
use Rattle.std.specs.List.{AllByRecursion, flat_map}
use Rattle.fo_text.specs.Problems.{IsSymbol}
use Rattle.fo_text.specs.Spellings.{symbol_text}
use Rattle.fo_text.specs.Pieces.{HasFewArgs}
use Rattle.fo_text.proofs.symbols.symbols.Given as goal

abbrev pub invariant-loop : goal.invariant-loop
invariant-loop l = (l.input ≡ flat_map symbol_text l.list ++ l.rest) × AllByRecursion (IsSymbol l.sorts) l.list × (length l.list ≡ l.counter) × AllByRecursion HasFewArgs l.list
