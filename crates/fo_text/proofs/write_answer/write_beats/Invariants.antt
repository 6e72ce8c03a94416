use Rattle.std.proofs.Common.{◌≡◌, ◌++◌}
use Rattle.fo_text.specs.AnswerSpellings.{beats_text}
use Rattle.fo_text.proofs.write_answer.write_beats.Given as goal

abbrev pub invariant-loop : goal.invariant-loop
invariant-loop l = l.out.items ≡ l.fn.out.items ++ beats_text l.counter
