use Rattle.std.proofs.Common.{◌≡◌, map, take}
use Rattle.leo_command.proofs.parsing.word_list.Given as goal

abbrev pub invariant-loop-number : goal.invariant-loop-number
invariant-loop-number l = map (λ w. w.now) l.list.items ≡ take l.number l.words
