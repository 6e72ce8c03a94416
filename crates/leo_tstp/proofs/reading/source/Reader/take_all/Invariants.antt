use Rattle.std.proofs.Common.{◌≡◌, ◌++◌, List, ℕ, map, drop}
use Rattle.leo_tstp.specs.Ahead.{ahead_of}
use Rattle.leo_tstp.proofs.reading.source.Reader.take_all.Given as goal

abbrev pub invariant-loop-text : goal.invariant-loop-text
invariant-loop-text l = record {
  ahead : (rest : List (List ℕ)) → ahead_of l.fn.self ≡ map (λ t. t.now) l.texts ++ rest → ahead_of l.self ≡ map (λ t. t.now) (drop l.text-index l.texts) ++ rest;
  stays : l.self ≡ record l.fn.self { at = l.self.at };
}
