use Rattle.std.proofs.Common.{◌≡◌, ◌++◌, List, ℕ, map, drop}
use Rattle.leo_tstp.specs.Ahead.{ahead_of, token_word}
use Rattle.leo_tstp.proofs.reading.source.Reader.take_tokens.Given as goal

abbrev pub invariant-loop-token : goal.invariant-loop-token
invariant-loop-token l = record {
  ahead : (rest : List (List ℕ)) → ahead_of l.fn.self ≡ map (token_word l.text) l.tokens ++ rest → ahead_of l.self ≡ map (token_word l.text) (drop l.token-index l.tokens) ++ rest;
  stays : l.self ≡ record l.fn.self { at = l.self.at };
}
