use Rattle.std.proofs.Common.{◌≡◌, ◌++◌, map, take}
use Rattle.std.specs.Prelude.{codes}
use Rattle.std.specs.List.{flat_map}
use Rattle.leo_terms.specs.Contents.{tree_at}
use Rattle.leo_tstp.specs.Namings.{words_in}
use Rattle.leo_tstp.specs.StepTexts.{put_text}
use Rattle.leo_tstp.proofs.rules.write_further_puts.Given as goal

abbrev pub invariant-loop-term : goal.invariant-loop-term
invariant-loop-term l = l.out.items ≡ l.fn.out.items ++ flat_map (λ t. codes "," ++ put_text (words_in l.bank l.namer) t) (map (tree_at l.bank) (take l.term-index l.terms))
