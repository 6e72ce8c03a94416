use Rattle.std.proofs.Common.{◌≡◌, suc, ◌+◌, ℕ, List, ◌++◌, [], arith, append_assoc}
use Rattle.leo_problem.specs.Generating.{generated_text, typings, implications, axiom_line, conjecture_line}
use Rattle.leo_problem.proofs.generating.generate.Goals as goal

whole : (count next : ℕ) (none first second third fourth : List ℕ) → none ≡ [] → next ≡ suc count → first ≡ none ++ typings next → second ≡ first ++ axiom_line → third ≡ second ++ implications count
    → fourth ≡ third ++ conjecture_line count → fourth ≡ generated_text count
unfolding generated_text
whole count next none first second third fourth a b c d e f = rw (f, e, d, c, b, a) (grind (arith, append_assoc))

pub returns : goal.returns
returns c =
    whole c.args.count (c.args.count + 1) c.new-text.result.items c.add_typings.new.text.items c.add_axiom.new.text.items c.add_implications.new.text.items c.add_conjecture.new.text.items
    c.new-text.ensures.items (omega arith) c.in_ok-add_typings.ensures c.in_ok-add_axiom.ensures c.in_ok-add_implications.ensures c.in_ok-add_conjecture.ensures
