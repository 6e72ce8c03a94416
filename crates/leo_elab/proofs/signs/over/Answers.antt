use Rattle.std.proofs.Common.{arith}
use Rattle.leo_terms.proofs.CallerLemmas.{arrow-parts}
use Rattle.leo_elab.proofs.Standing.{all-made, some-made, choice-made}
use Rattle.leo_elab.proofs.signs.over.Goals as goal

pub make_logic-requires-clause-type_within : goal.make_logic-requires-clause-type_within
make_logic-requires-clause-type_within c = let w = arrow-parts c.is_sound.ensures.sound c.requires.set in let v = w.0 in let u = w.1 in omega arith

pub make_logic-requires-in-Sigma-clause-type_within : goal.make_logic-requires-in-Sigma-clause-type_within
make_logic-requires-in-Sigma-clause-type_within c = let w = arrow-parts c.is_sound.ensures.sound c.requires.set in let v = w.0 in let u = w.1 in omega arith

pub make_logic-requires-in-Choice-clause-type_within : goal.make_logic-requires-in-Choice-clause-type_within
make_logic-requires-in-Choice-clause-type_within c = let w = arrow-parts c.is_sound.ensures.sound c.requires.set in let v = w.0 in let u = w.1 in omega arith

pub returns-in_ok-r-in-Pi-clause-made : goal.returns-in_ok-r-in-Pi-clause-made
returns-in_ok-r-in-Pi-clause-made c = rw c.in-Pi.is (all-made c.args.element c.make_logic.ensures.grows c.in_ok-r-in-Pi.ensures.made)

pub returns-in_ok-r-in-Sigma-clause-made : goal.returns-in_ok-r-in-Sigma-clause-made
returns-in_ok-r-in-Sigma-clause-made c = rw c.in-Sigma.is (some-made c.args.element c.make_logic-in-Sigma.ensures.grows c.in_ok-r-in-Sigma.ensures.made)

pub returns-in_ok-r-in-Choice-clause-made : goal.returns-in_ok-r-in-Choice-clause-made
returns-in_ok-r-in-Choice-clause-made c = rw c.in-Choice.is (choice-made c.make_logic-in-Choice.ensures.grows (let w = arrow-parts c.is_sound.ensures.sound c.requires.set in let v = w.0 in let u = w.1 in omega arith) c.in_ok-r-in-Choice.ensures.made)
