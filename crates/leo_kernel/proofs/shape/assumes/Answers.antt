use Rattle.std.proofs.Common.{arith}
use Rattle.leo_terms.specs.Contents.{tree_at}
use Rattle.leo_kernel.proofs.Lists.{get-mapped, length-map}
use Rattle.leo_kernel.proofs.ShapeRules.{hypothesis-within}
use Rattle.leo_kernel.proofs.shape.assumes.Goals as goal

pub is_assumed-requires-clause-hypothesis : goal.is_assumed-requires-clause-hypothesis
is_assumed-requires-clause-hypothesis c = let m = length-map (tree_at c.args.bank.now) c.args.hyps.now in let h = c.requires.hypothesis in hypothesis-within c.args.bank.now c.args.hyps.now c.requires.hypotheses c.args.hyp c.index-hyps-hyp.result (omega arith) c.index-hyps-hyp.is

pub returns : goal.returns
returns c = let m = length-map (tree_at c.args.bank.now) c.args.hyps.now in let h = c.requires.hypothesis in rw (get-mapped (tree_at c.args.bank.now) c.args.hyps.now c.args.hyp c.index-hyps-hyp.result (omega arith) c.index-hyps-hyp.is) c.is_assumed.ensures
