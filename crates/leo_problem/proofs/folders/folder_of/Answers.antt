use Rattle.std.proofs.Common.{sym, ◌∙◌, arith, ◌≡◌}
use Rattle.leo_problem.proofs.Pieces.{folder-there, folder-before}
use Rattle.leo_problem.proofs.folders.folder_of.Goals as goal
use Rattle.leo_problem.proofs.folders.folder_of.Goals.{then-loop-len-test+else-name-len-ne47, else-loop-len-test}

pub loop-len-preserved : goal.loop-len-preserved
loop-len-preserved c = let t = c.if-name-len-ne47.true in record {
  within = omega arith;
  same = sym (folder-before c.args.name.now c.loop-len.len (omega arith) c.loop-len.invariant.within t) ∙ c.loop-len.invariant.same;
}

pub returns : goal.returns
returns c = elim c.loop-len-test.branch [
  | then-loop-len-test+else-name-len-ne47 w ↦ sym (folder-there c.args.name.now c.loop-len.len (omega arith) c.loop-len.invariant.within w.if-name-len-ne47.false) ∙ c.loop-len.invariant.same
  | else-loop-len-test w ↦ (let e : c.loop-len.len ≡ 0 = omega arith in rw e (rw e at c.loop-len.invariant.same))
]
