use Rattle.std.proofs.Common.{◌≡◌, ℕ}
use Rattle.leo_clause.specs.Trees.{ClauseTree, clause_at}
use Rattle.leo_keep.specs.declared.fronts.Front.{Front}
use Rattle.leo_keep.proofs.Lowering.{front-fails, group-fails, group-numbers, other-group, other-heads}
use Rattle.leo_keep.proofs.Numbers.{refuted}
use Rattle.leo_keep.proofs.searching.least_copy_in.Goals as goal

pub returns-then-not-has_heads : goal.returns-then-not-has_heads
returns-then-not-has_heads c =
    group-fails _ _ c.args.fronts.now c.args.group.now c.args.before
    (λ (n : ℕ) (f : Front) s d. front-fails c.args.bank.now c.args.kept.now (λ (k : ClauseTree). k ≡ clause_at c.args.bank.now c.args.c.now) c.args.fronts.now c.requires.fronts n f s
    (other-heads c.args.bank.now c.args.c.now c.args.front.now c.requires.front c.is_sound.ensures.sound f
    (other-group f.heads c.args.group.now.heads c.args.front.now.heads d (refuted c.has_heads.result c.has_heads.ensures c.if-not-has_heads.true))))

pub returns : goal.returns
returns c = group-numbers _ _ c.args.fronts.now c.args.group.now c.args.before c.least_copy.result (rw c.as_slice.ensures.value at c.least_copy.ensures)
