use Rattle.leo_terms.proofs.CallerLemmas.{extends-trans, tree-kept}
use Rattle.leo_unify.proofs.ActSteps.{pair-flipped, sides-second, sides-stuck, sides-heads}
use Rattle.leo_unify.proofs.Growing.{types-kept}
use Rattle.leo_unify.proofs.act.act_on_sides.Goals as goal

pub solved-requires-in-None-clause-typed : goal.solved-requires-in-None-clause-typed
solved-requires-in-None-clause-typed c =
    let e = c.solved.ensures.grows in
    rw (types-kept e c.args.vars.now c.requires.vars, tree-kept e c.args.pair.left c.requires.left, tree-kept e c.args.pair.right c.requires.right) (pair-flipped _ _ _ c.requires.typed)

pub returns-in_err-second-in-None-clause-grows : goal.returns-in_err-second-in-None-clause-grows
returns-in_err-second-in-None-clause-grows c = extends-trans c.solved.ensures.grows c.solved-in-None.ensures.grows

pub returns-then-is_stuck-clause-value : goal.returns-then-is_stuck-clause-value
returns-then-is_stuck-clause-value c = sides-stuck c.solved.ensures.grows c.solved-in-None.ensures.grows _ c.args.depth c.args.pair.left c.args.pair.right c.requires.left c.requires.right (rw c.in-None.is at c.in_ok-first.ensures.value) (rw c.in-None-second.is at c.in_ok-second-in-None.ensures.value) c.is_stuck.result c.is_stuck.ensures c.if-is_stuck.true

pub returns-then-is_stuck-clause-grows : goal.returns-then-is_stuck-clause-grows
returns-then-is_stuck-clause-grows c = extends-trans c.solved.ensures.grows c.solved-in-None.ensures.grows

pub returns-in_err-act-in-None-second-clause-grows : goal.returns-in_err-act-in-None-second-clause-grows
returns-in_err-act-in-None-second-clause-grows c = extends-trans (extends-trans c.solved.ensures.grows c.solved-in-None.ensures.grows) c.act_on_heads.ensures.grows

pub returns-in-Some-second-clause-value : goal.returns-in-Some-second-clause-value
returns-in-Some-second-clause-value c = sides-second c.solved.ensures.grows c.solved-in-None.ensures.grows _ c.args.depth c.args.pair.left c.args.pair.right c.requires.left c.requires.right (rw c.in-None.is at c.in_ok-first.ensures.value) _ (rw c.in-Some-second.is at c.in_ok-second-in-None.ensures.value)

pub returns-in-Some-second-clause-grows : goal.returns-in-Some-second-clause-grows
returns-in-Some-second-clause-grows c = extends-trans c.solved.ensures.grows c.solved-in-None.ensures.grows

pub returns-in_ok-act-in-None-second-clause-value : goal.returns-in_ok-act-in-None-second-clause-value
returns-in_ok-act-in-None-second-clause-value c = sides-heads c.solved.ensures.grows c.solved-in-None.ensures.grows _ c.args.depth c.args.pair.left c.args.pair.right c.requires.left c.requires.right (rw c.in-None.is at c.in_ok-first.ensures.value) (rw c.in-None-second.is at c.in_ok-second-in-None.ensures.value) c.is_stuck.result c.is_stuck.ensures c.if-is_stuck.false _ c.in_ok-act-in-None-second.ensures.value

pub returns-in_ok-act-in-None-second-clause-grows : goal.returns-in_ok-act-in-None-second-clause-grows
returns-in_ok-act-in-None-second-clause-grows c = extends-trans (extends-trans c.solved.ensures.grows c.solved-in-None.ensures.grows) c.act_on_heads.ensures.grows
