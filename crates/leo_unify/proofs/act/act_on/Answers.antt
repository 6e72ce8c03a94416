use Rattle.leo_terms.specs.Contents.{tree_at}
use Rattle.leo_terms.proofs.CallerLemmas.{extends-itself}
use Rattle.leo_unify.specs.Acts.{stripped, removed}
use Rattle.leo_unify.proofs.ActSteps.{else-some, else-none, removed-some, removed-none}
use Rattle.leo_unify.proofs.act.act_on.Goals as goal

pub returns-in_err-found-clause-grows : goal.returns-in_err-found-clause-grows
returns-in_err-found-clause-grows c = extends-itself c.is_sound.ensures.sound

pub returns-then-eq-clause-value : goal.returns-then-eq-clause-value
returns-then-eq-clause-value c =
    rw c.new.ensures
    (else-none (stripped (tree_at c.args.bank.now c.args.pair.left) (tree_at c.args.bank.now c.args.pair.right)) _ _ (rw c.in-None.is at c.in_ok-found.ensures.value)
    (else-some (removed (tree_at c.args.bank.now c.args.pair.left) (tree_at c.args.bank.now c.args.pair.right)) _ _ (removed-some c.args.bank.now c.is_sound.ensures.sound c.args.pair.left c.args.pair.right c.requires.left c.requires.right c.eq.result c.eq.ensures c.if-eq.true)))

pub returns-then-eq-clause-grows : goal.returns-then-eq-clause-grows
returns-then-eq-clause-grows c = extends-itself c.is_sound.ensures.sound

pub returns-in-Some-clause-grows : goal.returns-in-Some-clause-grows
returns-in-Some-clause-grows c = extends-itself c.is_sound.ensures.sound

pub returns-in_ok-act-in-None-clause-value : goal.returns-in_ok-act-in-None-clause-value
returns-in_ok-act-in-None-clause-value c =
    else-none (stripped (tree_at c.args.bank.now c.args.pair.left) (tree_at c.args.bank.now c.args.pair.right)) _ _ (rw c.in-None.is at c.in_ok-found.ensures.value)
    (else-none (removed (tree_at c.args.bank.now c.args.pair.left) (tree_at c.args.bank.now c.args.pair.right)) _ _ (removed-none c.args.bank.now c.is_sound.ensures.sound c.args.pair.left c.args.pair.right c.requires.left c.requires.right c.eq.result c.eq.ensures c.if-eq.false) c.in_ok-act-in-None.ensures.value)
