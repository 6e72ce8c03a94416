use Rattle.std.proofs.Common.{◌≤◌, length, arith}
use Rattle.leo_terms.specs.Contents.{tree_at}
use Rattle.leo_terms.proofs.CallerLemmas.{extends-trans, tree-kept}
use Rattle.leo_unify.specs.Acts.{takes_few}
use Rattle.leo_unify.proofs.Growing.{types-kept}
use Rattle.leo_unify.proofs.BodySteps.{frame-grows}
use Rattle.leo_unify.proofs.GuessSteps.{head-kept, few-yes, one-listed}
use Rattle.leo_unify.proofs.guesses.if_few.Goals as goal

pub with_head-requires-clause-frame : goal.with_head-requires-clause-frame
with_head-requires-clause-frame c = frame-grows c.taken_by.ensures.grows c.args.frame.now c.requires.frame

pub with_head-requires-clause-head : goal.with_head-requires-clause-head
with_head-requires-clause-head c = head-kept c.taken_by.ensures.grows c.args.frame.now c.args.h c.requires.within c.requires.head

pub with_head-requires-clause-taken : goal.with_head-requires-clause-taken
with_head-requires-clause-taken c = rw (c.as_slice.ensures, tree-kept c.taken_by.ensures.grows c.args.h c.requires.within) c.in_ok-taken.ensures.value

pub with_head-requires-clause-indexed : goal.with_head-requires-clause-indexed
with_head-requires-clause-indexed c = rw (types-kept c.taken_by.ensures.grows c.args.frame.now.outer c.requires.frame.types_of, tree-kept c.taken_by.ensures.grows c.args.h c.requires.within) c.requires.indexed

pub returns-in_err-binding-clause-grows : goal.returns-in_err-binding-clause-grows
returns-in_err-binding-clause-grows c = extends-trans c.taken_by.ensures.grows c.with_head.ensures.grows

pub returns-clause-value : goal.returns-clause-value
returns-clause-value c =
    let e = c.taken_by.ensures.grows in
    let l = c.if-len-gt-FEW.false in
    let n = c.len.ensures in
    let m : length c.in_ok-taken.taken ≤ 8 = omega arith in
    one-listed (takes_few (tree_at c.args.bank.now c.args.h)) _ _ (few-yes c.taken_by.new.bank c.in_ok-taken.taken (tree_at c.args.bank.now c.args.h) c.in_ok-taken.ensures.value m) (rw (types-kept e c.args.frame.now.outer c.requires.frame.types_of, tree-kept e c.args.h c.requires.within) at c.in_ok-binding.ensures.value)

pub returns-clause-grows : goal.returns-clause-grows
returns-clause-grows c = extends-trans c.taken_by.ensures.grows c.with_head.ensures.grows
