use Rattle.std.proofs.Common.{◌∙◌}
use Rattle.fo_terms.specs.Prefix.{term_of}
use Rattle.fo_kbo.proofs.Comparing.{level-start, level-narrowed, level-first, level-second, level-next, IsPrefix-is, term_of-is}
use Rattle.fo_kbo.proofs.descent.compare_different.Goals as goal

pub loop-found-init : goal.loop-found-init
loop-found-init c = (c.requires.first, c.requires.second, level-start (term_of c.args.first.now) (term_of c.args.second.now) c.requires.different)

pub returns-in-First : goal.returns-in-First
returns-in-First c =
    rw c.decided.ensures (level-first (term_of c.args.first.now) (term_of c.args.second.now) (term_of c.loop-found.left.now) (term_of c.loop-found.right.now) c.may_still_be-may_be_greater.result c.may_still_be-may_be_less.result
    c.requires.different (level-narrowed (term_of c.args.first.now) (term_of c.args.second.now) (term_of c.loop-found.left.now) (term_of c.loop-found.right.now) c.loop-found.may_be_greater c.loop-found.may_be_less c.may_still_be-may_be_greater.result c.may_still_be-may_be_less.result
    c.loop-found.invariant.2 c.may_still_be-may_be_greater.ensures c.may_still_be-may_be_less.ensures) c.in-First.ensures (λ t. (c.may_still_be-may_be_greater.ensures.0 t).1))

pub returns-in-Second : goal.returns-in-Second
returns-in-Second c =
    rw c.decided-in-Second.ensures (level-second (term_of c.args.first.now) (term_of c.args.second.now) (term_of c.loop-found.left.now) (term_of c.loop-found.right.now) c.may_still_be-may_be_greater.result c.may_still_be-may_be_less.result
    c.requires.different (level-narrowed (term_of c.args.first.now) (term_of c.args.second.now) (term_of c.loop-found.left.now) (term_of c.loop-found.right.now) c.loop-found.may_be_greater c.loop-found.may_be_less c.may_still_be-may_be_greater.result c.may_still_be-may_be_less.result
    c.loop-found.invariant.2 c.may_still_be-may_be_greater.ensures c.may_still_be-may_be_less.ensures) c.in-Second.ensures (λ t. (c.may_still_be-may_be_less.ensures.0 t).1))

pub loop-found-preserved : goal.loop-found-preserved
loop-found-preserved c =
    let left = c.part-left.ensures ∙ c.first_difference-found.ensures.left_is in
    let right = c.part-right.ensures ∙ c.first_difference-found.ensures.right_is in
    let found = c.first_difference-found.ensures in (
      IsPrefix-is c.part-left.result.now found.left left,
      IsPrefix-is c.part-right.result.now found.right right,
      rw (term_of-is c.part-left.result.now found.left left, term_of-is c.part-right.result.now found.right right)
          (level-next (term_of c.args.first.now) (term_of c.args.second.now) c.loop-found.left.now c.loop-found.right.now c.first_difference-found.result c.may_still_be-may_be_greater.result c.may_still_be-may_be_less.result
          (level-narrowed (term_of c.args.first.now) (term_of c.args.second.now) (term_of c.loop-found.left.now) (term_of c.loop-found.right.now) c.loop-found.may_be_greater c.loop-found.may_be_less c.may_still_be-may_be_greater.result c.may_still_be-may_be_less.result
          c.loop-found.invariant.2 c.may_still_be-may_be_greater.ensures c.may_still_be-may_be_less.ensures)
          (λ t. (c.may_still_be-may_be_greater.ensures.0 t).1) (λ t. (c.may_still_be-may_be_less.ensures.0 t).1) found),
    )
