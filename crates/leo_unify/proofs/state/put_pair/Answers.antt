use Rattle.leo_terms.proofs.CallerLemmas.{extends-trans, tree-kept, trees-kept}
use Rattle.leo_unify.proofs.state.put_pair.Goals as goal

pub put_term-requires-2-clause-given : goal.put_term-requires-2-clause-given
put_term-requires-2-clause-given c = rw (trees-kept c.put_term.ensures.grows c.args.given.now c.requires.terms, tree-kept c.put_term.ensures.grows c.args.pair.right c.requires.right) c.requires.right_given

pub returns-in_err-right-clause-grows : goal.returns-in_err-right-clause-grows
returns-in_err-right-clause-grows c = extends-trans c.put_term.ensures.grows c.put_term-2.ensures.grows

pub returns-clause-put_left : goal.returns-clause-put_left
returns-clause-put_left c = rw (tree-kept c.put_term-2.ensures.grows c.in_ok-left.left c.in_ok-left.ensures.within) c.in_ok-left.ensures.put

pub returns-clause-put_right : goal.returns-clause-put_right
returns-clause-put_right c = rw (trees-kept c.put_term.ensures.grows c.args.given.now c.requires.terms, tree-kept c.put_term.ensures.grows c.args.pair.right c.requires.right) at c.in_ok-right.ensures.put

pub returns-clause-grows : goal.returns-clause-grows
returns-clause-grows c = extends-trans c.put_term.ensures.grows c.put_term-2.ensures.grows
