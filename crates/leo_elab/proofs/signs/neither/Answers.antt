use Rattle.leo_terms.proofs.CallerLemmas.{extends-trans}
use Rattle.leo_elab.specs.Places.{both}
use Rattle.leo_elab.proofs.signs.neither.Goals as goal

pub returns-in_err-r-clause-grows : goal.returns-in_err-r-clause-grows
returns-in_err-r-clause-grows c = extends-trans c.both.ensures.grows c.negated.ensures.grows

pub returns-clause-made : goal.returns-clause-made
returns-clause-made c = λ s m n x y. c.in_ok-r.ensures.made s (both c.args.op m n) (c.in_ok-whole.ensures.made s m n x y)

pub returns-clause-grows : goal.returns-clause-grows
returns-clause-grows c = extends-trans c.both.ensures.grows c.negated.ensures.grows
