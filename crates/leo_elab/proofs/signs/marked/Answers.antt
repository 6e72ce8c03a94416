use Rattle.leo_terms.proofs.CallerLemmas.{extends-trans}
use Rattle.leo_elab.specs.Signs as sign
use Rattle.leo_syntax.specs.declared.tree.Sign.TheVariants as Sign
use Rattle.leo_elab.proofs.signs.marked.Goals as goal

pub returns-in-Equal-clause-made : goal.returns-in-Equal-clause-made
returns-in-Equal-clause-made c = rw c.in-Equal.is c.in_ok-whole.ensures.made

pub returns-in_err-r-in-NotEqual-clause-grows : goal.returns-in_err-r-in-NotEqual-clause-grows
returns-in_err-r-in-NotEqual-clause-grows c = extends-trans c.equation.ensures.grows c.negated.ensures.grows

pub returns-in_ok-r-in-NotEqual-clause-made : goal.returns-in_ok-r-in-NotEqual-clause-made
returns-in_ok-r-in-NotEqual-clause-made c = rw c.in-NotEqual.is (λ s m n a x y. c.in_ok-r-in-NotEqual.ensures.made s (sign.equated Sign.Equal a m n) (c.in_ok-whole.ensures.made s m n a x y))

pub returns-in_ok-r-in-NotEqual-clause-grows : goal.returns-in_ok-r-in-NotEqual-clause-grows
returns-in_ok-r-in-NotEqual-clause-grows c = extends-trans c.equation.ensures.grows c.negated.ensures.grows
