use Rattle.leo_terms.proofs.CallerLemmas.{extends-trans}
use Rattle.leo_kernel.proofs.Growing.{lits-grow}
use Rattle.leo_kernel.proofs.MovedVariables.{moved-given, moved-reads}
use Rattle.leo_para.proofs.moving.moved_lits.Goals as goal

pub with_terms-requires-clause-literals : goal.with_terms-requires-clause-literals
with_terms-requires-clause-literals c = lits-grow c.moved_variables.ensures.grows c.args.lits.now c.requires.literals

pub with_terms-requires-clause-terms : goal.with_terms-requires-clause-terms
with_terms-requires-clause-terms c = rw c.deref.ensures.value c.in_ok-sigma.ensures.terms

pub with_terms-requires-clause-given : goal.with_terms-requires-clause-given
with_terms-requires-clause-given c = rw c.deref.ensures.value (moved-given c.moved_variables.ensures.grows c.args.first c.args.types.now c.in_ok-sigma.sigma.items c.args.lits.now c.in_ok-sigma.ensures.variables c.requires.literals c.requires.declared)

pub returns-in_err-moved-clause-grows : goal.returns-in_err-moved-clause-grows
returns-in_err-moved-clause-grows c = extends-trans c.moved_variables.ensures.grows c.with_terms.ensures.grows

pub returns-clause-value : goal.returns-clause-value
returns-clause-value c = moved-reads c.moved_variables.ensures.grows c.args.first c.args.types.now c.in_ok-sigma.sigma.items c.args.lits.now c.in_ok-sigma.ensures.variables c.requires.literals c.requires.declared _ c.in_ok-moved.moved (rw c.deref.ensures.value at c.in_ok-moved.ensures.renamed)

pub returns-clause-literals_of : goal.returns-clause-literals_of
returns-clause-literals_of c = c.in_ok-moved.ensures.renamed.literals_of

pub returns-clause-grows : goal.returns-clause-grows
returns-clause-grows c = extends-trans c.moved_variables.ensures.grows c.with_terms.ensures.grows
