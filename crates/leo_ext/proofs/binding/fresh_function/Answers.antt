use Rattle.leo_terms.proofs.CallerLemmas.{extends-trans}
use Rattle.leo_kernel.proofs.Growing.{types-grow}
use Rattle.leo_ext.proofs.BoundMaking.{function-made, variable-function}
use Rattle.leo_ext.proofs.binding.fresh_function.Goals as goal

pub of_indices-requires-clause-types : goal.of_indices-requires-clause-types
of_indices-requires-clause-types c = types-grow c.variable_numbered.ensures.grows c.args.types.now c.requires.types

pub of_indices-requires-clause-function : goal.of_indices-requires-clause-function
of_indices-requires-clause-function c = variable-function c.variable_numbered.ensures.grows c.args.types.now c.requires.types c.args.number c.args.whole c.args.to c.in_ok-variable.variable c.requires.whole c.in_ok-variable.ensures.made

pub returns-in_err-term-clause-grows : goal.returns-in_err-term-clause-grows
returns-in_err-term-clause-grows c = extends-trans c.variable_numbered.ensures.grows c.of_indices.ensures.grows

pub returns-clause-made : goal.returns-clause-made
returns-clause-made c = function-made c.variable_numbered.ensures.grows c.of_indices.ensures.grows c.args.types.now c.requires.types c.args.number c.args.whole c.args.to c.in_ok-variable.variable c.in_ok-term.term c.requires.to c.requires.whole c.in_ok-variable.ensures.made c.in_ok-term.ensures.made

pub returns-clause-grows : goal.returns-clause-grows
returns-clause-grows c = extends-trans c.variable_numbered.ensures.grows c.of_indices.ensures.grows
