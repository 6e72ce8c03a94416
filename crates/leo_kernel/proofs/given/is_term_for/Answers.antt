use Rattle.leo_kernel.proofs.GivenTerms.{term-other_type, term-fits}
use Rattle.leo_kernel.proofs.given.is_term_for.Goals as goal

pub returns-then-ne-clause-value : goal.returns-then-ne-clause-value
returns-then-ne-clause-value c = term-other_type c.args.bank.now c.type_of-found.ensures.sound _ c.args.ty c.args.t c.requires.ty c.requires.within c.type_of-found.result c.type_of-found.ensures.number c.ne.result c.ne.ensures c.if-ne.true

pub returns-clause-value : goal.returns-clause-value
returns-clause-value c = term-fits c.args.bank.now c.type_of-found.ensures.sound _ c.args.ty c.args.t c.requires.ty c.requires.within c.type_of-found.result c.type_of-found.ensures.number c.ne.result c.ne.ensures c.if-ne.false c.in_ok-over.over c.in_ok-over.ensures.value
