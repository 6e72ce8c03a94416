use Rattle.leo_elab.proofs.Entries.{no-type, names-type, declares-type}
use Rattle.leo_elab.proofs.typings.declare_type.Goals as goal

pub add_type-requires : goal.add_type-requires
add_type-requires c = no-type c.args.bank.now c.args.names.now c.args.atom.now c.requires.undeclared.no_type

pub returns-clause-names : goal.returns-clause-names
returns-clause-names c = names-type c.args.atom.now c.in_ok-number.number c.base.ensures.grows c.requires.names c.in_ok-number.ensures.within c.in_ok-add_type.ensures

pub returns-clause-declares : goal.returns-clause-declares
returns-clause-declares c = declares-type c.base.ensures.grows c.requires.names c.in_ok-number.ensures.made c.in_ok-add_type.ensures c.requires.undeclared c.requires.whole
