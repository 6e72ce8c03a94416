use Rattle.std.proofs.Common.{ap, refl}
use Rattle.leo_terms.specs.Contents.{Contents}
use Rattle.leo_terms.proofs.CallerLemmas.{extends-trans}
use Rattle.leo_elab.specs.Table.{declared_in}
use Rattle.leo_elab.proofs.Entries.{no-constant, names-constant, declares-constant, constants-named}
use Rattle.leo_elab.proofs.typings.declare_constant.Goals as goal

pub symbol-requires-clause-new : goal.symbol-requires-clause-new
symbol-requires-clause-new c = λ s x h g. c.requires.constants.named_constant s x c.args.atom.now (rw (← ap (λ (w : Contents). w.symbols) c.read_type.ensures.rest) h) g (no-constant c.args.bank.now c.args.names.now c.args.atom.now c.requires.undeclared.no_constant)

pub add_constant-requires : goal.add_constant-requires
add_constant-requires c = no-constant c.args.bank.now c.args.names.now c.args.atom.now c.requires.undeclared.no_constant

pub returns-in_err-add_constant-clause-grows : goal.returns-in_err-add_constant-clause-grows
returns-in_err-add_constant-clause-grows c = extends-trans c.read_type.ensures.grows c.symbol.ensures.grows

pub returns-clause-names : goal.returns-clause-names
returns-clause-names c = names-constant c.args.atom.now c.in_ok-symbol.symbol (extends-trans c.read_type.ensures.grows c.symbol.ensures.grows) c.requires.names c.in_ok-symbol.ensures.within c.in_ok-add_constant.ensures

pub returns-clause-constants : goal.returns-clause-constants
returns-clause-constants c = constants-named c.requires.constants (ap (λ (w : Contents). w.symbols) c.read_type.ensures.rest) c.in_ok-symbol.ensures.made c.in_ok-add_constant.ensures

pub returns-clause-declares : goal.returns-clause-declares
returns-clause-declares c = declares-constant (extends-trans c.read_type.ensures.grows c.symbol.ensures.grows) c.symbol.ensures.grows c.requires.names (ap (λ (w : Contents). w.symbols) c.read_type.ensures.rest) c.in_ok-symbol.ensures.made c.in_ok-symbol.ensures.typed c.in_ok-number.ensures.within c.in_ok-add_constant.ensures c.requires.undeclared (c.in_ok-number.ensures.value (declared_in c.args.bank.now c.args.names.now) (record { names = c.requires.names; declared_is = refl }))

pub returns-clause-grows : goal.returns-clause-grows
returns-clause-grows c = extends-trans c.read_type.ensures.grows c.symbol.ensures.grows
