use Rattle.std.proofs.Common.{sym}
use Rattle.leo_terms.proofs.CallerLemmas.{extends-itself}
use Rattle.leo_elab.proofs.Places.{constant-within}
use Rattle.leo_elab.proofs.Atoms.{atom-made, atom-unknown, atom-type}
use Rattle.leo_elab.proofs.terms.constant.Goals as goal

pub make_sym-requires : goal.make_sym-requires
make_sym-requires c = constant-within c.args.bank.now c.args.atom.now c.args.names.now.constants c.in-Some.symbol c.requires.place.names.constants (sym c.in-Some.ensures)

pub returns-in_ok-t-in-Some-clause-value : goal.returns-in_ok-t-in-Some-clause-value
returns-in_ok-t-in-Some-clause-value c = λ d s k. atom-made c.make_sym.ensures.grows k c.requires.top (sym c.in-Some.ensures) c.in_ok-t-in-Some.ensures.made

pub returns-in-Some-type_named-clause-refusal : goal.returns-in-Some-type_named-clause-refusal
returns-in-Some-type_named-clause-refusal c = λ n d s k. atom-type k c.requires.top (sym c.in-None.ensures) (sym c.in-Some-type_named.ensures)

pub returns-in-Some-type_named-clause-grows : goal.returns-in-Some-type_named-clause-grows
returns-in-Some-type_named-clause-grows c = extends-itself c.is_sound.ensures.sound

pub returns-in-None-type_named-clause-refusal : goal.returns-in-None-type_named-clause-refusal
returns-in-None-type_named-clause-refusal c = λ n d s k. atom-unknown k c.requires.top (sym c.in-None.ensures) (sym c.in-None-type_named.ensures)

pub returns-in-None-type_named-clause-grows : goal.returns-in-None-type_named-clause-grows
returns-in-None-type_named-clause-grows c = extends-itself c.is_sound.ensures.sound
