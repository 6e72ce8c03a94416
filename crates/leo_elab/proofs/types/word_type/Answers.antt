use Rattle.std.proofs.Common.{◌∙◌, sym, ap, arith}
use Rattle.leo_elab.specs.Meaning as meaning
use Rattle.leo_elab.specs.Meaning.{MeansType, Means, Applies, Binds}
use Rattle.leo_elab.specs.Offences as offence
use Rattle.leo_elab.specs.Offences.{OffendsInType, Offends, OffendsAsFormula, OffendsInArguments, OffendsInBinding}
use Rattle.leo_elab.proofs.Standing.{truth-is, thing-is}
use Rattle.leo_elab.proofs.Places.{type-within}
use Rattle.leo_syntax.specs.declared.tree.TypeNode.TheOpen.{TypeNode-F}
use Rattle.leo_elab.proofs.Atoms.{word-type, word-constant, word-unknown}
use Rattle.leo_elab.proofs.types.word_type.Goals as goal

pub returns-in-Individual-clause-within : goal.returns-in-Individual-clause-within
returns-in-Individual-clause-within c = let two = c.is_sound.ensures.sound.base_types in let z = c.thing.ensures in omega arith

pub returns-in-Individual-clause-value : goal.returns-in-Individual-clause-value
returns-in-Individual-clause-value c = λ d k. rw (c.thing.ensures, thing-is c.is_sound.ensures.sound) (meaning.individuals (c.requires.top ∙ ap TypeNode-F.Base c.in-Individual.is))

pub returns-in-Truth-clause-within : goal.returns-in-Truth-clause-within
returns-in-Truth-clause-within c = let two = c.is_sound.ensures.sound.base_types in let z = c.truth.ensures in omega arith

pub returns-in-Truth-clause-value : goal.returns-in-Truth-clause-value
returns-in-Truth-clause-value c = λ d k. rw (c.truth.ensures, truth-is c.is_sound.ensures.sound) (meaning.truth_values (c.requires.top ∙ ap TypeNode-F.Base c.in-Truth.is))

pub returns-in-TypeOfTypes-clause-refusal : goal.returns-in-TypeOfTypes-clause-refusal
returns-in-TypeOfTypes-clause-refusal c = λ d k. offence.type_of_types (c.requires.top ∙ ap TypeNode-F.Base c.in-TypeOfTypes.is)

pub returns-in-Some-clause-within : goal.returns-in-Some-clause-within
returns-in-Some-clause-within c = type-within c.args.bank.now c.in-Atom.name c.args.names.now.types c.in-Some.known c.requires.names.types (rw c.as_slice.ensures at (sym c.in-Some.ensures))

pub returns-in-Some-clause-value : goal.returns-in-Some-clause-value
returns-in-Some-clause-value c = λ d k. word-type k (c.requires.top ∙ ap TypeNode-F.Base c.in-Atom.is) (rw c.as_slice.ensures at (sym c.in-Some.ensures))

pub returns-in-Some-constant_named-clause-refusal : goal.returns-in-Some-constant_named-clause-refusal
returns-in-Some-constant_named-clause-refusal c = λ d k. word-constant k (c.requires.top ∙ ap TypeNode-F.Base c.in-Atom.is) (rw c.as_slice.ensures at (sym c.in-None.ensures)) (rw c.as_slice-in-None.ensures at (sym c.in-Some-constant_named.ensures))

pub returns-in-None-constant_named-clause-refusal : goal.returns-in-None-constant_named-clause-refusal
returns-in-None-constant_named-clause-refusal c = λ d k. word-unknown k (c.requires.top ∙ ap TypeNode-F.Base c.in-Atom.is) (rw c.as_slice.ensures at (sym c.in-None.ensures)) (rw c.as_slice-in-None.ensures at (sym c.in-None-constant_named.ensures))
