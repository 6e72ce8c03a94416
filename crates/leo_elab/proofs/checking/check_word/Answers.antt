use Rattle.std.proofs.Common.{ap, sym, ◌∙◌}
use Rattle.leo_syntax.specs.declared.tree.TypeNode.TheOpen.{TypeNode-F}
use Rattle.leo_elab.specs.Meaning as meaning
use Rattle.leo_elab.specs.Offences as offence
use Rattle.leo_elab.proofs.FirstTypings.{no-type, a-type, no-type-constant, no-constant, a-constant}
use Rattle.leo_elab.proofs.checking.check_word.Goals as goal

pub returns-in-TypeOfTypes-clause-refusal : goal.returns-in-TypeOfTypes-clause-refusal
returns-in-TypeOfTypes-clause-refusal c = λ d s. offence.type_of_types (c.requires.top ∙ ap TypeNode-F.Base c.in-TypeOfTypes.is)

pub returns-then-declares_type-clause-fine : goal.returns-then-declares_type-clause-fine
returns-then-declares_type-clause-fine c = λ d s.
    let f = rw c.as_slice.ensures at (sym c.in-Some.ensures) in
    let r = a-type s c.in-Atom.name c.in-Some.first.now f (sym c.declares_type.ensures.value ∙ c.if-declares_type.true) in
    record { type = r.0; means = meaning.declared_type (c.requires.top ∙ ap TypeNode-F.Base c.in-Atom.is) r.1 }

pub returns-else-declares_type-clause-refusal : goal.returns-else-declares_type-clause-refusal
returns-else-declares_type-clause-refusal c = λ d s.
    let f = rw c.as_slice.ensures at (sym c.in-Some.ensures) in
    let no = sym c.declares_type.ensures.value ∙ c.if-declares_type.false in
    let r = a-constant s c.in-Atom.name c.in-Some.first.now f no in
    offence.constant_as_type (c.requires.top ∙ ap TypeNode-F.Base c.in-Atom.is) (no-type-constant s c.in-Atom.name c.in-Some.first.now c.requires.once f no) r.1

pub returns-in-None-clause-refusal : goal.returns-in-None-clause-refusal
returns-in-None-clause-refusal c = λ d s.
    let f = rw c.as_slice.ensures at (sym c.in-None.ensures) in
    offence.unknown_type (c.requires.top ∙ ap TypeNode-F.Base c.in-Atom.is) (no-type s c.in-Atom.name f) (no-constant s c.in-Atom.name f)

pub returns-in-Individual-clause-fine : goal.returns-in-Individual-clause-fine
returns-in-Individual-clause-fine c = λ d s. record { type = _; means = meaning.individuals (c.requires.top ∙ ap TypeNode-F.Base c.in-Individual.is) }

pub returns-in-Truth-clause-fine : goal.returns-in-Truth-clause-fine
returns-in-Truth-clause-fine c = λ d s. record { type = _; means = meaning.truth_values (c.requires.top ∙ ap TypeNode-F.Base c.in-Truth.is) }
