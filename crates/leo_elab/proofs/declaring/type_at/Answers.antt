use Rattle.std.proofs.Common.{◌∙◌, sym}
use Rattle.leo_terms.proofs.CallerLemmas.{extends-itself}
use Rattle.leo_elab.proofs.Declarations.{types-pass, types-more, type-undeclared, once-drop}
use Rattle.leo_elab.proofs.declaring.type_at.Goals as goal

pub returns-then-not-declares_type-clause-now : goal.returns-then-not-declares_type-clause-now
returns-then-not-declares_type-clause-now c = types-pass c.requires.before c.at.result.0.now c.at.result.1.now c.at.ensures (sym c.declares_type.ensures.value ∙ c.if-not-declares_type.true)

pub returns-then-not-declares_type-clause-grows : goal.returns-then-not-declares_type-clause-grows
returns-then-not-declares_type-clause-grows c = extends-itself c.is_sound.ensures.sound

pub returns-then-place-gt-MOST_ATOMS-clause-grows : goal.returns-then-place-gt-MOST_ATOMS-clause-grows
returns-then-place-gt-MOST_ATOMS-clause-grows c = extends-itself c.is_sound.ensures.sound

pub declare_type-requires-clause-undeclared : goal.declare_type-requires-clause-undeclared
declare_type-requires-clause-undeclared c = type-undeclared c.requires.before c.at.result.0.now c.at.result.1.now c.at.ensures

pub returns-in-Ok-clause-now : goal.returns-in-Ok-clause-now
returns-in-Ok-clause-now c =
    types-more c.requires.before c.at.result.0.now c.at.result.1.now c.at.ensures (sym c.declares_type.ensures.value ∙ c.if-not-declares_type.false)
    (once-drop c.args.place c.args.firsts.now c.requires.once) c.in-Ok.ensures.names c.in-Ok.ensures.constants c.in-Ok.ensures.counted c.declare_type.ensures.symbols
    (c.declares_type.ensures.yes c.if-not-declares_type.false) c.in-Ok.ensures.declares
