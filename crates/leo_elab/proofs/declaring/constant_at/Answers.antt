use Rattle.std.proofs.Common.{◌∙◌, sym}
use Rattle.leo_terms.proofs.CallerLemmas.{extends-itself}
use Rattle.leo_elab.proofs.Declarations.{constants-pass, constants-more, constant-undeclared, once-drop}
use Rattle.leo_elab.proofs.declaring.constant_at.Goals as goal

pub returns-then-declares_type-clause-now : goal.returns-then-declares_type-clause-now
returns-then-declares_type-clause-now c = constants-pass c.requires.before c.at.result.0.now c.at.result.1.now c.at.ensures (sym c.declares_type.ensures.value ∙ c.if-declares_type.true)

pub returns-then-declares_type-clause-grows : goal.returns-then-declares_type-clause-grows
returns-then-declares_type-clause-grows c = extends-itself c.is_sound.ensures.sound

pub declare_constant-requires-clause-undeclared : goal.declare_constant-requires-clause-undeclared
declare_constant-requires-clause-undeclared c =
    constant-undeclared c.requires.before c.at.result.0.now c.at.result.1.now c.at.ensures c.requires.once (sym c.declares_type.ensures.value ∙ c.if-declares_type.false)

pub returns-in-Ok-clause-now : goal.returns-in-Ok-clause-now
returns-in-Ok-clause-now c =
    constants-more c.requires.before c.at.result.0.now c.at.result.1.now c.at.ensures (sym c.declares_type.ensures.value ∙ c.if-declares_type.false)
    c.requires.once (once-drop c.args.place c.args.firsts.now c.requires.once) c.in-Ok.ensures.names c.in-Ok.ensures.constants c.in-Ok.ensures.counted
    (c.declares_type.ensures.no c.if-declares_type.false) c.in-Ok.ensures.declares
