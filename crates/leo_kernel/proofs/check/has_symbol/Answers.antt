use Rattle.leo_terms.proofs.CallerLemmas.{extends-itself}
use Rattle.leo_kernel.proofs.TypedLits.{yes}
use Rattle.leo_kernel.proofs.ShapeRules.{logic-symbol, func_ext-symbol, no-symbol}
use Rattle.leo_kernel.proofs.check.has_symbol.Goals as goal

pub returns-in_err-holds-in-Abbreviate-clause-grows : goal.returns-in_err-holds-in-Abbreviate-clause-grows
returns-in_err-holds-in-Abbreviate-clause-grows c = extends-itself c.is_sound.ensures.sound

pub returns-in_ok-holds-in-Abbreviate-clause-grows : goal.returns-in_ok-holds-in-Abbreviate-clause-grows
returns-in_ok-holds-in-Abbreviate-clause-grows c = extends-itself c.is_sound.ensures.sound

pub returns-in_ok-holds-in-Logic-clause-value : goal.returns-in_ok-holds-in-Logic-clause-value
returns-in_ok-holds-in-Logic-clause-value c =
    let l = c.literal-about.ensures in
    rw (c.in-Logic.is, l.reads)
    (logic-symbol c.logic_has_symbol.ensures.grows c.args.lines.now c.requires.lines c.literal-about.result l.left l.right c.args.step.now.clause c.requires.step.clause_of c.in-Logic.lit c.in-Logic.abbr c.in_ok-holds-in-Logic.holds c.in-Logic.kind c.in_ok-holds-in-Logic.ensures.value)

pub returns-in_ok-holds-in-FuncExt-clause-value : goal.returns-in_ok-holds-in-FuncExt-clause-value
returns-in_ok-holds-in-FuncExt-clause-value c =
    let l = c.literal-about-in-FuncExt.ensures in
    rw (c.in-FuncExt.is, l.reads)
    (func_ext-symbol c.func_ext_has_symbol.ensures.grows c.args.lines.now c.requires.lines c.literal-about-in-FuncExt.result l.left l.right c.args.step.now.clause c.requires.step.clause_of c.in-FuncExt.lit c.in-FuncExt.abbr c.in_ok-holds-in-FuncExt.holds c.literal-about-in-FuncExt.result.pos c.in_ok-holds-in-FuncExt.ensures.value)

pub returns-in_default : goal.returns-in_default
returns-in_default c = record {
  value = yes (no-symbol c.args.bank.now _ _ _ c.args.step.now.rule c.in_default.not-Logic c.in_default.not-FuncExt c.in_default.not-Abbreviate);
  grows = extends-itself c.is_sound.ensures.sound;
}
