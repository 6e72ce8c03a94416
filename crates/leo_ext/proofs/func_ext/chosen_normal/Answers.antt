use Rattle.std.proofs.Common.{◌∙◌, ap, subst}
use Rattle.leo_terms.specs.NormalForm.{normal_form}
use Rattle.leo_terms.specs.Typing.{IsWellTyped}
use Rattle.leo_terms.proofs.CallerLemmas.{extends-trans, new_bank, term-typed}
use Rattle.leo_ext.proofs.Differences.{chosen-made}
use Rattle.leo_ext.proofs.func_ext.chosen_normal.Goals as goal

pub returns-in_err-form-clause-grows : goal.returns-in_err-form-clause-grows
returns-in_err-form-clause-grows c = extends-trans c.difference_term.ensures.grows c.normal.ensures.grows

pub returns-clause-made : goal.returns-clause-made
returns-clause-made c =
    let m = chosen-made c.args.lit.now c.args.arrow.now c.requires.functions c.in_ok-term.term c.in_ok-term.ensures.made in
    record { within = c.in_ok-form.ensures.made.within; reads = c.in_ok-form.ensures.made.value ∙ ap normal_form m.reads }

pub returns-clause-typed : goal.returns-clause-typed
returns-clause-typed c =
    let m = chosen-made c.args.lit.now c.args.arrow.now c.requires.functions c.in_ok-term.term c.in_ok-term.ensures.made in
    subst IsWellTyped m.reads (term-typed (new_bank c.difference_term.ensures.grows) c.in_ok-term.term m.within)

pub returns-clause-grows : goal.returns-clause-grows
returns-clause-grows c = extends-trans c.difference_term.ensures.grows c.normal.ensures.grows
