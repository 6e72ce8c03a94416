use Rattle.leo_terms.proofs.CallerLemmas.{extends-trans}
use Rattle.leo_kernel.proofs.Growing.{types-grow}
use Rattle.leo_ext.proofs.Differences.{keys-are, order-below, form-over, closed-made}
use Rattle.leo_ext.proofs.func_ext.closed.Goals as goal

pub function-requires-clause-types : goal.function-requires-clause-types
function-requires-clause-types c = types-grow c.chosen_normal.ensures.grows c.args.vars.now c.requires.types

pub function-requires-clause-variables : goal.function-requires-clause-variables
function-requires-clause-variables c =
    let k = keys-are c.args.bank.now c.args.vars.now c.args.lit.now c.requires.left c.requires.right c.in_ok-form.ensures.typed c.chosen_normal.ensures.grows c.requires.types c.in_ok-form.form c.in_ok-form.ensures.made c.in_ok-order.order.keys c.in_ok-order.ensures in
    order-below c.args.bank.now c.args.vars.now c.args.lit.now c.requires.left c.requires.right c.in_ok-form.ensures.typed c.in_ok-order.order.keys k

pub function-requires-clause-over : goal.function-requires-clause-over
function-requires-clause-over c = form-over c.args.bank.now c.args.vars.now c.args.lit.now c.requires.left c.requires.right c.in_ok-form.ensures.typed c.chosen_normal.ensures.grows c.requires.types c.in_ok-form.form c.in_ok-form.ensures.made

pub returns-in_err-term-clause-grows : goal.returns-in_err-term-clause-grows
returns-in_err-term-clause-grows c = extends-trans c.chosen_normal.ensures.grows c.function.ensures.grows

pub returns-clause-made : goal.returns-clause-made
returns-clause-made c =
    closed-made c.args.bank.now c.args.vars.now c.args.lit.now c.requires.left c.requires.right c.in_ok-form.ensures.typed c.chosen_normal.ensures.grows c.requires.types c.in_ok-form.form c.in_ok-form.ensures.made c.in_ok-order.order.keys c.in_ok-order.ensures c.function.new.bank c.in_ok-term.term c.in_ok-term.ensures.made

pub returns-clause-grows : goal.returns-clause-grows
returns-clause-grows c = extends-trans c.chosen_normal.ensures.grows c.function.ensures.grows
