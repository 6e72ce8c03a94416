use Rattle.std.proofs.lemmas.Option.{slice_get_within}
use Rattle.leo_terms.proofs.CallerLemmas.{extends-trans}
use Rattle.leo_kernel.proofs.Growing.{types-grow}
use Rattle.leo_clausify.proofs.Picks.{items-kept, items-grow}
use Rattle.leo_ext.proofs.Differences.{closed-over, functions-kept, head-types, head-within, order-below, picked-made}
use Rattle.leo_ext.proofs.func_ext.picked.Goals as goal

pub place_for-requires-clause-closed : goal.place_for-requires-clause-closed
place_for-requires-clause-closed c = rw c.in_ok-closed.ensures.made.reads (closed-over c.args.bank.now c.args.vars.now c.args.lit.now c.requires.left c.requires.right c.in_ok-closed.ensures.typed)

pub place_for-requires-clause-of_bank : goal.place_for-requires-clause-of_bank
place_for-requires-clause-of_bank c = items-grow c.closed.ensures.grows c.args.choices.now.items c.requires.in_order.of_bank

pub place_for-requires-clause-choices : goal.place_for-requires-clause-choices
place_for-requires-clause-choices c = rw (items-kept c.closed.ensures.grows c.args.choices.now.items c.requires.in_order.of_bank) c.requires.in_order.choices

pub returns-in_err-place-clause-grows : goal.returns-in_err-place-clause-grows
returns-in_err-place-clause-grows c = extends-trans c.closed.ensures.grows c.place_for.ensures.grows

pub symbol_at-head-requires : goal.symbol_at-head-requires
symbol_at-head-requires c = rw c.as_slice.ensures (let p = c.in_ok-place.ensures.placed in slice_get_within _ c.in_ok-place.place p.item p.stands)

pub claimed-requires-clause-head : goal.claimed-requires-clause-head
claimed-requires-clause-head c =
    head-within c.closed.ensures.grows c.place_for.ensures.grows c.args.vars.now c.in_ok-closed.closed.order.keys c.args.choices.now.items c.place_for.new.choices.items c.args.lit.now c.args.arrow.now c.in_ok-closed.closed.term c.in_ok-place.place c.symbol_at-head.result c.requires.types c.requires.functions c.requires.left c.requires.right c.in_ok-closed.ensures.typed c.requires.in_order c.in_ok-closed.ensures.made c.in_ok-closed.ensures.order c.in_ok-place.ensures.placed (rw c.as_slice.ensures at c.symbol_at-head.ensures)

pub claimed-requires-clause-types : goal.claimed-requires-clause-types
claimed-requires-clause-types c = types-grow (extends-trans c.closed.ensures.grows c.place_for.ensures.grows) c.args.vars.now c.requires.types

pub claimed-requires-clause-variables : goal.claimed-requires-clause-variables
claimed-requires-clause-variables c = order-below c.args.bank.now c.args.vars.now c.args.lit.now c.requires.left c.requires.right c.in_ok-closed.ensures.typed c.in_ok-closed.closed.order.keys c.in_ok-closed.ensures.order

pub claimed-requires-clause-function : goal.claimed-requires-clause-function
claimed-requires-clause-function c =
    head-types c.closed.ensures.grows c.place_for.ensures.grows c.args.vars.now c.in_ok-closed.closed.order.keys c.args.choices.now.items c.place_for.new.choices.items c.args.lit.now c.args.arrow.now c.in_ok-closed.closed.term c.in_ok-place.place c.symbol_at-head.result c.requires.types c.requires.functions c.requires.left c.requires.right c.in_ok-closed.ensures.typed c.requires.in_order c.in_ok-closed.ensures.made c.in_ok-closed.ensures.order c.in_ok-place.ensures.placed (rw c.as_slice.ensures at c.symbol_at-head.ensures)

pub claimed-requires-clause-functions : goal.claimed-requires-clause-functions
claimed-requires-clause-functions c = functions-kept (extends-trans c.closed.ensures.grows c.place_for.ensures.grows) c.args.lit.now c.args.arrow.now c.requires.functions

pub returns-in_err-new-clause-grows : goal.returns-in_err-new-clause-grows
returns-in_err-new-clause-grows c = extends-trans (extends-trans c.closed.ensures.grows c.place_for.ensures.grows) c.claimed.ensures.grows

pub returns-clause-made : goal.returns-clause-made
returns-clause-made c = picked-made c.closed.ensures.grows c.place_for.ensures.grows c.args.vars.now c.in_ok-closed.closed.order.keys c.args.choices.now.items c.place_for.new.choices.items c.args.lit.now c.args.arrow.now c.in_ok-closed.closed.term c.in_ok-place.place c.symbol_at-head.result c.requires.types c.requires.functions c.requires.left c.requires.right c.in_ok-closed.ensures.typed c.requires.in_order c.in_ok-closed.ensures.made c.in_ok-closed.ensures.order c.in_ok-place.ensures.placed (rw c.as_slice.ensures at c.symbol_at-head.ensures) c.claimed.ensures.grows c.in_ok-new.new c.in_ok-new.ensures.made

pub returns-clause-grows : goal.returns-clause-grows
returns-clause-grows c = extends-trans (extends-trans c.closed.ensures.grows c.place_for.ensures.grows) c.claimed.ensures.grows
