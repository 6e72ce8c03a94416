use Rattle.std.proofs.Common.{◌-◌, map, length}
use Rattle.leo_terms.specs.Contents.{tree_at, type_at}
use Rattle.leo_terms.proofs.CallerLemmas.{extends-itself, extends-trans}
use Rattle.leo_clause.proofs.Meeting.{below-at}
use Rattle.leo_kernel.proofs.Growing.{types-grow, types-kept}
use Rattle.leo_clausify.proofs.Functions.{function-none, function-next, over-tree}
use Rattle.leo_ext.proofs.choosing.function.Goals as goal

pub loop-done-init : goal.loop-done-init
loop-done-init c = (extends-itself c.is_sound.ensures.sound, function-none c.args.bank.now (map (type_at c.args.bank.now) c.args.vars.now) c.args.order.now.keys c.args.t c.requires.within)

pub function_over-requires-clause-types : goal.function_over-requires-clause-types
function_over-requires-clause-types c = types-grow c.loop-done.invariant.0 c.args.vars.now c.requires.types

pub function_over-requires-clause-variable : goal.function_over-requires-clause-variable
function_over-requires-clause-variable c = below-at _ c.args.order.now.keys c.requires.variables _ c.number_at-n.result c.number_at-n.ensures

pub function_over-requires-clause-over : goal.function_over-requires-clause-over
function_over-requires-clause-over c =
    over-tree c.loop-done.invariant.0 c.args.vars.now c.args.order.now.keys (length c.args.order.now.keys - c.loop-done.done) c.loop-done.whole (tree_at c.args.bank.now c.args.t) c.requires.types c.requires.variables c.requires.over c.loop-done.invariant.1

pub returns-in_err-next-clause-grows : goal.returns-in_err-next-clause-grows
returns-in_err-next-clause-grows c = extends-trans c.loop-done.invariant.0 c.function_over.ensures.grows

pub loop-done-preserved : goal.loop-done-preserved
loop-done-preserved c =
    let e = c.loop-done.invariant.0 in (
      extends-trans e c.function_over.ensures.grows,
      function-next c.loop-done.bank c.function_over.new.bank (map (type_at c.args.bank.now) c.args.vars.now) (map (type_at c.loop-done.bank) c.args.vars.now) c.args.order.now.keys (tree_at c.args.bank.now c.args.t) c.loop-done.whole c.in_ok-next.next c.number_at-n.result c.len-count.result c.loop-done.done (types-kept e c.args.vars.now c.requires.types) c.len-count.ensures.len c.loop-done-test.true c.number_at-n.ensures c.loop-done.invariant.1 c.in_ok-next.ensures.made,
    )
