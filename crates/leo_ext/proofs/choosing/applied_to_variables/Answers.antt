use Rattle.std.proofs.Common.{◌∙◌, map, refl, sym}
use Rattle.leo_terms.specs.Contents.{tree_at, type_at}
use Rattle.leo_terms.proofs.CallerLemmas.{extends-itself, extends-trans}
use Rattle.leo_clause.proofs.Meeting.{below-at}
use Rattle.leo_clausify.proofs.Functions.{front-arrow, front-next, type-of_variable, type-within, type-old}
use Rattle.leo_ext.proofs.choosing.applied_to_variables.Goals as goal

pub loop-place-init : goal.loop-place-init
loop-place-init c = (extends-itself c.is_sound.ensures.sound, record { within = c.requires.within; reads = refl })

pub type_in-requires : goal.type_in-requires
type_in-requires c = below-at _ c.args.order.now.keys c.requires.variables c.loop-place.place c.number_at-n.result c.number_at-n.ensures

pub applied_to_variable-requires-clause-ty : goal.applied_to_variable-requires-clause-ty
applied_to_variable-requires-clause-ty c = type-within c.loop-place.invariant.0 c.args.vars.now c.requires.types c.number_at-n.result c.type_in.result c.type_in.ensures

pub applied_to_variable-requires-clause-function : goal.applied_to_variable-requires-clause-function
applied_to_variable-requires-clause-function c =
    front-arrow (map (type_at c.args.bank.now) c.args.vars.now) c.loop-place.place c.number_at-n.result c.args.order.now.keys (tree_at c.args.bank.now c.args.f) (tree_at c.loop-place.bank c.loop-place.whole) c.requires.function.0 (type_at c.loop-place.bank c.type_in.result) c.number_at-n.ensures c.loop-place.invariant.1.reads c.requires.function.1
    (type-of_variable c.args.bank.now c.args.vars.now c.number_at-n.result c.type_in.result c.type_in.ensures ∙ sym (type-old c.loop-place.invariant.0 c.args.vars.now c.requires.types c.number_at-n.result c.type_in.result c.type_in.ensures))

pub returns-in_err-next-clause-grows : goal.returns-in_err-next-clause-grows
returns-in_err-next-clause-grows c = extends-trans c.loop-place.invariant.0 c.applied_to_variable.ensures.grows

pub loop-place-preserved : goal.loop-place-preserved
loop-place-preserved c =
    let e = c.loop-place.invariant.0 in (
      extends-trans e c.applied_to_variable.ensures.grows,
      front-next c.loop-place.bank c.applied_to_variable.new.bank (map (type_at c.args.bank.now) c.args.vars.now) c.args.order.now.keys (tree_at c.args.bank.now c.args.f) c.loop-place.whole c.in_ok-next.next c.loop-place.place c.number_at-n.result (type_at c.loop-place.bank c.type_in.result) c.number_at-n.ensures
          (type-old e c.args.vars.now c.requires.types c.number_at-n.result c.type_in.result c.type_in.ensures ∙ sym (type-of_variable c.args.bank.now c.args.vars.now c.number_at-n.result c.type_in.result c.type_in.ensures))
          c.loop-place.invariant.1 c.in_ok-next.ensures.made,
    )
