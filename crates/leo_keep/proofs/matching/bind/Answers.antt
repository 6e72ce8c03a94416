use Rattle.std.proofs.Common.{map}
use Rattle.leo_terms.specs.Contents.{type_at}
use Rattle.leo_keep.proofs.Numbers.{get-index, refuted}
use Rattle.leo_keep.proofs.Joining.{binds, bound-again, cannot-bind, types-at}
use Rattle.leo_keep.proofs.matching.bind.Goals as goal

pub may_replace-requires-clause-ty : goal.may_replace-requires-clause-ty
may_replace-requires-clause-ty c = types-at c.args.bank.now c.args.vars.now c.requires.vars c.args.variable c.index-vars-variable.result c.requires.variable c.index-vars-variable.is

pub returns-then-not-may_replace : goal.returns-then-not-may_replace
returns-then-not-may_replace c =
    cannot-bind c.args.bank.now c.args.vars.now c.args.bindings.now.items c.args.variable c.args.t c.index-vars-variable.result c.requires.sound
    (get-index c.args.vars.now c.args.variable c.index-vars-variable.result c.requires.variable c.index-vars-variable.is)
    (refuted c.may_replace.result c.may_replace.ensures c.if-not-may_replace.true)

pub returns-in-Some : goal.returns-in-Some
returns-in-Some c =
    bound-again c.args.bank.now c.is_sound.ensures.sound (map (type_at c.args.bank.now) c.args.vars.now) c.args.bindings.now.items c.args.variable c.args.t c.in-Some.bound c.requires.sound c.requires.within
    (rw c.deref.ensures.value at c.in-Some.ensures) c.eq.result c.eq.ensures

pub returns-in_ok-push-in-None : goal.returns-in_ok-push-in-None
returns-in_ok-push-in-None c =
    rw c.in_ok-push-in-None.ensures.items
    (binds c.args.bank.now c.args.vars.now c.args.bindings.now.items c.args.variable c.args.t c.index-vars-variable.result c.requires.sound
    (get-index c.args.vars.now c.args.variable c.index-vars-variable.result c.requires.variable c.index-vars-variable.is)
    c.requires.within (c.may_replace.ensures.0 c.if-not-may_replace.false) (rw c.deref.ensures.value at c.in-None.ensures))
