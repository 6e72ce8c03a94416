use Rattle.std.proofs.Common.{◌∙◌, ap, length, refl}
use Rattle.leo_terms.proofs.CallerLemmas.{extends-itself, extends-trans}
use Rattle.leo_ext.proofs.Adding.{adds-after, adds-none, typed-grow}
use Rattle.leo_ext.proofs.BoundMembers.{all-fit, all-put, arguments-grow, by-many, head-grow}
use Rattle.leo_ext.proofs.primitive.put_primitive_by.Goals as goal

pub returns-in_err-types-clause-grows : goal.returns-in_err-types-clause-grows
returns-in_err-types-clause-grows c = extends-itself c.is_sound.ensures.sound

pub returns-then-arguments-gt-ARGUMENTS-clause-adds : goal.returns-then-arguments-gt-ARGUMENTS-clause-adds
returns-then-arguments-gt-ARGUMENTS-clause-adds c =
    adds-none (extends-itself c.is_sound.ensures.sound) c.args.dues.now.items _
    (by-many c.args.bank.now _ c.args.before c.args.variable.now.number c.args.variable.now.ty _ c.as_slice-arguments.result.now (rw c.as_slice-arguments.ensures.value c.in_ok-types.ensures) refl c.if-arguments-gt-ARGUMENTS.true)

pub returns-then-arguments-gt-ARGUMENTS-clause-grows : goal.returns-then-arguments-gt-ARGUMENTS-clause-grows
returns-then-arguments-gt-ARGUMENTS-clause-grows c = extends-itself c.is_sound.ensures.sound

pub returns-in_err-next-clause-grows : goal.returns-in_err-next-clause-grows
returns-in_err-next-clause-grows c = extends-itself c.is_sound.ensures.sound

pub put_bounds-requires-clause-clause : goal.put_bounds-requires-clause-clause
put_bounds-requires-clause-clause c = typed-grow c.bindings.ensures.grows c.args.clause.now c.requires.clause

pub put_bounds-requires-clause-variable : goal.put_bounds-requires-clause-variable
put_bounds-requires-clause-variable c = head-grow c.bindings.ensures.grows c.args.clause.now c.requires.clause.of_bank c.args.variable.now c.requires.variable

pub put_bounds-requires-clause-types : goal.put_bounds-requires-clause-types
put_bounds-requires-clause-types c = arguments-grow c.bindings.ensures.grows c.args.variable.now.ty c.as_slice-arguments.result.now c.requires.variable.type_within (rw c.as_slice-arguments.ensures.value c.in_ok-types.ensures)

pub put_bounds-requires-clause-fits : goal.put_bounds-requires-clause-fits
put_bounds-requires-clause-fits c =
    rw c.deref.ensures.value
    (all-fit c.bindings.ensures.grows c.args.clause.now c.requires.clause.of_bank c.args.variable.now c.requires.variable c.as_slice-arguments.result.now (rw c.as_slice-arguments.ensures.value c.in_ok-types.ensures) _ (c.from.ensures ∙ c.in_ok-next.ensures ∙ ap length c.as_slice.ensures) c.in_ok-bounds.bounds.items c.in_ok-bounds.ensures.made)

pub returns-in_err-put_bounds-clause-grows : goal.returns-in_err-put_bounds-clause-grows
returns-in_err-put_bounds-clause-grows c = extends-trans c.bindings.ensures.grows c.put_bounds.ensures.grows

pub returns-clause-adds : goal.returns-clause-adds
returns-clause-adds c =
    adds-after c.args.dues.now.items c.put_bounds.new.dues.items _ c.bindings.ensures.grows
    (all-put c.bindings.ensures.grows c.args.clause.now c.requires.clause.of_bank c.args.variable.now c.requires.variable c.as_slice-arguments.result.now (rw c.as_slice-arguments.ensures.value c.in_ok-types.ensures) _ (c.from.ensures ∙ c.in_ok-next.ensures ∙ ap length c.as_slice.ensures) c.in_ok-bounds.bounds.items c.in_ok-bounds.ensures.made
    c.args.dues.now.items c.put_bounds.new.dues.items c.args.before _ refl c.if-arguments-gt-ARGUMENTS.false (rw c.deref.ensures.value at c.in_ok-put_bounds.ensures.adds))

pub returns-clause-grows : goal.returns-clause-grows
returns-clause-grows c = extends-trans c.bindings.ensures.grows c.put_bounds.ensures.grows
