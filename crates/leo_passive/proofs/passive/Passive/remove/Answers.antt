use Rattle.std.proofs.Common.{◌+◌, ◌*◌, ◌^◌, ◌<◌, ◌∙◌, ap, arith}
use Rattle.leo_lists.specs.Lists.{Lists}
use Rattle.leo_passive.specs.Table.{HasEntries}
use Rattle.leo_passive.proofs.Removing
use Rattle.leo_passive.proofs.Calls
use Rattle.leo_passive.proofs.passive.Passive.remove.Goals as goal

pub overflow_mul-number : goal.overflow_mul-number
overflow_mul-number c =
    let h : HasEntries c.self.inside.slots c.self.inside.weights.items c.args.self.now = Calls.has c.self.inside.slots c.self.inside.weights.items c.args.self.now (c.self.invariant, c.self.view_is) in
    let b : 2 * c.args.number + 1 < 2 ^ 32 = Calls.small c.self.inside.slots c.self.inside.weights.items c.args.self.now c.args.number h c.requires in
    omega (arith, b)

pub unlink-requires : goal.unlink-requires
unlink-requires c =
    Removing.age-stands c.self.inside.slots c.self.inside.weights.items c.args.self.now c.args.number
    (Calls.has c.self.inside.slots c.self.inside.weights.items c.args.self.now (c.self.invariant, c.self.view_is)) c.requires

pub overflow_mul-number-2 : goal.overflow_mul-number-2
overflow_mul-number-2 c =
    let h : HasEntries c.self.inside.slots c.self.inside.weights.items c.args.self.now = Calls.has c.self.inside.slots c.self.inside.weights.items c.args.self.now (c.self.invariant, c.self.view_is) in
    let b : 2 * c.args.number + 1 < 2 ^ 32 = Calls.small c.self.inside.slots c.self.inside.weights.items c.args.self.now c.args.number h c.requires in
    omega (arith, b)

pub overflow_add-number : goal.overflow_add-number
overflow_add-number c =
    let h : HasEntries c.self.inside.slots c.self.inside.weights.items c.args.self.now = Calls.has c.self.inside.slots c.self.inside.weights.items c.args.self.now (c.self.invariant, c.self.view_is) in
    let b : 2 * c.args.number + 1 < 2 ^ 32 = Calls.small c.self.inside.slots c.self.inside.weights.items c.args.self.now c.args.number h c.requires in
    omega (arith, b)

pub unlink-requires-2 : goal.unlink-requires-2
unlink-requires-2 c =
    rw c.unlink.ensures (Removing.weight-stands c.self.inside.slots c.self.inside.weights.items c.args.self.now c.args.number
    (Calls.has c.self.inside.slots c.self.inside.weights.items c.args.self.now (c.self.invariant, c.self.view_is)) c.requires)

pub invariant_of-self : goal.invariant_of-self
invariant_of-self c =
    (Calls.remove c.self.inside.slots c.unlink-2.new.self c.self.inside.weights.items c.args.self.now c.args.number
    (Calls.has c.self.inside.slots c.self.inside.weights.items c.args.self.now (c.self.invariant, c.self.view_is))
    (c.unlink-2.ensures ∙ ap (λ (s : Lists). Removing.unlinked s (2 * c.args.number + 1)) c.unlink.ensures)).0

pub returns : goal.returns
returns c =
    (Calls.remove c.self.inside.slots c.unlink-2.new.self c.self.inside.weights.items c.args.self.now c.args.number
    (Calls.has c.self.inside.slots c.self.inside.weights.items c.args.self.now (c.self.invariant, c.self.view_is))
    (c.unlink-2.ensures ∙ ap (λ (s : Lists). Removing.unlinked s (2 * c.args.number + 1)) c.unlink.ensures)).1
