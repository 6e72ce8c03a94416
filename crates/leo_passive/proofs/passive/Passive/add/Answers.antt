use Rattle.std.proofs.Common.{◌≡◌, ◌+◌, ◌*◌, ℕ, ◌∙◌, ap}
use Rattle.leo_lists.specs.Lists.{Lists}
use Rattle.leo_lists.specs.Rings.{pushed}
use Rattle.leo_passive.proofs.Adding
use Rattle.leo_passive.proofs.Calls
use Rattle.leo_passive.proofs.passive.Passive.add.Goals as goal

pub invariant_of-self : goal.invariant_of-self
invariant_of-self c =
    (Calls.roomy-keeps c.self.inside.slots c.make_room.new.slots c.self.inside.weights.items c.make_room.new.weights.items c.args.self.now (c.self.invariant, c.self.view_is)
    c.make_room.ensures.weights c.make_room.ensures.slots).0

pub returns-in_err-make_room : goal.returns-in_err-make_room
returns-in_err-make_room c =
    Calls.on-err _ c.from_residual.result c.from_residual.ensures.0
    (Calls.roomy-keeps c.self.inside.slots c.make_room.new.slots c.self.inside.weights.items c.make_room.new.weights.items c.args.self.now (c.self.invariant, c.self.view_is)
    c.make_room.ensures.weights c.make_room.ensures.slots).1

pub push_back-requires-clause-free : goal.push_back-requires-clause-free
push_back-requires-clause-free c =
    let k = Calls.roomy-keeps c.self.inside.slots c.make_room.new.slots c.self.inside.weights.items c.make_room.new.weights.items c.args.self.now (c.self.invariant, c.self.view_is)
    c.make_room.ensures.weights c.make_room.ensures.slots in
    Calls.free-age c.make_room.new.slots c.make_room.new.weights.items c.args.self.now c.args.number c.args.weight k c.requires.newest c.in_ok-make_room.ensures.room

pub push_back-requires-2-clause-free : goal.push_back-requires-2-clause-free
push_back-requires-2-clause-free c =
    let k = Calls.roomy-keeps c.self.inside.slots c.make_room.new.slots c.self.inside.weights.items c.make_room.new.weights.items c.args.self.now (c.self.invariant, c.self.view_is)
    c.make_room.ensures.weights c.make_room.ensures.slots in
    Calls.free-weight c.make_room.new.slots c.push_back.new.self c.make_room.new.weights.items c.args.self.now c.args.number c.args.weight k c.requires.newest c.in_ok-make_room.ensures.room c.push_back.ensures

pub invariant_of-self-2 : goal.invariant_of-self-2
invariant_of-self-2 c =
    let k = Calls.roomy-keeps c.self.inside.slots c.make_room.new.slots c.self.inside.weights.items c.make_room.new.weights.items c.args.self.now (c.self.invariant, c.self.view_is)
    c.make_room.ensures.weights c.make_room.ensures.slots in
    let is : c.push_back-2.new.self ≡ Adding.with_entry c.make_room.new.slots (record { number = c.args.number; weight = c.args.weight }) =
    c.push_back-2.ensures ∙ ap (λ (s : Lists). record { slots = s.slots; lists = pushed s.lists c.list_of.result (2 * c.args.number + 1) }) c.push_back.ensures
    ∙ ap (λ (l : ℕ). record { slots = c.make_room.new.slots.slots; lists = pushed (pushed c.make_room.new.slots.lists 0 (2 * c.args.number)) l (2 * c.args.number + 1) }) c.list_of.ensures in
    (Calls.added-keeps c.make_room.new.slots c.push_back-2.new.self c.make_room.new.weights.items c.args.self.now c.args.number c.args.weight k c.requires.newest c.in_ok-make_room.ensures.room is).0

pub returns : goal.returns
returns c =
    let k = Calls.roomy-keeps c.self.inside.slots c.make_room.new.slots c.self.inside.weights.items c.make_room.new.weights.items c.args.self.now (c.self.invariant, c.self.view_is)
    c.make_room.ensures.weights c.make_room.ensures.slots in
    let is : c.push_back-2.new.self ≡ Adding.with_entry c.make_room.new.slots (record { number = c.args.number; weight = c.args.weight }) =
    c.push_back-2.ensures ∙ ap (λ (s : Lists). record { slots = s.slots; lists = pushed s.lists c.list_of.result (2 * c.args.number + 1) }) c.push_back.ensures
    ∙ ap (λ (l : ℕ). record { slots = c.make_room.new.slots.slots; lists = pushed (pushed c.make_room.new.slots.lists 0 (2 * c.args.number)) l (2 * c.args.number + 1) }) c.list_of.ensures in
    (Calls.added-keeps c.make_room.new.slots c.push_back-2.new.self c.make_room.new.weights.items c.args.self.now c.args.number c.args.weight k c.requires.newest c.in_ok-make_room.ensures.room is).1
