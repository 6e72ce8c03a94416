use Rattle.std.proofs.Common.{◌≡◌, ◌≤◌, ◌<◌, ◌+◌, ℕ, List, Option, Some, map, length, sym, ◌∙◌, subst, ap, rules, arith}
use Rattle.std.specs.Prelude.{slice_get, IfSome}
use Rattle.leo_passive.specs.Table.{HasEntries, half, weight_slot, lighter_of}
use Rattle.leo_passive.proofs.Walking
use Rattle.leo_passive.proofs.Calls
use Rattle.leo_passive.proofs.passive.Passive.least_heavy.Goals as goal

pub loop-init : goal.loop-init
loop-init c =
    let h = Calls.has c.self.inside.slots c.self.inside.weights.items c.args.self.now (c.self.invariant, c.self.view_is) in
    Walking.start c.args.self.now c.front-here.result (c.front-here.ensures ∙ ap (λ (xs : List ℕ). slice_get xs 0) (Calls.heavy c.self.inside.slots c.self.inside.weights.items c.args.self.now h c.requires))

pub lighter-requires-clause-best : goal.lighter-requires-clause-best
lighter-requires-clause-best c =
    let h = Calls.has c.self.inside.slots c.self.inside.weights.items c.args.self.now (c.self.invariant, c.self.view_is) in
    subst (λ (ws : List ℕ). IfSome c.loop.best (λ b. half b < length ws)) (sym c.deref.ensures.value)
    (Calls.walk-best c.self.inside.slots c.self.inside.weights.items c.args.self.now h c.requires c.loop.best c.loop.here c.loop.counter c.loop.invariant)

pub lighter-requires-clause-slot : goal.lighter-requires-clause-slot
lighter-requires-clause-slot c =
    let h = Calls.has c.self.inside.slots c.self.inside.weights.items c.args.self.now (c.self.invariant, c.self.view_is) in
    subst (λ (ws : List ℕ). half c.in-Some.slot < length ws) (sym c.deref.ensures.value)
    (Calls.walk-slot c.self.inside.slots c.self.inside.weights.items c.args.self.now h c.requires c.loop.best c.loop.here c.loop.counter c.in-Some.slot c.loop.invariant c.in-Some.is).0

pub next-here-requires : goal.next-here-requires
next-here-requires c =
    let h = Calls.has c.self.inside.slots c.self.inside.weights.items c.args.self.now (c.self.invariant, c.self.view_is) in
    (Calls.walk-slot c.self.inside.slots c.self.inside.weights.items c.args.self.now h c.requires c.loop.best c.loop.here c.loop.counter c.in-Some.slot c.loop.invariant c.in-Some.is).1

pub loop-preserved : goal.loop-preserved
loop-preserved c =
    let h : HasEntries c.self.inside.slots c.self.inside.weights.items c.args.self.now = Calls.has c.self.inside.slots c.self.inside.weights.items c.args.self.now (c.self.invariant, c.self.view_is) in
    let heavy = Calls.heavy c.self.inside.slots c.self.inside.weights.items c.args.self.now h c.requires in
    let at = (Calls.walk-slot c.self.inside.slots c.self.inside.weights.items c.args.self.now h c.requires c.loop.best c.loop.here c.loop.counter c.in-Some.slot c.loop.invariant c.in-Some.is).2 in
    let next : c.next-here.result ≡ slice_get (map weight_slot c.args.self.now) (c.loop.counter + 1) =
    c.next-here.ensures 514 c.loop.counter (rw h.many (omega arith)) at ∙ ap (λ (xs : List ℕ). slice_get xs (c.loop.counter + 1)) heavy in
    let walk : Walking.Walks c.args.self.now c.loop.best (Some c.in-Some.slot) c.loop.counter =
    subst (λ (o : Option ℕ). Walking.Walks c.args.self.now c.loop.best o c.loop.counter) c.in-Some.is c.loop.invariant in
    let made : c.lighter.result ≡ lighter_of c.self.inside.weights.items c.loop.best c.in-Some.slot =
    c.lighter.ensures ∙ ap (λ (ws : List ℕ). lighter_of ws c.loop.best c.in-Some.slot) c.deref.ensures.value in
    subst (λ (s : ℕ). Walking.Walks c.args.self.now (Some s) c.next-here.result (c.loop.counter + 1)) (sym made)
    (Walking.step c.self.inside.slots.slots c.self.inside.weights.items c.args.self.now h.rising h.kept c.loop.best c.loop.counter c.in-Some.slot c.next-here.result walk next)

pub returns-after-loop : goal.returns-after-loop
returns-after-loop c =
    let h : HasEntries c.self.inside.slots c.self.inside.weights.items c.args.self.now = Calls.has c.self.inside.slots c.self.inside.weights.items c.args.self.now (c.self.invariant, c.self.view_is) in
    let many : length c.self.inside.weights.items ≤ c.loop.counter = search rules in
    Walking.best-lightest c.args.self.now c.loop.best
    (Calls.walk-over c.self.inside.slots c.self.inside.weights.items c.args.self.now h c.requires c.loop.best c.loop.here c.loop.counter c.loop.invariant many)

pub returns-in_default : goal.returns-in_default
returns-in_default c =
    Walking.best-lightest c.args.self.now c.loop.best (Walking.ended c.args.self.now c.loop.best c.loop.counter
    (subst (λ (o : Option ℕ). Walking.Walks c.args.self.now c.loop.best o c.loop.counter) c.in_default.is c.loop.invariant))
