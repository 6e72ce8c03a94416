use Rattle.std.proofs.Common.{ℕ, ◌∙◌, List, [], ◌∷◌, ◌++◌, ap}
use Rattle.leo_keep.specs.Groups.{HasHeadsAt}
use Rattle.leo_keep.proofs.Grouping.{at-place, item-at, push-grouped, push-keeps, put-keeps, put-there}
use Rattle.leo_keep.proofs.groups.put.Goals as goal

pub returns-in-Some-clause-put : goal.returns-in-Some-clause-put
returns-in-Some-clause-put c =
    let there : HasHeadsAt c.args.groups.now.items c.in-Some.place c.args.heads.now = rw c.deref.ensures.value at c.in-Some.ensures in
    let stands = item-at c.args.groups.now.items c.in-Some.place c.args.heads.now c.index_mut.result.now there c.index_mut.ensures.value in
    put-there c.args.groups.now.items c.in-Some.place c.index_mut.result.now c.append.new.group c.args.heads.now c.args.number stands c.append.ensures.heads c.append.result c.append.ensures.ok (at-place c.args.groups.now.items c.in-Some.place c.args.heads.now there c.index_mut.result.now stands)

pub returns-in-Some-clause-stay : goal.returns-in-Some-clause-stay
returns-in-Some-clause-stay c =
    let there : HasHeadsAt c.args.groups.now.items c.in-Some.place c.args.heads.now = rw c.deref.ensures.value at c.in-Some.ensures in
    let stands = item-at c.args.groups.now.items c.in-Some.place c.args.heads.now c.index_mut.result.now there c.index_mut.ensures.value in
    put-keeps c.args.groups.now.items c.in-Some.place c.index_mut.result.now c.append.new.group c.args.heads.now c.args.number stands c.append.ensures.heads c.append.result c.append.ensures.ok c.append.ensures.err

pub returns-in_ok-push-in-None-2-clause-put : goal.returns-in_ok-push-in-None-2-clause-put
returns-in_ok-push-in-None-2-clause-put c =
    rw c.in_ok-push-in-None-2.ensures.items (push-grouped c.args.groups.now.items (record { heads = c.args.heads.now; numbers = c.push.new.self }) c.args.number (c.in_ok-push-in-None.ensures.items ∙ ap (λ (ns : List ℕ). ns ++ c.args.number ∷ []) c.new-numbers.ensures.items))

pub returns-in_ok-push-in-None-2-clause-stay : goal.returns-in_ok-push-in-None-2-clause-stay
returns-in_ok-push-in-None-2-clause-stay c =
    rw c.in_ok-push-in-None-2.ensures.items (push-keeps c.args.groups.now.items (record { heads = c.args.heads.now; numbers = c.push.new.self }))
