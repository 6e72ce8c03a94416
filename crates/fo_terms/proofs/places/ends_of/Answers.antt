use Rattle.std.proofs.Common.{suc, ◌-◌, ◌≡◌, arith, rules}
use Rattle.fo_terms.specs.Places.{AreEndsFrom}
use Rattle.fo_terms.proofs.AtPlaces.{AreEndsFrom-set}
use Rattle.fo_terms.proofs.places.ends_of.Goals as goal

pub end_of-end-requires-clause-later : goal.end_of-end-requires-clause-later
end_of-end-requires-clause-later c =
    let one : suc (c.loop-at.at - 1) ≡ c.loop-at.at = omega arith in
    rw (c.deref.ensures.value, one) c.loop-at.invariant.2

pub loop-at-preserved : goal.loop-at-preserved
loop-at-preserved c =
    let one : c.loop-at.at ≡ suc (c.loop-at.at - 1) = omega arith in
    let before : AreEndsFrom (suc (c.loop-at.at - 1)) c.args.nodes.now c.loop-at.ends.items = rw one at c.loop-at.invariant.2 in
    let after = AreEndsFrom-set c.args.nodes.now c.loop-at.ends.items (c.loop-at.at - 1) c.end_of-end.result before c.end_of-end.ensures in
    (omega arith, search rules, after)

pub returns : goal.returns
returns c =
    let none_left : c.loop-at.at ≡ 0 = omega arith in
    record { full = c.requires; as_long = c.loop-at.invariant.1; behind = rw none_left at c.loop-at.invariant.2 }
