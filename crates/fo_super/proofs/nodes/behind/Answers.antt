use Rattle.std.proofs.Common.{◌≡◌, ◌+◌, ◌-◌, arith, Bool, true, false, sym, ◌∙◌}
use Rattle.std.specs.Prelude.{IsTrue, ◌↔◌}
use Rattle.fo_replay.proofs.Nodes.{fronts_of, fronts_within, fronts_next, fronts_none, fronts_room}
use Rattle.fo_super.proofs.nodes.behind.Goals as goal

pub returns-in_default : goal.returns-in_default
returns-in_default c = λ ts back e k.
    let f = fronts_of c.args.nodes.now back c.args.terms c.loop-wanted.rest.now c.loop-wanted.wanted c.loop-wanted.invariant ts e k in
    let w = fronts_within c.loop-wanted.rest.now back c.loop-wanted.wanted f in
    let z = c.in_default.ensures.cases in
    let t = c.loop-wanted-test.true in
    absurd (omega arith)

pub returns-then-not-has_room : goal.returns-then-not-has_room
returns-then-not-has_room c = λ ts back e k.
    let f = fronts_of c.args.nodes.now back c.args.terms c.loop-wanted.rest.now c.loop-wanted.wanted c.loop-wanted.invariant ts e k in
    let r = fronts_room c.loop-wanted.rest.now c.in-Some.node.now c.in-Some.tail.now back c.loop-wanted.wanted c.arguments-more.result c.in-Some.ensures.cases.0 (let t = c.loop-wanted-test.true in omega arith) c.arguments-more.ensures f in
    absurd (no_room c.has_room.result c.has_room.ensures r c.if-not-has_room.true)
  where
    no_room : {A : Type 0} (r : Bool) → IsTrue r ↔ A → A → r ≡ false → ⊥
    no_room r h a e = let t : r ≡ true = h.1 a in let u : true ≡ false = sym t ∙ e in cc

pub loop-wanted-preserved : goal.loop-wanted-preserved
loop-wanted-preserved c = λ back f.
    let t = c.loop-wanted-test.true in
    fronts_next c.loop-wanted.rest.now c.in-Some.node.now c.in-Some.tail.now back c.loop-wanted.wanted (c.loop-wanted.wanted - 1) (c.loop-wanted.wanted - 1 + c.arguments-more.result) c.in-Some.ensures.cases.0 (omega arith) (let a = c.arguments-more.ensures in omega arith) (c.loop-wanted.invariant back f)

pub returns : goal.returns
returns c = λ ts back e k.
    let f = fronts_of c.args.nodes.now back c.args.terms c.loop-wanted.rest.now c.loop-wanted.wanted c.loop-wanted.invariant ts e k in
    fronts_none c.loop-wanted.rest.now back (record { terms = f.terms; nodes_are = f.nodes_are; count_is = (let z = f.count_is in let t = c.loop-wanted-test.false in omega arith) })
