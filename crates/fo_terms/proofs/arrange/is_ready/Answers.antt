use Rattle.std.proofs.Common.{ℕ, ◌+◌, ◌≡◌, ◌<◌, ◌≤◌, true, List, Some, refl, sym, ◌∙◌, arith, ◌⊎◌, inl, inr}
use Rattle.std.specs.Prelude.{slice_get, Bool}
use Rattle.fo_terms.specs.declared.term.FoNode.{FoNode}
use Rattle.fo_terms.specs.declared.term.FoNode.TheVariants.{Var}
use Rattle.fo_terms.specs.declared.bindings.Binding.{Binding}
use Rattle.fo_terms.specs.Bindings.{IsBoundAt, IsResolved, AreMade}
use Rattle.fo_terms.proofs.Arranging.{ready_from, blocked_at}
use Rattle.fo_terms.proofs.arrange.is_ready.Goals as goal
use Rattle.fo_terms.proofs.arrange.is_ready.Goals.{in-Some+else-not-is_marked, in_default}

pub returns-then-not-is_marked-clause-blocked : goal.returns-then-not-is_marked-clause-blocked
returns-then-not-is_marked-clause-blocked c e =
    blocked_at c.args.places.now.nodes.items c.args.bindings.now.made.items c.args.marks.now c.args.at c.behind-here-end.result c.loop-here.here c.in-Some.number c.requires.places.full c.behind-here-end.ensures
    c.loop-here.auto.here c.loop-here-test.true c.in-Some.ensures c.if-not-is_marked.ensures

last_or_before : (p n : ℕ) → p < n + 1 → (p < n) ⊎ (p ≡ n)
last_or_before p n h = grind arith

same_variable : (v w : ℕ) → Some (Var v) ≡ Some (Var w) → v ≡ w
same_variable v w e = cc

marked_once : (ns : List FoNode) (bs : List Binding) (marks : List Bool) (g : AreMade ns bs) (k n p : ℕ) → IsBoundAt ns bs k p → IsBoundAt ns bs n p → slice_get marks n ≡ Some true → slice_get marks k ≡ Some true
marked_once ns bs marks g k n p h i m =
    let same : k ≡ n = g.once k n h.0 i.0 h.1 i.1 (same_variable h.0.variable i.0.variable (sym h.2 ∙ i.2)) in
    rw same m

pub loop-here-preserved : goal.loop-here-preserved
loop-here-preserved c p k l u h =
    elim (last_or_before p c.loop-here.here u) [
      | inl b ↦ c.loop-here.invariant p k l b h
      | inr e ↦ (let here : IsBoundAt c.args.places.now.nodes.items c.args.bindings.now.made.items k c.loop-here.here = rw e at h in
          elim c.match-number_at.branch [
            | in-Some+else-not-is_marked w ↦ marked_once c.args.places.now.nodes.items c.args.bindings.now.made.items c.args.marks.now c.requires.bindings k w.in-Some.number c.loop-here.here here w.in-Some.ensures w.if-not-is_marked.ensures
            | in_default w ↦ (let free : IsResolved c.args.places.now.nodes.items c.args.bindings.now.made.items c.loop-here.here = w.in_default.ensures in absurd (free here.0.variable here.2 k here.0 here.1 refl))
          ])
    ]

pub returns-clause-ready : goal.returns-clause-ready
returns-clause-ready c e =
    let over : c.behind-here-end.result ≤ c.loop-here.here = c.loop-here-test.false in
    ready_from c.args.places.now.nodes.items c.args.bindings.now.made.items c.args.marks.now c.args.at c.behind-here-end.result c.requires.places.full c.behind-here-end.ensures
    (λ p k l u h. c.loop-here.invariant p k l (omega arith) h)
