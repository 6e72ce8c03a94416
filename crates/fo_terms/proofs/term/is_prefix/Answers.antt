use Rattle.std.proofs.Common.{suc, ◌+◌, ◌-◌, ◌≡◌, ◌<◌, ◌≤◌, length, arith, sym, ◌∙◌, refl, ap, List, rules}
use Rattle.std.proofs.lemmas.Option.{slice_get_within}
use Rattle.fo_terms.specs.declared.term.FoNode.{FoNode}
use Rattle.fo_terms.specs.Terms.{count}
use Rattle.fo_terms.specs.Places.{terms_at, arguments_of, IsFullFrom}
use Rattle.fo_terms.proofs.AtPlaces.{terms_at-past, IsFullFrom-before, count-with_node, IsPrefix-from, IsPrefix-full, IsPrefix-count}
use Rattle.fo_terms.proofs.term.is_prefix.Goals as goal

pub loop-at-init : goal.loop-at-init
loop-at-init c =
    let ns : List FoNode = c.args.nodes.now in
    let all : length ns ≤ length ns = omega arith in (
      all,
      sym (ap count (terms_at-past ns (length ns) all)),
      (λ i n from at. let inside : i < length ns = slice_get_within ns i n at in absurd (omega arith)),
      omega arith,
    )

pub loop-at-preserved : goal.loop-at-preserved
loop-at-preserved c =
    let ns : List FoNode = c.args.nodes.now in
    let one : c.loop-at.at ≡ suc (c.loop-at.at - 1) = omega arith in
    let below : c.loop-at.terms ≡ count (terms_at ns (suc (c.loop-at.at - 1))) = rw one at c.loop-at.invariant.1 in
    let full : IsFullFrom (suc (c.loop-at.at - 1)) ns = rw one at c.loop-at.invariant.2 in
    let arguments : arguments_of c.node_at.result ≤ c.loop-at.terms = c.in-Some.ensures.0 in
    let more : c.in-Some.more + arguments_of c.node_at.result ≡ c.loop-at.terms + 1 = c.in-Some.ensures.1 in
    let enough : arguments_of c.node_at.result ≤ count (terms_at ns (suc (c.loop-at.at - 1))) = omega arith in
    let counted : count (terms_at ns (c.loop-at.at - 1)) + arguments_of c.node_at.result ≡ count (terms_at ns (suc (c.loop-at.at - 1))) + 1 = count-with_node ns (c.loop-at.at - 1) c.node_at.result c.node_at.ensures enough in
    let room = c.loop-at.invariant.3 in (
      omega arith,
      omega arith,
      IsFullFrom-before ns (c.loop-at.at - 1) c.node_at.result full c.node_at.ensures enough,
      omega arith,
    )

pub returns-in-None : goal.returns-in-None
returns-in-None c =
    let ns : List FoNode = c.args.nodes.now in
    let one : c.loop-at.at ≡ suc (c.loop-at.at - 1) = omega arith in
    let below : c.loop-at.terms ≡ count (terms_at ns (suc (c.loop-at.at - 1))) = rw one at c.loop-at.invariant.1 in
    let few : c.loop-at.terms < arguments_of c.node_at.result = c.in-None.ensures in (
      (λ t. cc),
      (λ p. let enough = IsPrefix-full ns p (c.loop-at.at - 1) c.node_at.result c.node_at.ensures in absurd (omega arith)),
    )

pub returns : goal.returns
returns c =
    let ns : List FoNode = c.args.nodes.now in
    let start : c.loop-at.at ≡ 0 = omega arith in
    let counted : c.loop-at.terms ≡ count (terms_at ns 0) = rw start at c.loop-at.invariant.1 in (
      (λ t. let e : c.loop-at.terms ≡ 1 = search rules in IsPrefix-from ns (rw start at c.loop-at.invariant.2) (sym counted ∙ e)),
      (λ p. let e : c.loop-at.terms ≡ 1 = counted ∙ IsPrefix-count ns p in rw e refl),
    )
