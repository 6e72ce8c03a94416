use Rattle.std.proofs.Common.{◌∙◌, ap, sym, length, List}
use Rattle.fo_terms.specs.declared.term.FoNode.{FoNode}
use Rattle.fo_terms.specs.declared.bindings.Binding.{Binding}
use Rattle.fo_terms.specs.Substitutions.{apply}
use Rattle.fo_terms.specs.Places.{term_at}
use Rattle.fo_terms.specs.Bindings.{IsSolution}
use Rattle.fo_terms.proofs.AtPlaces.{StandsIn-append}
use Rattle.fo_terms.proofs.Unifying.{image-general, image-idempotent, image-once}
use Rattle.fo_terms.proofs.unify.unify.Goals as goal

pub solution-requires-clause-left : goal.solution-requires-clause-left
solution-requires-clause-left c = (StandsIn-append c.in_ok-places.places.nodes.items c.nodes-right.result.now c.args.first.now c.args.second.now c.in_ok-places.ensures.nodes c.nodes-right.ensures).first_inside

pub solution-requires-clause-right : goal.solution-requires-clause-right
solution-requires-clause-right c = (StandsIn-append c.in_ok-places.places.nodes.items c.nodes-right.result.now c.args.first.now c.args.second.now c.in_ok-places.ensures.nodes c.nodes-right.ensures).second_inside

pub returns-in-None-clause-refused : goal.returns-in-None-clause-refused
returns-in-None-clause-refused c =
    let stands = StandsIn-append c.in_ok-places.places.nodes.items c.nodes-right.result.now c.args.first.now c.args.second.now c.in_ok-places.ensures.nodes c.nodes-right.ensures in
    let none = rw c.in-None.is at c.in_ok-solution.ensures.solved in
    λ r e. none r (ap (apply r) stands.first ∙ e ∙ sym (ap (apply r) stands.second))

pub returns-clause-most_general : goal.returns-clause-most_general
returns-clause-most_general c =
    let ns : List FoNode = c.in_ok-places.places.nodes.items in
    let bs : List Binding = c.in-Some.bindings.made.items in
    let stands = StandsIn-append ns c.nodes-right.result.now c.args.first.now c.args.second.now c.in_ok-places.ensures.nodes c.nodes-right.ensures in
    let solution : IsSolution ns bs (term_at ns 0) (term_at ns (length c.nodes-right.result.now)) = rw c.in-Some.is at c.in_ok-solution.ensures.solved in
    rw (c.in_ok-pairs-in-Some.ensures, ← stands.first, ← stands.second) (image-general ns bs solution.bindings (term_at ns 0) (term_at ns (length c.nodes-right.result.now)) solution)

pub returns-clause-idempotent : goal.returns-clause-idempotent
returns-clause-idempotent c =
    let ns : List FoNode = c.in_ok-places.places.nodes.items in
    let bs : List Binding = c.in-Some.bindings.made.items in
    let solution : IsSolution ns bs (term_at ns 0) (term_at ns (length c.nodes-right.result.now)) = rw c.in-Some.is at c.in_ok-solution.ensures.solved in
    rw c.in_ok-pairs-in-Some.ensures (image-idempotent ns bs solution.bindings)

pub returns-clause-once : goal.returns-clause-once
returns-clause-once c =
    let ns : List FoNode = c.in_ok-places.places.nodes.items in
    let bs : List Binding = c.in-Some.bindings.made.items in
    let solution : IsSolution ns bs (term_at ns 0) (term_at ns (length c.nodes-right.result.now)) = rw c.in-Some.is at c.in_ok-solution.ensures.solved in
    rw c.in_ok-pairs-in-Some.ensures (image-once ns bs solution.bindings)
