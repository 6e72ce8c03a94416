use Rattle.std.proofs.Common.{List, ℕ, ◌∙◌}
use Rattle.fo_terms.specs.declared.term.FoNode.{FoNode}
use Rattle.fo_terms.specs.declared.bindings.Binding.{Binding}
use Rattle.fo_terms.specs.declared.solve.Step.TheVariants.{Split, Clash, Bind, Open}
use Rattle.fo_terms.specs.Places.{term_at}
use Rattle.fo_terms.specs.Solving.{IsSettled}
use Rattle.fo_terms.proofs.Unifying.{round-solved, round-clash, round-bound, round-open}
use Rattle.fo_terms.proofs.unify.next_round.Goals as goal

pub returns-in-Split-clause-round : goal.returns-in-Split-clause-round
returns-in-Split-clause-round c =
    let ns : List FoNode = c.args.places.now.nodes.items in
    let bs : List Binding = c.args.bindings.now.made.items in
    let ps : List ℕ = c.args.classes.now.parents.items in
    let settled : IsSettled ns bs ps c.args.work.now.items c.settle.new.work.items Split = rw c.in-Split.is at c.in_ok-settle.ensures in
    round-solved ns bs ps (term_at ns 0) (term_at ns c.args.right) c.args.work.now.items c.settle.new.work.items c.requires.state c.requires.bindings settled

pub returns-in-Clash-clause-round : goal.returns-in-Clash-clause-round
returns-in-Clash-clause-round c =
    let ns : List FoNode = c.args.places.now.nodes.items in
    let bs : List Binding = c.args.bindings.now.made.items in
    let ps : List ℕ = c.args.classes.now.parents.items in
    let settled : IsSettled ns bs ps c.args.work.now.items c.settle.new.work.items Clash = rw c.in-Clash.is at c.in_ok-settle.ensures in
    round-clash ns bs ps (term_at ns 0) (term_at ns c.args.right) c.args.work.now.items c.settle.new.work.items c.requires.state settled

pub returns-in_ok-bind-in-Bind-clause-round : goal.returns-in_ok-bind-in-Bind-clause-round
returns-in_ok-bind-in-Bind-clause-round c =
    let ns : List FoNode = c.args.places.now.nodes.items in
    let bs : List Binding = c.args.bindings.now.made.items in
    let ps : List ℕ = c.args.classes.now.parents.items in
    let settled : IsSettled ns bs ps c.args.work.now.items c.settle.new.work.items (Bind c.in-Bind.binding) = rw c.in-Bind.is at c.in_ok-settle.ensures in
    rw c.in_ok-bind-in-Bind.ensures.made (round-bound ns bs ps (term_at ns 0) (term_at ns c.args.right) c.args.work.now.items c.settle.new.work.items c.requires.state c.in-Bind.binding settled c.requires.bindings c.requires.forest c.requires.as_long)

pub returns-in_ok-push-in-Open-clause-round : goal.returns-in_ok-push-in-Open-clause-round
returns-in_ok-push-in-Open-clause-round c =
    let ns : List FoNode = c.args.places.now.nodes.items in
    let bs : List Binding = c.args.bindings.now.made.items in
    let ps : List ℕ = c.args.classes.now.parents.items in
    let settled : IsSettled ns bs ps c.args.work.now.items c.settle.new.work.items (Open c.in-Open.opening) = rw c.in-Open.is at c.in_ok-settle.ensures in
    rw c.in_ok-push-in-Open.ensures.items
    (round-open ns bs ps (term_at ns 0) (term_at ns c.args.right) c.args.work.now.items c.settle.new.work.items c.requires.state c.in-Open.opening settled c.join.new.self.parents.items c.join.ensures.from c.join.ensures.back
    c.requires.bindings c.requires.places.full c.join.ensures.forest (c.join.ensures.as_long ∙ c.requires.as_long) c.join.ensures.fewer)
