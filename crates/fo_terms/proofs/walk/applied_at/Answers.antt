use Rattle.std.proofs.Common.{suc, ◌≡◌, ◌≤◌, ◌++◌, ◌∷◌, [], arith, sym, ◌∙◌, ap, append_assoc, subst, List}
use Rattle.std.proofs.lemmas.List.{append-nil}
use Rattle.fo_terms.specs.declared.term.FoNode.{FoNode}
use Rattle.fo_terms.specs.Terms.{Term, Terms, none, more, count, size_of_all}
use Rattle.fo_terms.specs.Substitutions.{apply}
use Rattle.fo_terms.specs.Prefix.{prefix, prefix_of_all, with_node, term_of, IsPrefix}
use Rattle.fo_terms.specs.Reading.{term_of-prefix}
use Rattle.fo_terms.specs.Places.{term_at, arguments_of}
use Rattle.fo_terms.specs.Bindings.{solution, pending}
use Rattle.fo_terms.proofs.AtPlaces.{some_at}
use Rattle.fo_terms.proofs.Walking.{pending-start, prefix_of_all-with_node, size_of_all-with_node}
use Rattle.fo_terms.proofs.walk.applied_at.Goals as goal

pub loop-nodes-init : goal.loop-nodes-init
loop-nodes-init c =
    let ns : List FoNode = c.args.places.now.nodes.items in
    let s = solution ns c.args.bindings.now.made.items in
    let begun : pending ns s c.push_span.new.spans.items ≡ more (apply s (term_at ns c.args.place)) none = rw c.new-spans.ensures.items at (c.in_ok-push_span.ensures.pending ns s) ∙ pending-start ns s c.args.place c.requires.inside in (
      c.in_ok-push_span.ensures.within ns (some_at ns c.args.place c.requires.inside) (rw c.new-spans.ensures.items (λ k d h. absurd (omega arith))),
      rw (c.new-nodes.ensures.items, begun) (append-nil (prefix (apply s (term_at ns c.args.place)))),
    )

pub loop-nodes-smaller : goal.loop-nodes-smaller
loop-nodes-smaller c =
    let ns : List FoNode = c.args.places.now.nodes.items in
    let s = solution ns c.args.bindings.now.made.items in
    let step : pending ns s c.loop-nodes.spans.items ≡ with_node c.in-Some.node (pending ns s c.next_node.new.spans.items) = rw c.in-Some.is at c.in_ok-node.ensures.node in
    let one : size_of_all (pending ns s c.loop-nodes.spans.items) ≡ suc (size_of_all (pending ns s c.next_node.new.spans.items)) = ap size_of_all step ∙ size_of_all-with_node c.in-Some.node (pending ns s c.next_node.new.spans.items) in
    omega arith

along : (out : List FoNode) (n : FoNode) (old new : Terms) (whole : List FoNode) → out ++ prefix_of_all old ≡ whole → old ≡ with_node n new → arguments_of n ≤ count new → (out ++ n ∷ []) ++ prefix_of_all new ≡ whole
along out n old new whole h e l = append_assoc out (n ∷ []) (prefix_of_all new) ∙ ap (λ (ms : List FoNode). out ++ ms) (sym (ap prefix_of_all e ∙ prefix_of_all-with_node n new l)) ∙ h

pub loop-nodes-preserved : goal.loop-nodes-preserved
loop-nodes-preserved c =
    let ns : List FoNode = c.args.places.now.nodes.items in
    let s = solution ns c.args.bindings.now.made.items in
    let step : pending ns s c.loop-nodes.spans.items ≡ with_node c.in-Some.node (pending ns s c.next_node.new.spans.items) = rw c.in-Some.is at c.in_ok-node.ensures.node in
    let enough : arguments_of c.in-Some.node ≤ count (pending ns s c.next_node.new.spans.items) = rw c.in-Some.is at c.in_ok-node.ensures.arguments in (
      c.in_ok-node.ensures.spans,
      rw c.in_ok-push.ensures.items (along c.loop-nodes.nodes.items c.in-Some.node (pending ns s c.loop-nodes.spans.items) (pending ns s c.next_node.new.spans.items) (prefix (apply s (term_at ns c.args.place))) c.loop-nodes.invariant.1 step enough),
    )

ended : (out : List FoNode) (rest : Terms) (t : Term) → out ++ prefix_of_all rest ≡ prefix t → rest ≡ none → out ≡ prefix t
ended out rest t h e = sym (append-nil out) ∙ ap (λ (ts : Terms). out ++ prefix_of_all ts) (sym e) ∙ h

pub invariant_of-result : goal.invariant_of-result
invariant_of-result c =
    let ns : List FoNode = c.args.places.now.nodes.items in
    let s = solution ns c.args.bindings.now.made.items in
    let t : Term = apply s (term_at ns c.args.place) in
    let over : pending ns s c.loop-nodes.spans.items ≡ none = rw c.in_default.is at c.in_ok-node.ensures.end in
    let whole : c.loop-nodes.nodes.items ≡ prefix t = ended c.loop-nodes.nodes.items (pending ns s c.loop-nodes.spans.items) t c.loop-nodes.invariant.1 over in
    subst IsPrefix (sym whole) (ap prefix (term_of-prefix t))

pub returns : goal.returns
returns c =
    let ns : List FoNode = c.args.places.now.nodes.items in
    let s = solution ns c.args.bindings.now.made.items in
    let t : Term = apply s (term_at ns c.args.place) in
    let over : pending ns s c.loop-nodes.spans.items ≡ none = rw c.in_default.is at c.in_ok-node.ensures.end in
    let whole : c.loop-nodes.nodes.items ≡ prefix t = ended c.loop-nodes.nodes.items (pending ns s c.loop-nodes.spans.items) t c.loop-nodes.invariant.1 over in
    ap term_of whole ∙ term_of-prefix t
