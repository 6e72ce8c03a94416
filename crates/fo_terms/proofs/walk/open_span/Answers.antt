use Rattle.std.proofs.Common.{ℕ, suc, ◌+◌, ◌-◌, ◌≡◌, ◌<◌, ◌≤◌, arith, add-one, List}
use Rattle.fo_terms.specs.declared.term.FoNode.{FoNode}
use Rattle.fo_terms.specs.declared.term.FoNode.TheVariants.{Sym}
use Rattle.fo_terms.specs.Terms.{count}
use Rattle.fo_terms.specs.Places.{terms_at}
use Rattle.fo_terms.specs.Bindings.{solution, pending}
use Rattle.fo_terms.proofs.AtPlaces.{below_length}
use Rattle.fo_terms.proofs.Walking.{open-variable, open-symbol, count-behind}
use Rattle.fo_terms.proofs.walk.open_span.Goals as goal

pub resolve-here-requires-clause-inside : goal.resolve-here-requires-clause-inside
resolve-here-requires-clause-inside c = below_length c.args.places.now.nodes.items c.args.span.at (let s = c.requires.span.some in let w = c.requires.span.within in omega arith)

pub behind-requires-clause-inside : goal.behind-requires-clause-inside
behind-requires-clause-inside c = below_length c.args.places.now.nodes.items c.args.span.at (let s = c.requires.span.some in let w = c.requires.span.within in omega arith)

pub resolve-here-requires-clause-bindings : goal.resolve-here-requires-clause-bindings
resolve-here-requires-clause-bindings c = record { inside = c.requires.bindings.inside; once = c.requires.bindings.once; ordered = c.requires.bindings.ordered }

enough : (n k : ℕ) → 0 < n → n ≤ k → suc (n - 1) ≤ k
enough n k s w = omega arith

pub returns-in-Var-clause-spans : goal.returns-in-Var-clause-spans
returns-in-Var-clause-spans c =
    let ns : List FoNode = c.args.places.now.nodes.items in
    c.in_ok-push_span.ensures.within ns (count-behind ns c.args.span.at c.behind.result (c.args.span.count - 1) (enough c.args.span.count (count (terms_at ns c.args.span.at)) c.requires.span.some c.requires.span.within) c.behind.ensures.reads) c.requires.spans

pub returns-in-Var-clause-node : goal.returns-in-Var-clause-node
returns-in-Var-clause-node c =
    let ns : List FoNode = c.args.places.now.nodes.items in
    let s = solution ns c.args.bindings.now.made.items in
    let l = c.requires.span.some in
    let one : c.args.span.count ≡ suc (c.args.span.count - 1) = omega arith in
    rw one (open-variable ns s c.args.span.at c.resolve-here.result c.behind.result (c.args.span.count - 1) (pending ns s c.args.spans.now.items) (pending ns s c.push_span.new.spans.items)
    (enough c.args.span.count (count (terms_at ns c.args.span.at)) c.requires.span.some c.requires.span.within) c.behind.ensures.reads (c.resolve-here.ensures.same s c.requires.bindings.bound) (c.in_ok-push_span.ensures.pending ns s)
    c.in-Var.variable c.in-Var.ensures (c.requires.bindings.free c.in-Var.variable (c.resolve-here.ensures.resolved c.in-Var.variable c.in-Var.ensures)))

pub returns-in_ok-push_span-in-Sym-clause-spans : goal.returns-in_ok-push_span-in-Sym-clause-spans
returns-in_ok-push_span-in-Sym-clause-spans c =
    let ns : List FoNode = c.args.places.now.nodes.items in
    let first = c.in_ok-push_span.ensures.within ns (count-behind ns c.args.span.at c.behind.result (c.args.span.count - 1) (enough c.args.span.count (count (terms_at ns c.args.span.at)) c.requires.span.some c.requires.span.within) c.behind.ensures.reads) c.requires.spans in
    let full : c.in-Sym.arguments ≤ count (terms_at ns (c.resolve-here.result + 1)) = rw add-one (c.requires.places.full c.resolve-here.result (Sym c.in-Sym.symbol c.in-Sym.arguments) c.in-Sym.ensures) in
    c.in_ok-push_span-in-Sym.ensures.within ns full first

pub returns-in_ok-push_span-in-Sym-clause-node : goal.returns-in_ok-push_span-in-Sym-clause-node
returns-in_ok-push_span-in-Sym-clause-node c =
    let ns : List FoNode = c.args.places.now.nodes.items in
    let s = solution ns c.args.bindings.now.made.items in
    let l = c.requires.span.some in
    let one : c.args.span.count ≡ suc (c.args.span.count - 1) = omega arith in
    rw one ((open-symbol ns s c.args.span.at c.resolve-here.result c.behind.result (c.args.span.count - 1) (pending ns s c.args.spans.now.items) (pending ns s c.push_span.new.spans.items)
    (enough c.args.span.count (count (terms_at ns c.args.span.at)) c.requires.span.some c.requires.span.within) c.behind.ensures.reads (c.resolve-here.ensures.same s c.requires.bindings.bound) (c.in_ok-push_span.ensures.pending ns s)
    c.in-Sym.symbol c.in-Sym.arguments (pending ns s c.push_span-in-Sym.new.spans.items) c.in-Sym.ensures (c.requires.places.full c.resolve-here.result (Sym c.in-Sym.symbol c.in-Sym.arguments) c.in-Sym.ensures)
    (rw add-one at (c.in_ok-push_span-in-Sym.ensures.pending ns s))).0)

pub returns-in_ok-push_span-in-Sym-clause-arguments : goal.returns-in_ok-push_span-in-Sym-clause-arguments
returns-in_ok-push_span-in-Sym-clause-arguments c =
    let ns : List FoNode = c.args.places.now.nodes.items in
    let s = solution ns c.args.bindings.now.made.items in
    (open-symbol ns s c.args.span.at c.resolve-here.result c.behind.result (c.args.span.count - 1) (pending ns s c.args.spans.now.items) (pending ns s c.push_span.new.spans.items)
    (enough c.args.span.count (count (terms_at ns c.args.span.at)) c.requires.span.some c.requires.span.within) c.behind.ensures.reads (c.resolve-here.ensures.same s c.requires.bindings.bound) (c.in_ok-push_span.ensures.pending ns s)
    c.in-Sym.symbol c.in-Sym.arguments (pending ns s c.push_span-in-Sym.new.spans.items) c.in-Sym.ensures (c.requires.places.full c.resolve-here.result (Sym c.in-Sym.symbol c.in-Sym.arguments) c.in-Sym.ensures)
    (rw add-one at (c.in_ok-push_span-in-Sym.ensures.pending ns s))).1
