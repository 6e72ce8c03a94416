use Rattle.std.proofs.Common.{◌≡◌, ◌++◌, ◌∙◌, ap, sym, subst, List, true, false, Bool}
use Rattle.std.specs.Prelude.{reverse, IsTrue, ◌↔◌}
use Rattle.std.proofs.lemmas.List.{append-nil}
use Rattle.fo_terms.specs.declared.term.FoNode.{FoNode}
use Rattle.fo_terms.specs.Prefix.{prefix_of_all}
use Rattle.fo_replay.specs.Parts.{Fill}
use Rattle.fo_replay.specs.Instances.{AreNodesOf}
use Rattle.fo_replay.proofs.SortsOfNodes.{fill_terms}
use Rattle.fo_replay.proofs.Instancing.{typed_found, typed_nodes_there, typed_filled}
use Rattle.fo_replay.proofs.instance.typed_terms.Goals as goal

no_true : {A : Type 0} (b : Bool) → IsTrue b ↔ A → b ≡ false → A → ⊥
no_true b h e a = let t : b ≡ true = h.1 a in let u : true ≡ false = sym t ∙ e in cc

pub returns-in_default : goal.returns-in_default
returns-in_default c = λ ts e h.
    let never : (ns : List FoNode) → AreNodesOf c.args.syms.now c.args.words.now ns → ⊥ = rw c.in_default.is at c.in_ok-nodes.ensures in
    never (prefix_of_all ts) (typed_nodes_there c.args.vars.now c.args.syms.now c.args.wanted.now c.args.words.now ts e h)

pub returns-then-not-branch : goal.returns-then-not-branch
returns-then-not-branch c = λ ts e h.
    let is : AreNodesOf c.args.syms.now c.args.words.now c.in-Some.nodes.items = rw c.in-Some.is at c.in_ok-nodes.ensures in
    let w : reverse c.push_sorts.new.wants.items ≡ c.args.wanted.now = c.in_ok-push_sorts.ensures ∙ ap (λ u. c.args.wanted.now ++ reverse u) c.new-wants.ensures.items ∙ append-nil c.args.wanted.now in
    let f = typed_filled c.args.vars.now c.args.syms.now c.args.wanted.now c.args.words.now c.in-Some.nodes.items ts is e h in
    no_true c.in_ok-fill.field-0 c.in_ok-fill.ensures c.if-not-branch.true (subst (λ u. Fill c.args.vars.now c.args.syms.now u c.deref.result.now) (sym w) (subst (Fill c.args.vars.now c.args.syms.now c.args.wanted.now) (sym c.deref.ensures.value) f))

pub terms_of-requires : goal.terms_of-requires
terms_of-requires c =
    let f = c.in_ok-fill.ensures.0 c.if-not-branch.false in
    let t = fill_terms c.args.vars.now c.args.syms.now (reverse c.push_sorts.new.wants.items) c.deref.result.now f in
    (t.0, c.deref-2.ensures.value ∙ sym c.deref.ensures.value ∙ sym t.1)

pub returns : goal.returns
returns c =
    let is : AreNodesOf c.args.syms.now c.args.words.now c.in-Some.nodes.items = rw c.in-Some.is at c.in_ok-nodes.ensures in
    let w : reverse c.push_sorts.new.wants.items ≡ c.args.wanted.now = c.in_ok-push_sorts.ensures ∙ ap (λ u. c.args.wanted.now ++ reverse u) c.new-wants.ensures.items ∙ append-nil c.args.wanted.now in
    let f = c.in_ok-fill.ensures.0 c.if-not-branch.false in
    let g : Fill c.args.vars.now c.args.syms.now c.args.wanted.now c.in-Some.nodes.items = subst (λ u. Fill c.args.vars.now c.args.syms.now u c.in-Some.nodes.items) w (subst (Fill c.args.vars.now c.args.syms.now (reverse c.push_sorts.new.wants.items)) c.deref.ensures.value f) in
    typed_found c.args.vars.now c.args.syms.now c.args.wanted.now c.args.words.now c.in-Some.nodes.items c.in_ok-list.list is g (c.in_ok-list.ensures ∙ c.deref-2.ensures.value)
