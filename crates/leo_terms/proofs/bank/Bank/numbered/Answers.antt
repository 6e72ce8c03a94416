use Rattle.std.proofs.Common.{sym, subst, length}
use Rattle.leo_terms.specs.Contents.{Contents, Grows, AddsShared, IsSoundNode, IsTerm, view_tree, type_at, tree_at, node}
use Rattle.leo_terms.specs.BankView.{contents_of}
use Rattle.leo_terms.proofs.Growth.{grows_by_term, IsTerm-added}
use Rattle.leo_terms.proofs.ListLemmas.{AddsShared-insert}
use Rattle.leo_terms.proofs.NodeEq.{node_same}
use Rattle.leo_terms.specs.KeptFacts.{AreFactsOf, AreFacts}
use Rattle.leo_terms.proofs.FactLemmas.{facts-added, facts-refused, sound-part}
use Rattle.leo_terms.proofs.MemoLemmas.{AreRight-grows}
use Rattle.leo_terms.proofs.bank.Bank.numbered.Goals as goal
use Rattle.leo_terms.proofs.bank.Bank.numbered.Goals.{In_ok-place}

added_inside : (c : In_ok-place) → AddsShared c.self.inside.terms.keys c.add_with_facts.new.nodes.keys (node c.args.view c.args.ty) c.in_ok-place.place
added_inside c =
    let e = c.in_ok-place.ensures in
    AddsShared-insert _ e.reflexive _ _ _ _ _ e.unique e.keys (rw (node_same (node c.args.view c.args.ty) e.stored.0 e.stored.2) e.stored.1)

grows_inside : (c : In_ok-place) → Grows (contents_of c.self.inside) (contents_of (record c.self.inside { terms = c.add_with_facts.new.nodes }))
grows_inside c = grows_by_term (contents_of c.self.inside) c.add_with_facts.new.nodes.keys (node c.args.view c.args.ty) c.in_ok-place.place c.self.invariant.sound c.in_ok-place.ensures.fits (added_inside c) (subst (λ (v : Contents). IsSoundNode v (length v.terms) (node c.args.view c.args.ty)) (sym c.self.view_is) c.requires)

facts_inside : (c : In_ok-place) → AreFacts (contents_of (record c.self.inside { terms = c.add_with_facts.new.nodes })) c.add_with_facts.new.facts.items
facts_inside c =
    let s = subst (λ (v : Contents). IsSoundNode v (length v.terms) (node c.args.view c.args.ty)) (sym c.self.view_is) c.requires in
    let k = subst (λ (v : Contents). AreFactsOf (view_tree v (tree_at v) c.args.view (type_at v c.args.ty)) c.facts_of-facts.result) (sym c.self.view_is) (c.facts_of-facts.ensures (type_at c.args.self.now c.args.ty)) in
    rw c.add_with_facts.ensures.facts (facts-added (contents_of c.self.inside) (contents_of (record c.self.inside { terms = c.add_with_facts.new.nodes })) c.self.inside.facts.items c.facts_of-facts.result c.args.view c.args.ty (grows_inside c) s c.self.invariant.facts k _ c.in_ok-place.ensures.keys)

pub facts_of-facts-requires : goal.facts_of-facts-requires
facts_of-facts-requires c = λ i p. sound-part c.args.self.now (length c.args.self.now.terms) c.args.view c.args.ty c.requires.view_sound i p

pub invariant_of-self-2 : goal.invariant_of-self-2
invariant_of-self-2 c =
    let at = (goal.at.invariant_of-self-2 c).In_ok-place in
    let g = grows_inside at in
    record { sound = g.new_sound; facts = facts_inside at; right = AreRight-grows _ _ g _ _ _ _ at.self.invariant.right }

pub returns-clause-grows : goal.returns-clause-grows
returns-clause-grows c = rw (← c.self.view_is) (grows_inside (goal.at.returns-clause-grows c).In_ok-place)

pub returns-clause-added : goal.returns-clause-added
returns-clause-added c = rw (← c.self.view_is, c.new.ensures) (added_inside (goal.at.returns-clause-added c).In_ok-place)

made_inside : (c : In_ok-place) → IsTerm (contents_of (record c.self.inside { terms = c.add_with_facts.new.nodes })) c.in_ok-place.place c.args.ty (view_tree (contents_of c.self.inside) (tree_at (contents_of c.self.inside)) c.args.view (type_at (contents_of c.self.inside) c.args.ty))
made_inside c = IsTerm-added (contents_of c.self.inside) (contents_of (record c.self.inside { terms = c.add_with_facts.new.nodes })) (grows_inside c) c.args.view c.args.ty (subst (λ (v : Contents). IsSoundNode v (length v.terms) (node c.args.view c.args.ty)) (sym c.self.view_is) c.requires) c.in_ok-place.place (added_inside c).stored

pub returns-clause-made : goal.returns-clause-made
returns-clause-made c = rw (← c.self.view_is, c.new.ensures) (made_inside (goal.at.returns-clause-made c).In_ok-place)
