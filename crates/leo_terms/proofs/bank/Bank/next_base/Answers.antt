use Rattle.std.proofs.Common.{rules, arith, ◌+◌, refl}
use Rattle.leo_terms.specs.declared.node.TyView.TheVariants.{Base}
use Rattle.leo_terms.specs.Contents.{Grows, AddsShared}
use Rattle.leo_terms.specs.BankView.{contents_of}
use Rattle.leo_terms.proofs.Growth.{grows_by_type}
use Rattle.leo_terms.proofs.ListLemmas.{AddsShared-insert}
use Rattle.leo_terms.proofs.MemoLemmas.{AreRight-grows}
use Rattle.leo_terms.proofs.FactLemmas.{facts-kept}
use Rattle.leo_terms.proofs.bank.Bank.next_base.Goals as goal
use Rattle.leo_terms.proofs.bank.Bank.next_base.Goals.{In_ok-place}

added_inside : (c : In_ok-place) → AddsShared c.self.inside.types.keys c.add.new.nodes.keys (Base c.self.inside.bases) c.in_ok-place.place
added_inside c =
    let e = c.in_ok-place.ensures in
    AddsShared-insert _ e.reflexive _ _ _ _ _ e.unique e.keys (search rules)

grows_inside : (c : In_ok-place) → Grows (contents_of c.self.inside) (contents_of (record c.self.inside { bases = c.self.inside.bases + 1; types = c.add.new.nodes }))
grows_inside c = grows_by_type (contents_of c.self.inside) (c.self.inside.bases + 1) c.add.new.nodes.keys (Base c.self.inside.bases) c.in_ok-place.place c.self.invariant.sound (omega arith) (added_inside c) (omega arith)

pub invariant_of-self-2 : goal.invariant_of-self-2
invariant_of-self-2 c =
    let at = (goal.at.invariant_of-self-2 c).In_ok-place in
    let g = grows_inside at in
    record { sound = g.new_sound; facts = facts-kept _ _ _ g refl at.self.invariant.facts; right = AreRight-grows _ _ g _ _ _ _ at.self.invariant.right }

pub returns-clause-grows : goal.returns-clause-grows
returns-clause-grows c = rw (← c.self.view_is) (grows_inside (goal.at.returns-clause-grows c).In_ok-place)

pub returns-clause-made : goal.returns-clause-made
returns-clause-made c = rw (← c.self.view_is, c.new.ensures) (added_inside (goal.at.returns-clause-made c).In_ok-place)
