use Rattle.std.proofs.Common.{◌∙◌, ap, map, refl, sym}
use Rattle.std.specs.List.{flat_map}
use Rattle.leo_terms.specs.Contents.{tree_at}
use Rattle.leo_terms.proofs.CallerLemmas.{extends-itself, extends-trans, tree-kept}
use Rattle.leo_clause.specs.Trees.{clause_at}
use Rattle.leo_kernel.proofs.Growing.{clause-kept}
use Rattle.leo_para.specs.Places.{places}
use Rattle.leo_para.specs.Spines.{head}
use Rattle.leo_ext.specs.Members.{choice_for}
use Rattle.leo_ext.proofs.Adding.{adds-as, adds-both, adds-nothing, typed-grow}
use Rattle.leo_ext.proofs.ChoiceMembers.{truths-kept, within-at, within-kept}
use Rattle.leo_ext.proofs.Loops.{flat_map-next, take-all}
use Rattle.leo_ext.proofs.PlaceTerms.{flat_map-terms}
use Rattle.leo_ext.proofs.choice.put_choice_side.Goals as goal

pub returns-in_err-terms-clause-grows : goal.returns-in_err-terms-clause-grows
returns-in_err-terms-clause-grows c = extends-itself c.is_sound.ensures.sound

pub loop-t-init : goal.loop-t-init
loop-t-init c = adds-nothing (extends-itself c.is_sound.ensures.sound) c.args.dues.now.items

pub put_choice_in-requires-clause-truths : goal.put_choice_in-requires-clause-truths
put_choice_in-requires-clause-truths c = truths-kept c.loop-t.invariant.extends c.args.truths.now c.requires.truths

pub put_choice_in-requires-clause-clause : goal.put_choice_in-requires-clause-clause
put_choice_in-requires-clause-clause c = typed-grow c.loop-t.invariant.extends c.args.clause.now c.requires.clause

pub put_choice_in-requires-clause-term : goal.put_choice_in-requires-clause-term
put_choice_in-requires-clause-term c = within-kept c.loop-t.invariant.extends c.t-item.result (within-at c.args.bank.now c.in_ok-terms.terms.items c.in_ok-terms.ensures.terms c.loop-t.t-index c.t-item.result (rw c.as_slice-t-items.ensures.value at c.loop-t-test.true) (rw c.as_slice-t-items.ensures.value at c.t-item.is))

pub returns-in_err-put_choice_in-clause-grows : goal.returns-in_err-put_choice_in-clause-grows
returns-in_err-put_choice_in-clause-grows c = extends-trans c.loop-t.invariant.extends c.put_choice_in.ensures.grows

pub loop-t-preserved : goal.loop-t-preserved
loop-t-preserved c =
    let e = c.loop-t.invariant.extends in
    let w = within-at c.args.bank.now c.in_ok-terms.terms.items c.in_ok-terms.ensures.terms c.loop-t.t-index c.t-item.result (rw c.as_slice-t-items.ensures.value at c.loop-t-test.true) (rw c.as_slice-t-items.ensures.value at c.t-item.is) in
    adds-as c.args.dues.now.items c.put_choice_in.new.dues.items _ _ (adds-both c.args.dues.now.items c.loop-t.dues.items c.put_choice_in.new.dues.items _ _ c.loop-t.invariant (adds-as c.loop-t.dues.items c.put_choice_in.new.dues.items _ _ c.in_ok-put_choice_in.ensures.adds (rw (clause-kept e c.args.clause.now c.requires.clause.of_bank, tree-kept e c.t-item.result w) refl)))
    (sym (flat_map-next (tree_at c.args.bank.now) (λ t. choice_for c.args.before (clause_at c.args.bank.now c.args.clause.now) (head t)) c.as_slice-t-items.result.now c.loop-t.t-index c.t-item.result c.loop-t-test.true c.t-item.is))

pub returns-clause-adds : goal.returns-clause-adds
returns-clause-adds c =
    adds-as c.args.dues.now.items c.loop-t.dues.items _ _ c.loop-t.invariant
    (ap (λ ts. flat_map (λ t. choice_for c.args.before (clause_at c.args.bank.now c.args.clause.now) (head t)) (map (tree_at c.args.bank.now) ts)) (take-all c.as_slice-t-items.result.now c.loop-t.t-index c.loop-t-test.false ∙ c.as_slice-t-items.ensures.value)
    ∙ ap (flat_map (λ t. choice_for c.args.before (clause_at c.args.bank.now c.args.clause.now) (head t))) c.in_ok-terms.ensures.places
    ∙ flat_map-terms (λ t. choice_for c.args.before (clause_at c.args.bank.now c.args.clause.now) (head t)) (places (tree_at c.args.bank.now c.args.side)))

pub returns-clause-grows : goal.returns-clause-grows
returns-clause-grows c = c.loop-t.invariant.extends
