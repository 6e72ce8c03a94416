use Rattle.std.proofs.Common.{◌≡◌, ◌∙◌, ◌<◌, false, length, refl, ap}
use Rattle.leo_terms.specs.Contents.{tree_at}
use Rattle.leo_clause.specs.Trees.{literal_at}
use Rattle.leo_kernel.specs.Shapes.{side_of, other_side_of}
use Rattle.leo_kernel.proofs.TypedLits.{literals-at}
use Rattle.leo_kernel.proofs.Lookups.{side-within}
use Rattle.leo_kernel.proofs.Paramodulating.{side-reads, other-reads, old-leads, joins-decide, joins-short, joins-differ, joins-nowhere, last-reads}
use Rattle.leo_kernel.proofs.paramodulation.joins.Goals as goal

pub returns-then-lits-new_place : goal.returns-then-lits-new_place
returns-then-lits-new_place c = joins-short c.args.bank.now c.is_sound.ensures.sound c.args.source.now c.args.target.now c.args.lits.now c.args.place c.args.target_place c.requires.place c.requires.target_place c.requires.source c.requires.target c.requires.lits c.args.lit.now c.args.side c.args.target_side c.args.path.now c.index-target-target_place.result c.index-target-target_place.is c.requires.leads _ refl c.if-lits-new_place.true

pub is_replaced_in-requires-clause-left : goal.is_replaced_in-requires-clause-left
is_replaced_in-requires-clause-left c = (literals-at c.args.bank.now c.args.target.now c.requires.target c.args.target_place c.index-target-target_place.result c.requires.target_place c.index-target-target_place.is).0

pub is_replaced_in-requires-clause-right : goal.is_replaced_in-requires-clause-right
is_replaced_in-requires-clause-right c = (literals-at c.args.bank.now c.args.target.now c.requires.target c.args.target_place c.index-target-target_place.result c.requires.target_place c.index-target-target_place.is).1

pub is_replaced_in-requires-clause-new_left : goal.is_replaced_in-requires-clause-new_left
is_replaced_in-requires-clause-new_left c = (literals-at c.args.bank.now c.args.lits.now c.requires.lits _ c.index-lits-new_place.result c.if-lits-new_place.false c.index-lits-new_place.is).0

pub is_replaced_in-requires-clause-new_right : goal.is_replaced_in-requires-clause-new_right
is_replaced_in-requires-clause-new_right c = (literals-at c.args.bank.now c.args.lits.now c.requires.lits _ c.index-lits-new_place.result c.if-lits-new_place.false c.index-lits-new_place.is).1

pub is_replaced_in-requires-clause-leads : goal.is_replaced_in-requires-clause-leads
is_replaced_in-requires-clause-leads c = old-leads c.args.bank.now c.is_sound.ensures.sound c.args.source.now c.args.target.now c.args.lits.now c.args.place c.args.target_place c.requires.place c.requires.target_place c.requires.source c.requires.target c.requires.lits c.args.lit.now c.args.side c.args.target_side c.args.path.now c.index-target-target_place.result c.index-target-target_place.is c.requires.leads

pub returns-then-not-is_replaced_in : goal.returns-then-not-is_replaced_in
returns-then-not-is_replaced_in c =
    let by : tree_at c.args.bank.now c.other_side_of-by.result ≡ other_side_of c.args.side (literal_at c.args.bank.now c.args.lit.now) = ap (tree_at c.args.bank.now) c.other_side_of-by.ensures ∙ other-reads c.args.bank.now c.args.side c.args.lit.now in
    joins-differ c.args.bank.now c.is_sound.ensures.sound c.args.source.now c.args.target.now c.args.lits.now c.args.place c.args.target_place c.requires.place c.requires.target_place c.requires.source c.requires.target c.requires.lits c.args.lit.now c.args.side c.args.target_side c.args.path.now c.index-target-target_place.result c.index-target-target_place.is c.requires.leads _ refl c.index-lits-new_place.result c.if-lits-new_place.false c.index-lits-new_place.is c.is_replaced_in.result (rw by at c.is_replaced_in.ensures) c.if-not-is_replaced_in.true

pub subterm-requires : goal.subterm-requires
subterm-requires c = rw c.side_of-whole.ensures (side-within c.args.bank.now c.args.target_side c.index-target-target_place.result (literals-at c.args.bank.now c.args.target.now c.requires.target c.args.target_place c.index-target-target_place.result c.requires.target_place c.index-target-target_place.is))

pub returns-in-Some : goal.returns-in-Some
returns-in-Some c =
    let b = c.args.bank.now in
    let by : tree_at b c.other_side_of-by.result ≡ other_side_of c.args.side (literal_at b c.args.lit.now) = ap (tree_at b) c.other_side_of-by.ensures ∙ other-reads b c.args.side c.args.lit.now in
    let whole : tree_at b c.side_of-whole.result ≡ side_of c.args.target_side (literal_at b c.index-target-target_place.result) = ap (tree_at b) c.side_of-whole.ensures ∙ side-reads b c.args.target_side c.index-target-target_place.result in
    let left : tree_at b c.side_of-left.result ≡ side_of c.args.side (literal_at b c.args.lit.now) = ap (tree_at b) c.side_of-left.ensures ∙ side-reads b c.args.side c.args.lit.now in
    let within : c.side_of-left.result < length b.terms = rw c.side_of-left.ensures (side-within b c.args.side c.args.lit.now (c.requires.left, c.requires.right)) in
    let replaced = rw by at c.is_replaced_in.ensures in
    joins-decide c.args.bank.now c.is_sound.ensures.sound c.args.source.now c.args.target.now c.args.lits.now c.args.place c.args.target_place c.requires.place c.requires.target_place c.requires.source c.requires.target c.requires.lits c.args.lit.now c.args.side c.args.target_side c.args.path.now c.index-target-target_place.result c.index-target-target_place.is c.in-Some.right (rw whole at c.in-Some.ensures.value) c.index-lits-new_place.result (record { pos = false; left = c.side_of-left.result; right = c.in-Some.right }) (literals-at c.args.bank.now c.args.lits.now c.requires.lits _ c.index-lits-new_place.result c.if-lits-new_place.false c.index-lits-new_place.is) (within, c.in-Some.ensures.within) (replaced.0 c.if-not-is_replaced_in.false) (last-reads b c.side_of-left.result c.in-Some.right _ left) c.is_joined.result c.is_joined.ensures

pub returns-in-None : goal.returns-in-None
returns-in-None c =
    let b = c.args.bank.now in
    let whole : tree_at b c.side_of-whole.result ≡ side_of c.args.target_side (literal_at b c.index-target-target_place.result) = ap (tree_at b) c.side_of-whole.ensures ∙ side-reads b c.args.target_side c.index-target-target_place.result in
    joins-nowhere c.args.bank.now c.is_sound.ensures.sound c.args.source.now c.args.target.now c.args.lits.now c.args.place c.args.target_place c.requires.place c.requires.target_place c.requires.source c.requires.target c.requires.lits c.args.lit.now c.args.side c.args.target_side c.args.path.now c.index-target-target_place.result c.index-target-target_place.is c.requires.leads _ refl (rw whole at c.in-None.ensures.value)
