use Rattle.std.proofs.Common.{◌≡◌, ◌∙◌, ◌∷◌, [], length, map, refl}
use Rattle.leo_terms.specs.Tree.{app, variable}
use Rattle.leo_terms.specs.Contents.{tree_at, type_at}
use Rattle.leo_terms.proofs.CallerLemmas.{extends-itself}
use Rattle.leo_clause.specs.Trees.{literal_at}
use Rattle.leo_kernel.specs.Shapes.{valued}
use Rattle.leo_kernel.proofs.Growing.{concluded-later}
use Rattle.leo_kernel.proofs.Lists.{length-map}
use Rattle.leo_kernel.proofs.fresh.concludes_fresh.Goals as goal

pub returns-in_err-number-clause-grows : goal.returns-in_err-number-clause-grows
returns-in_err-number-clause-grows c = extends-itself c.is_sound.ensures.sound

pub returns-clause-value : goal.returns-clause-value
returns-clause-value c =
    let m : c.in_ok-number.number ≡ length (map (type_at c.args.bank.now) c.args.parent.now.vars) = c.in_ok-number.ensures ∙ rw (c.as_slice.ensures, length-map (type_at c.args.bank.now) c.args.parent.now.vars) refl in
    let l : literal_at c.fresh_value.new.bank c.in_ok-lit.lit ≡ valued (app (tree_at c.args.bank.now c.args.property) (variable (length (map (type_at c.args.bank.now) c.args.parent.now.vars)) (type_at c.args.bank.now c.args.ty))) c.args.value = rw m at c.in_ok-lit.ensures.reads in
    rw (← l) (concluded-later c.fresh_value.ensures.grows c.args.parent.now c.args.place (c.args.ty ∷ []) (c.in_ok-lit.lit ∷ []) c.args.step.now c.requires.parent c.requires.step (c.requires.property.type_within, tt) (c.in_ok-lit.ensures.left, c.in_ok-lit.ensures.right, tt) c.concludes.result c.concludes.ensures)
