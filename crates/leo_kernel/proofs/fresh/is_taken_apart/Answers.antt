use Rattle.std.proofs.Common.{length, [], ◌∷◌, map}
use Rattle.leo_terms.specs.Contents.{type_at, tree_at}
use Rattle.leo_terms.specs.Tree.{app, variable}
use Rattle.leo_terms.proofs.CallerLemmas.{extends-itself}
use Rattle.leo_clause.specs.Trees.{literal_at}
use Rattle.leo_kernel.specs.Shapes.{valued}
use Rattle.leo_kernel.proofs.Clauses.{concluded}
use Rattle.leo_kernel.proofs.Growing.{lit-pieces, lit-no_pieces}
use Rattle.leo_kernel.proofs.fresh.is_taken_apart.Goals as goal

pub returns-in-One-clause-value : goal.returns-in-One-clause-value
returns-in-One-clause-value c =
    let w = c.in-One.ensures.within in
    lit-pieces c.args.bank.now c.is_sound.ensures.sound c.args.parent.now c.args.step.now c.args.place c.args.kind c.args.lit c.requires.left c.requires.right
    (record { fresh = []; new = literal_at c.args.bank.now c.in-One.l ∷ [] }) (c.in-One.ensures.value (length (map (type_at c.args.bank.now) c.args.parent.now.vars))) c.concludes.result
    (concluded c.args.bank.now c.is_sound.ensures.sound c.args.parent.now c.args.place [] (c.in-One.l ∷ []) c.args.step.now c.requires.parent c.requires.step tt (w.0, w.1, tt) c.concludes.result c.concludes.ensures)

pub returns-in-One-clause-grows : goal.returns-in-One-clause-grows
returns-in-One-clause-grows c = extends-itself c.is_sound.ensures.sound

pub returns-in-Two-clause-value : goal.returns-in-Two-clause-value
returns-in-Two-clause-value c =
    let w = c.in-Two.ensures.within in
    lit-pieces c.args.bank.now c.is_sound.ensures.sound c.args.parent.now c.args.step.now c.args.place c.args.kind c.args.lit c.requires.left c.requires.right
    (record { fresh = []; new = literal_at c.args.bank.now c.in-Two.l ∷ literal_at c.args.bank.now c.in-Two.k ∷ [] }) (c.in-Two.ensures.value (length (map (type_at c.args.bank.now) c.args.parent.now.vars))) c.concludes-in-Two.result
    (concluded c.args.bank.now c.is_sound.ensures.sound c.args.parent.now c.args.place [] (c.in-Two.l ∷ c.in-Two.k ∷ []) c.args.step.now c.requires.parent c.requires.step tt (w.0, w.1, (w.2, w.3, tt)) c.concludes-in-Two.result c.concludes-in-Two.ensures)

pub returns-in-Two-clause-grows : goal.returns-in-Two-clause-grows
returns-in-Two-clause-grows c = extends-itself c.is_sound.ensures.sound

pub returns-in_ok-holds-in-Fresh-clause-value : goal.returns-in_ok-holds-in-Fresh-clause-value
returns-in_ok-holds-in-Fresh-clause-value c =
    let n = length (map (type_at c.args.bank.now) c.args.parent.now.vars) in
    lit-pieces c.args.bank.now c.is_sound.ensures.sound c.args.parent.now c.args.step.now c.args.place c.args.kind c.args.lit c.requires.left c.requires.right
    (record { fresh = type_at c.args.bank.now c.in-Fresh.ty ∷ []; new = valued (app (tree_at c.args.bank.now c.in-Fresh.p) (variable n (type_at c.args.bank.now c.in-Fresh.ty))) c.in-Fresh.v ∷ [] }) (c.in-Fresh.ensures.value n) c.in_ok-holds-in-Fresh.holds c.in_ok-holds-in-Fresh.ensures.value

pub returns-in-Nothing-clause-value : goal.returns-in-Nothing-clause-value
returns-in-Nothing-clause-value c =
    lit-no_pieces c.args.bank.now c.is_sound.ensures.sound c.args.parent.now c.args.step.now c.args.place c.args.kind c.args.lit c.requires.left c.requires.right (c.in-Nothing.ensures.value (length (map (type_at c.args.bank.now) c.args.parent.now.vars)))

pub returns-in-Nothing-clause-grows : goal.returns-in-Nothing-clause-grows
returns-in-Nothing-clause-grows c = extends-itself c.is_sound.ensures.sound
