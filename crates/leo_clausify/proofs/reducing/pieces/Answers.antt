use Rattle.std.proofs.Common.{◌∙◌, [], ◌∷◌, refl}
use Rattle.leo_terms.proofs.CallerLemmas.{extends-itself}
use Rattle.leo_clausify.proofs.Reduced.{plain-pieces, fresh-pieces}
use Rattle.leo_clausify.proofs.reducing.pieces.Goals as goal

pub returns-in_err-push-in-Sides-clause-grows : goal.returns-in_err-push-in-Sides-clause-grows
returns-in_err-push-in-Sides-clause-grows c = extends-itself c.is_sound.ensures.sound

pub returns-in_ok-new-in-Single-clause-made : goal.returns-in_ok-new-in-Single-clause-made
returns-in_ok-new-in-Single-clause-made c =
    let m = c.in_ok-new-in-Single.ensures.made in
    rw (c.in-Single.is, c.new.ensures) (plain-pieces c.single.ensures.grows c.args.choices.now.items _ _ c.in-Single.kind c.in_ok-new-in-Single.new c.requires.in_order m.literals_of (λ known. (refl, refl, refl, m.reads, refl)))

pub returns-in_ok-new-in-Double-clause-made : goal.returns-in_ok-new-in-Double-clause-made
returns-in_ok-new-in-Double-clause-made c =
    let m = c.in_ok-new-in-Double.ensures.made in
    rw (c.in-Double.is, c.new-in-Double.ensures) (plain-pieces c.double.ensures.grows c.args.choices.now.items _ _ c.in-Double.kind c.in_ok-new-in-Double.new c.requires.in_order m.literals_of (λ known. (refl, refl, refl, m.reads, refl)))

pub returns-in_ok-push-in-Sides-clause-made : goal.returns-in_ok-push-in-Sides-clause-made
returns-in_ok-push-in-Sides-clause-made c =
    let w = rw c.in-Sides.is at c.requires.way in
    rw (c.in-Sides.is, c.new-in-Sides-2.ensures, c.in_ok-push-in-Sides.ensures.ok, c.new-new.ensures) (plain-pieces (extends-itself c.is_sound.ensures.sound) c.args.choices.now.items _ _ c.in-Sides.kind (record { pos = c.in-Sides.positive; left = c.in-Sides.s; right = c.in-Sides.t } ∷ []) c.requires.in_order (w.0, w.1, tt) (λ known. (refl, refl, refl, refl, refl)))

pub returns-in_ok-push-in-Sides-clause-grows : goal.returns-in_ok-push-in-Sides-clause-grows
returns-in_ok-push-in-Sides-clause-grows c = extends-itself c.is_sound.ensures.sound

pub returns-in_ok-push-in-Fresh-clause-made : goal.returns-in_ok-push-in-Fresh-clause-made
returns-in_ok-push-in-Fresh-clause-made c =
    let w = rw c.in-Fresh.is at c.requires.way in
    rw c.in-Fresh.is (fresh-pieces c.applied.ensures.grows c.args.choices.now.items c.args.vars.now c.in-Fresh.kind c.in-Fresh.ty c.in-Fresh.property c.in-Fresh.v c.in_ok-number-in-Fresh.number c.push-in-Fresh.new.self c.in_ok-new-in-Fresh.new w.type_within c.requires.in_order (c.in_ok-push-in-Fresh.ensures.ok ∙ rw c.new-fresh.ensures refl) c.in_ok-number-in-Fresh.ensures c.in_ok-new-in-Fresh.ensures.made)

pub returns-in_err-number-in-Fresh-clause-grows : goal.returns-in_err-number-in-Fresh-clause-grows
returns-in_err-number-in-Fresh-clause-grows c = extends-itself c.is_sound.ensures.sound
