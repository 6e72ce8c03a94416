use Rattle.std.proofs.Common.{refl}
use Rattle.leo_terms.proofs.CallerLemmas.{extends-itself}
use Rattle.leo_unify.proofs.BodySteps.{if-listed, truth-number}
use Rattle.leo_unify.proofs.heads.constant_domains.Goals as goal

pub returns-in-True-clause-grows : goal.returns-in-True-clause-grows
returns-in-True-clause-grows c = extends-itself c.is_sound.ensures.sound

pub returns-in-False-clause-grows : goal.returns-in-False-clause-grows
returns-in-False-clause-grows c = extends-itself c.is_sound.ensures.sound

pub returns-in-Not-clause-grows : goal.returns-in-Not-clause-grows
returns-in-Not-clause-grows c = extends-itself c.is_sound.ensures.sound

pub returns-in-Or-clause-grows : goal.returns-in-Or-clause-grows
returns-in-Or-clause-grows c = extends-itself c.is_sound.ensures.sound

pub returns-in-And-clause-grows : goal.returns-in-And-clause-grows
returns-in-And-clause-grows c = extends-itself c.is_sound.ensures.sound

pub returns-in-Imp-clause-grows : goal.returns-in-Imp-clause-grows
returns-in-Imp-clause-grows c = extends-itself c.is_sound.ensures.sound

pub returns-in-Eq-clause-grows : goal.returns-in-Eq-clause-grows
returns-in-Eq-clause-grows c = extends-itself c.is_sound.ensures.sound

pub returns-in-Not-clause-value : goal.returns-in-Not-clause-value
returns-in-Not-clause-value c = if-listed c.args.bank.now c.from_slice.result _ _ c.from_slice.ensures (rw (c.in-Not.is, c.truth-truth.ensures, truth-number c.args.bank.now c.is_sound.ensures.sound) refl)

pub returns-in-Or-clause-value : goal.returns-in-Or-clause-value
returns-in-Or-clause-value c = if-listed c.args.bank.now c.from_slice-in-Or.result _ _ c.from_slice-in-Or.ensures (rw (c.in-Or.is, c.truth-truth.ensures, truth-number c.args.bank.now c.is_sound.ensures.sound) refl)

pub returns-in-And-clause-value : goal.returns-in-And-clause-value
returns-in-And-clause-value c = if-listed c.args.bank.now c.from_slice-in-And.result _ _ c.from_slice-in-And.ensures (rw (c.in-And.is, c.truth-truth.ensures, truth-number c.args.bank.now c.is_sound.ensures.sound) refl)

pub returns-in-Imp-clause-value : goal.returns-in-Imp-clause-value
returns-in-Imp-clause-value c = if-listed c.args.bank.now c.from_slice-in-Imp.result _ _ c.from_slice-in-Imp.ensures (rw (c.in-Imp.is, c.truth-truth.ensures, truth-number c.args.bank.now c.is_sound.ensures.sound) refl)
