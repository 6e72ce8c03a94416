use Rattle.leo_terms.proofs.CallerLemmas.{extends-itself}
use Rattle.leo_kernel.proofs.Growing.{lits-grow}
use Rattle.leo_kernel.proofs.Paramodulants.{negative-source, other-variables, undeclared-target, moved-leads, paramodulant-decides}
use Rattle.leo_kernel.proofs.paramodulation.paramodulates.Goals as goal

pub returns-then-not-lit-clause-value : goal.returns-then-not-lit-clause-value
returns-then-not-lit-clause-value c = negative-source c.args.bank.now c.is_sound.ensures.sound c.args.source.now c.args.target.now c.args.step.now c.requires.source c.requires.target c.requires.step c.args.place c.args.target_place c.args.lit c.args.target_lit c.args.side c.args.target_side c.args.path.now c.requires.leads c.if-not-lit.true

pub returns-then-not-is_appended-clause-value : goal.returns-then-not-is_appended-clause-value
returns-then-not-is_appended-clause-value c = other-variables c.args.bank.now c.is_sound.ensures.sound c.args.source.now c.args.target.now c.args.step.now c.requires.source c.requires.target c.requires.step c.args.place c.args.target_place c.args.lit c.args.target_lit c.args.side c.args.target_side c.args.path.now c.requires.leads c.is_appended.result (rw (c.as_slice-types.ensures, c.as_slice.ensures, c.as_slice-2.ensures) at c.is_appended.ensures) c.if-not-is_appended.true

pub returns-then-not-declared-clause-value : goal.returns-then-not-declared-clause-value
returns-then-not-declared-clause-value c = undeclared-target c.args.bank.now c.is_sound.ensures.sound c.args.source.now c.args.target.now c.args.step.now c.requires.source c.requires.target c.requires.step c.args.place c.args.target_place c.args.lit c.args.target_lit c.args.side c.args.target_side c.args.path.now c.requires.leads c.requires.there c.requires.typed c.in_ok-declared.declared (rw (c.as_slice-types.ensures, c.as_slice-3.ensures) at c.in_ok-declared.ensures) c.if-not-declared.true

pub joins-requires-clause-source : goal.joins-requires-clause-source
joins-requires-clause-source c = rw c.as_slice-6.ensures (lits-grow c.moved_lits.ensures.grows c.args.source.now.lits c.requires.source.literals_of)

pub joins-requires-clause-lits : goal.joins-requires-clause-lits
joins-requires-clause-lits c = rw c.as_slice-8.ensures (lits-grow c.moved_lits.ensures.grows c.args.step.now.lits c.requires.step.literals_of)

pub joins-requires-clause-leads : goal.joins-requires-clause-leads
joins-requires-clause-leads c = rw c.as_slice-7.ensures (moved-leads c.moved_lits.ensures.grows c.args.source.now c.args.target.now c.args.step.now c.requires.source c.requires.target c.requires.step c.args.place c.args.target_place c.args.lit c.args.target_lit c.requires.left c.requires.right c.args.side c.args.target_side c.args.path.now c.requires.leads c.requires.there c.in_ok-moved.moved c.in_ok-first.first (rw c.as_slice-4.ensures at c.in_ok-first.ensures) (rw c.as_slice-5.ensures at c.in_ok-moved.ensures.value))

pub returns-clause-value : goal.returns-clause-value
returns-clause-value c =
    let vars = (rw (c.as_slice-types.ensures, c.as_slice.ensures, c.as_slice-2.ensures) at c.is_appended.ensures).0 c.if-not-is_appended.false in
    paramodulant-decides c.moved_lits.ensures.grows c.args.source.now c.args.target.now c.args.step.now c.requires.source c.requires.target c.requires.step c.args.place c.args.target_place c.args.lit c.args.target_lit c.requires.left c.requires.right c.args.side c.args.target_side c.args.path.now c.requires.leads c.requires.there c.in_ok-moved.moved c.in_ok-first.first (rw c.as_slice-4.ensures at c.in_ok-first.ensures) (rw c.as_slice-5.ensures at c.in_ok-moved.ensures.value) c.if-not-lit.false vars c.joins.result (rw (c.as_slice-6.ensures, c.as_slice-7.ensures, c.as_slice-8.ensures) at c.joins.ensures)

pub returns-then-not-lit-clause-grows : goal.returns-then-not-lit-clause-grows
returns-then-not-lit-clause-grows c = extends-itself c.is_sound.ensures.sound

pub returns-then-not-is_appended-clause-grows : goal.returns-then-not-is_appended-clause-grows
returns-then-not-is_appended-clause-grows c = extends-itself c.is_sound.ensures.sound

pub returns-in_err-declared-clause-grows : goal.returns-in_err-declared-clause-grows
returns-in_err-declared-clause-grows c = extends-itself c.is_sound.ensures.sound

pub returns-then-not-declared-clause-grows : goal.returns-then-not-declared-clause-grows
returns-then-not-declared-clause-grows c = extends-itself c.is_sound.ensures.sound

pub returns-in_err-first-clause-grows : goal.returns-in_err-first-clause-grows
returns-in_err-first-clause-grows c = extends-itself c.is_sound.ensures.sound
