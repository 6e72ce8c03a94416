use Rattle.std.proofs.Common.{None}
use Rattle.leo_terms.proofs.CallerLemmas.{extends-itself, type_number-within}
use Rattle.leo_clausify.proofs.Picks.{placed-found, placed-added}
use Rattle.leo_ext.proofs.choosing.place_for.Goals as goal

pub fresh-requires : goal.fresh-requires
fresh-requires c = rw c.type_of-ty.ensures.number (type_number-within c.is_sound.ensures.sound c.args.t c.requires.within)

pub returns-in-Some-clause-placed : goal.returns-in-Some-clause-placed
returns-in-Some-clause-placed c = placed-found c.args.bank.now c.is_sound.ensures.sound c.args.choices.now.items c.args.t c.in-Some.at c.requires.of_bank c.requires.choices c.requires.within (rw c.as_slice.ensures at c.in-Some.ensures)

pub returns-in-Some-clause-grows : goal.returns-in-Some-clause-grows
returns-in-Some-clause-grows c = extends-itself c.is_sound.ensures.sound

pub returns-in_ok-push-in-None-clause-placed : goal.returns-in_ok-push-in-None-clause-placed
returns-in_ok-push-in-None-clause-placed c =
    let f = c.in_ok-symbol-in-None.ensures in
    rw (c.in_ok-push-in-None.ensures.ok, c.len-at.ensures) (placed-added c.fresh.ensures.grows c.args.choices.now.items c.args.t c.in_ok-symbol-in-None.symbol c.type_of-ty.result (record { name = None; ty = c.type_of-ty.result }) c.requires.of_bank c.requires.choices c.requires.within c.requires.closed f.made f.within f.typed c.type_of-ty.ensures.number (rw c.as_slice.ensures at c.in-None.ensures))
