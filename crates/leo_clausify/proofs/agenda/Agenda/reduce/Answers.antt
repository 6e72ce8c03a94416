use Rattle.std.proofs.Common.{◌≡◌, refl}
use Rattle.std.proofs.lemmas.Option.{slice_get_within}
use Rattle.leo_terms.proofs.CallerLemmas.{extends-itself}
use Rattle.leo_clausify.proofs.Branching.{index-is, lit-at}
use Rattle.leo_clausify.proofs.Stepping.{not-none, the-rows, row-of, forms-at}
use Rattle.leo_clausify.proofs.agenda.Agenda.reduce.Goals as goal

pub returns-in_err-number-clause-grows : goal.returns-in_err-number-clause-grows
returns-in_err-number-clause-grows c = extends-itself c.is_sound.ensures.sound

pub bounds-as_slice-at : goal.bounds-as_slice-at
bounds-as_slice-at c = rw c.as_slice.ensures (slice_get_within c.args.branch.clause.lits c.args.at c.requires.first.lit c.requires.first.stands)

pub ways_of-requires-clause-left : goal.ways_of-requires-clause-left
ways_of-requires-clause-left c =
    let f : c.index-as_slice-at.result ≡ c.requires.first.lit = index-is c.args.branch.clause.lits c.as_slice.result.now c.args.at c.requires.first.lit c.index-as_slice-at.result c.as_slice.ensures c.requires.first.stands c.index-as_slice-at.is in
    rw f (lit-at c.args.bank.now c.args.branch.clause.lits c.args.at c.requires.first.lit c.requires.branch.typed.of_bank.literals_of c.requires.first.stands).0

pub ways_of-requires-clause-right : goal.ways_of-requires-clause-right
ways_of-requires-clause-right c =
    let f : c.index-as_slice-at.result ≡ c.requires.first.lit = index-is c.args.branch.clause.lits c.as_slice.result.now c.args.at c.requires.first.lit c.index-as_slice-at.result c.as_slice.ensures c.requires.first.stands c.index-as_slice-at.is in
    rw f (lit-at c.args.bank.now c.args.branch.clause.lits c.args.at c.requires.first.lit c.requires.branch.typed.of_bank.literals_of c.requires.first.stands).1

pub unreachable-requires : goal.unreachable-requires
unreachable-requires c =
    let f : c.index-as_slice-at.result ≡ c.requires.first.lit = index-is c.args.branch.clause.lits c.as_slice.result.now c.args.at c.requires.first.lit c.index-as_slice-at.result c.as_slice.ensures c.requires.first.stands c.index-as_slice-at.is in
    not-none c.args.bank.now c.is_sound.ensures.sound c.args.branch c.args.at c.requires.first c.index-as_slice-at.result f _ c.in-Nothing.ensures.value refl

pub reduce_to_one-requires-clause-row : goal.reduce_to_one-requires-clause-row
reduce_to_one-requires-clause-row c =
    let f : c.index-as_slice-at.result ≡ c.requires.first.lit = index-is c.args.branch.clause.lits c.as_slice.result.now c.args.at c.requires.first.lit c.index-as_slice-at.result c.as_slice.ensures c.requires.first.stands c.index-as_slice-at.is in
    let r = the-rows c.args.bank.now c.is_sound.ensures.sound c.args.branch c.args.at c.requires.first c.index-as_slice-at.result f _ c.in-One.ensures.value c.requires.branch in
    row-of c.args.bank.now c.is_sound.ensures.sound c.args.branch c.args.at c.requires.first c.index-as_slice-at.result f _ c.in-One.ensures.value c.in_ok-number.number c.in_ok-number.ensures _ r

pub reduce_to_one-requires-clause-form : goal.reduce_to_one-requires-clause-form
reduce_to_one-requires-clause-form c =
    let f : c.index-as_slice-at.result ≡ c.requires.first.lit = index-is c.args.branch.clause.lits c.as_slice.result.now c.args.at c.requires.first.lit c.index-as_slice-at.result c.as_slice.ensures c.requires.first.stands c.index-as_slice-at.is in
    λ l e. forms-at c.args.bank.now c.is_sound.ensures.sound c.args.branch c.args.at c.requires.first c.index-as_slice-at.result f _ c.in-One.ensures.value c.in_ok-number.number c.in_ok-number.ensures l e

pub reduce_to_two-requires-clause-first_row : goal.reduce_to_two-requires-clause-first_row
reduce_to_two-requires-clause-first_row c =
    let f : c.index-as_slice-at.result ≡ c.requires.first.lit = index-is c.args.branch.clause.lits c.as_slice.result.now c.args.at c.requires.first.lit c.index-as_slice-at.result c.as_slice.ensures c.requires.first.stands c.index-as_slice-at.is in
    let r = the-rows c.args.bank.now c.is_sound.ensures.sound c.args.branch c.args.at c.requires.first c.index-as_slice-at.result f _ c.in-Two.ensures.value c.requires.branch in
    row-of c.args.bank.now c.is_sound.ensures.sound c.args.branch c.args.at c.requires.first c.index-as_slice-at.result f _ c.in-Two.ensures.value c.in_ok-number.number c.in_ok-number.ensures _ r.0

pub reduce_to_two-requires-clause-second_row : goal.reduce_to_two-requires-clause-second_row
reduce_to_two-requires-clause-second_row c =
    let f : c.index-as_slice-at.result ≡ c.requires.first.lit = index-is c.args.branch.clause.lits c.as_slice.result.now c.args.at c.requires.first.lit c.index-as_slice-at.result c.as_slice.ensures c.requires.first.stands c.index-as_slice-at.is in
    let r = the-rows c.args.bank.now c.is_sound.ensures.sound c.args.branch c.args.at c.requires.first c.index-as_slice-at.result f _ c.in-Two.ensures.value c.requires.branch in
    row-of c.args.bank.now c.is_sound.ensures.sound c.args.branch c.args.at c.requires.first c.index-as_slice-at.result f _ c.in-Two.ensures.value c.in_ok-number.number c.in_ok-number.ensures _ r.1

pub reduce_to_two-requires-clause-forms : goal.reduce_to_two-requires-clause-forms
reduce_to_two-requires-clause-forms c =
    let f : c.index-as_slice-at.result ≡ c.requires.first.lit = index-is c.args.branch.clause.lits c.as_slice.result.now c.args.at c.requires.first.lit c.index-as_slice-at.result c.as_slice.ensures c.requires.first.stands c.index-as_slice-at.is in
    λ l e. forms-at c.args.bank.now c.is_sound.ensures.sound c.args.branch c.args.at c.requires.first c.index-as_slice-at.result f _ c.in-Two.ensures.value c.in_ok-number.number c.in_ok-number.ensures l e
