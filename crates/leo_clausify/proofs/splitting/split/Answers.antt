use Rattle.std.proofs.Common.{◌∙◌, length, map, refl, ap, arith}
use Rattle.leo_terms.proofs.CallerLemmas.{extends-itself}
use Rattle.leo_clause.specs.Choices.{choices_at}
use Rattle.leo_clause.specs.Trees.{clause_at}
use Rattle.leo_clausify.specs.Agendas.{IsUnderWay}
use Rattle.leo_clausify.proofs.Ending.{leaf_of, under-first, running-first, ended-leaves}
use Rattle.leo_clausify.proofs.Reduced.{order-grow}
use Rattle.leo_clausify.proofs.splitting.split.Goals as goal

pub returns-in_err-agenda-clause-grows : goal.returns-in_err-agenda-clause-grows
returns-in_err-agenda-clause-grows c = extends-itself c.is_sound.ensures.sound

pub exhaust-requires : goal.exhaust-requires
exhaust-requires c = rw c.in_ok-agenda.ensures (running-first c.args.bank.now c.args.c.now c.args.abbr.now c.requires.clause c.requires.normal c.requires.choices)

pub returns-in_err-fits-clause-choices : goal.returns-in_err-fits-clause-choices
returns-in_err-fits-clause-choices c = order-grow c.exhaust.ensures.grows c.args.abbr.now.items c.requires.choices

pub returns-then-not-fits-clause-split : goal.returns-then-not-fits-clause-split
returns-then-not-fits-clause-split c =
    let under : IsUnderWay (length c.args.bank.now.symbols) (choices_at c.args.bank.now c.args.abbr.now) (clause_at c.args.bank.now c.args.c.now) c.args.bank.now c.in_ok-agenda.agenda = rw c.in_ok-agenda.ensures (under-first c.args.bank.now c.args.c.now c.args.abbr.now c.requires.clause c.requires.normal c.requires.choices) in
    let over = (rw c.if-not-fits.true at c.in_ok-fits.ensures.ended).ended in
    (over (length c.args.bank.now.symbols) (choices_at c.args.bank.now c.args.abbr.now) (clause_at c.args.bank.now c.args.c.now) (omega arith) under, refl)

pub returns-then-not-fits-clause-choices : goal.returns-then-not-fits-clause-choices
returns-then-not-fits-clause-choices c = order-grow c.exhaust.ensures.grows c.args.abbr.now.items c.requires.choices

pub returns-in_err-leaves-clause-choices : goal.returns-in_err-leaves-clause-choices
returns-in_err-leaves-clause-choices c = order-grow c.exhaust.ensures.grows c.args.abbr.now.items c.requires.choices

pub returns-clause-split : goal.returns-clause-split
returns-clause-split c =
    let under : IsUnderWay (length c.args.bank.now.symbols) (choices_at c.args.bank.now c.args.abbr.now) (clause_at c.args.bank.now c.args.c.now) c.args.bank.now c.in_ok-agenda.agenda = rw c.in_ok-agenda.ensures (under-first c.args.bank.now c.args.c.now c.args.abbr.now c.requires.clause c.requires.normal c.requires.choices) in
    let end = (rw c.if-not-fits.false at c.in_ok-fits.ensures.ended).ended in
    let now = end.1 (length c.args.bank.now.symbols) (choices_at c.args.bank.now c.args.abbr.now) (clause_at c.args.bank.now c.args.c.now) (omega arith) under in
    ended-leaves (length c.args.bank.now.symbols) (choices_at c.args.bank.now c.args.abbr.now) (clause_at c.args.bank.now c.args.c.now) c.exhaust.new.bank c.exhaust.new.agenda c.count_of-before.result c.in_ok-leaves.leaves now end.0 c.count_of-before.ensures (c.in_ok-leaves.ensures ∙ ap (map (leaf_of c.count_of-before.result)) c.as_slice.ensures)

pub returns-clause-choices : goal.returns-clause-choices
returns-clause-choices c =
    let under : IsUnderWay (length c.args.bank.now.symbols) (choices_at c.args.bank.now c.args.abbr.now) (clause_at c.args.bank.now c.args.c.now) c.args.bank.now c.in_ok-agenda.agenda = rw c.in_ok-agenda.ensures (under-first c.args.bank.now c.args.c.now c.args.abbr.now c.requires.clause c.requires.normal c.requires.choices) in
    let end = (rw c.if-not-fits.false at c.in_ok-fits.ensures.ended).ended in
    (end.1 (length c.args.bank.now.symbols) (choices_at c.args.bank.now c.args.abbr.now) (clause_at c.args.bank.now c.args.c.now) (omega arith) under).agenda.in_order
