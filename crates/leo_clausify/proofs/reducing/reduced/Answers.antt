use Rattle.std.proofs.Common.{map}
use Rattle.std.proofs.lemmas.Option.{slice_get_within}
use Rattle.leo_terms.proofs.CallerLemmas.{extends-itself}
use Rattle.leo_clause.specs.Choices.{choice_at}
use Rattle.leo_clause.specs.Trees.{literal_at}
use Rattle.leo_clausify.specs.Ways.{way_at}
use Rattle.leo_clausify.proofs.Reduced.{row-at, turned-reduced, omitted-reduced}
use Rattle.leo_clausify.proofs.reducing.reduced.Goals as goal

pub returns-in_err-turned-in-Turn-clause-grows : goal.returns-in_err-turned-in-Turn-clause-grows
returns-in_err-turned-in-Turn-clause-grows c = extends-itself c.is_sound.ensures.sound

pub turned-requires-clause-within : goal.turned-requires-clause-within
turned-requires-clause-within c = slice_get_within c.args.branch.clause.lits c.args.at c.requires.row.lit c.requires.row.stands

pub omitted-requires-clause-within : goal.omitted-requires-clause-within
omitted-requires-clause-within c = slice_get_within c.args.branch.clause.lits c.args.at c.requires.row.lit c.requires.row.stands

pub returns-in_err-omitted-in-Omit-clause-grows : goal.returns-in_err-omitted-in-Omit-clause-grows
returns-in_err-omitted-in-Omit-clause-grows c = extends-itself c.is_sound.ensures.sound

pub returns-in_ok-turned-in-Turn-clause-made : goal.returns-in_ok-turned-in-Turn-clause-made
returns-in_ok-turned-in-Turn-clause-made c = λ l e.
    rw c.in-Turn.is (turned-reduced c.args.bank.now c.args.choices.now.items c.args.branch c.in_ok-turned-in-Turn.turned c.args.at (literal_at c.args.bank.now l) c.requires.in_order (c.in_ok-turned-in-Turn.ensures l (map (choice_at c.args.bank.now) c.args.choices.now.items) e))

pub returns-in_ok-turned-in-Turn-clause-grows : goal.returns-in_ok-turned-in-Turn-clause-grows
returns-in_ok-turned-in-Turn-clause-grows c = extends-itself c.is_sound.ensures.sound

pub returns-in_ok-omitted-in-Omit-clause-made : goal.returns-in_ok-omitted-in-Omit-clause-made
returns-in_ok-omitted-in-Omit-clause-made c = λ l e.
    let never = row-at c.args.bank.now c.args.branch c.args.at (way_at c.args.bank.now c.args.way.now) c.requires.row l e in
    rw c.in-Omit.is (omitted-reduced c.args.bank.now c.args.choices.now.items c.args.branch c.in_ok-omitted-in-Omit.omitted c.args.at (literal_at c.args.bank.now l) c.requires.in_order (c.in_ok-omitted-in-Omit.ensures l (map (choice_at c.args.bank.now) c.args.choices.now.items) e (rw c.in-Omit.is at never)))

pub returns-in_ok-omitted-in-Omit-clause-grows : goal.returns-in_ok-omitted-in-Omit-clause-grows
returns-in_ok-omitted-in-Omit-clause-grows c = extends-itself c.is_sound.ensures.sound
