use Rattle.leo_terms.proofs.CallerLemmas.{extends-trans}
use Rattle.clausify_rows.proofs.Answering.{split-told}
use Rattle.clausify_rows.proofs.Ready.{clause-later}
use Rattle.clausify_rows.proofs.asking.answered.Goals as goal

pub is_typed-requires : goal.is_typed-requires
is_typed-requires c = clause-later c.are_normal.ensures.grows c.args.clause.now c.requires

pub returns-in_err-split-clause-grows : goal.returns-in_err-split-clause-grows
returns-in_err-split-clause-grows c = extends-trans c.are_normal.ensures.grows c.split.ensures.grows

pub returns-clause-answer : goal.returns-clause-answer
returns-clause-answer c = record {
  split_of = split-told c.are_normal.new.bank c.split.new.bank c.new-choices.result c.split.new.abbr c.args.clause.now c.in_ok-split.split c.in_ok-split.ensures.split;
  choices_of = c.split.ensures.choices.of_bank;
}

pub returns-clause-grows : goal.returns-clause-grows
returns-clause-grows c = extends-trans c.are_normal.ensures.grows c.split.ensures.grows
