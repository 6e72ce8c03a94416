use Rattle.std.proofs.Common.{refl, sym, ◌∙◌, arith}
use Rattle.std.proofs.lemmas.Option.{slice_get_within}
use Rattle.leo_terms.proofs.CallerLemmas.{extends-itself}
use Rattle.leo_ext.proofs.Adding.{adds-none, lit-stands}
use Rattle.leo_ext.proofs.Factoring.{as-it-is-added}
use Rattle.leo_ext.proofs.factor.put_as_it_is.Goals as goal

pub heads_do_meet-requires-clause-first : goal.heads_do_meet-requires-clause-first
heads_do_meet-requires-clause-first c = (lit-stands c.args.bank.now c.args.clause.now.lits c.args.pair.now.first c.args.pair.now.one c.requires.clause.of_bank.literals_of c.requires.pair.first_stands).0

pub heads_do_meet-requires-clause-second : goal.heads_do_meet-requires-clause-second
heads_do_meet-requires-clause-second c = (lit-stands c.args.bank.now c.args.clause.now.lits c.args.pair.now.second c.args.pair.now.other c.requires.clause.of_bank.literals_of c.requires.pair.second_stands).0

pub returns-then-not-heads_do_meet : goal.returns-then-not-heads_do_meet
returns-then-not-heads_do_meet c = record { adds = adds-none (extends-itself c.is_sound.ensures.sound) c.args.dues.now.items _ (rw (sym c.heads_do_meet.ensures ∙ c.if-not-heads_do_meet.true) refl) }

pub factored-requires : goal.factored-requires
factored-requires c = slice_get_within c.args.clause.now.lits c.args.pair.now.second c.args.pair.now.other c.requires.pair.second_stands

pub put_factored-requires : goal.put_factored-requires
put_factored-requires c = (let h = slice_get_within c.args.clause.now.lits c.args.pair.now.second c.args.pair.now.other c.requires.pair.second_stands in rw c.len.ensures (omega arith))

pub returns : goal.returns
returns c = record {
  adds = as-it-is-added c.args.bank.now c.is_sound.ensures.sound c.args.clause.now c.in_ok-conclusion.conclusion c.requires.clause.of_bank c.args.before c.in_ok-first.first c.in_ok-second.second c.len.result c.args.pair.now c.args.dues.now.items c.put_factored.new.dues.items c.in_ok-records.records c.heads_do_meet.result c.requires.pair c.heads_do_meet.ensures c.if-not-heads_do_meet.false c.in_ok-conclusion.ensures.vars c.in_ok-conclusion.ensures.lits c.in_ok-first.ensures c.in_ok-second.ensures c.len.ensures c.in_ok-records.ensures c.in_ok-put_factored.ensures;
}
