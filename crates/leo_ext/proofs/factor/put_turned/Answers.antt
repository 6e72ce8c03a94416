use Rattle.std.proofs.Common.{refl, sym, ◌∙◌, arith}
use Rattle.std.proofs.lemmas.Option.{slice_get_within}
use Rattle.leo_terms.proofs.CallerLemmas.{extends-itself}
use Rattle.leo_ext.proofs.Adding.{adds-none, lit-stands}
use Rattle.leo_ext.proofs.Factoring.{turned-added}
use Rattle.leo_ext.proofs.factor.put_turned.Goals as goal

pub is_formula-requires-clause-right : goal.is_formula-requires-clause-right
is_formula-requires-clause-right c = (lit-stands c.args.bank.now c.args.clause.now.lits c.args.pair.now.second c.args.pair.now.other c.requires.clause.of_bank.literals_of c.requires.pair.second_stands).1

pub returns-then-is_formula : goal.returns-then-is_formula
returns-then-is_formula c = record { adds = adds-none (extends-itself c.is_sound.ensures.sound) c.args.dues.now.items _ (rw (sym c.is_formula.ensures ∙ c.if-is_formula.true) refl) }

pub heads_do_meet-requires-clause-first : goal.heads_do_meet-requires-clause-first
heads_do_meet-requires-clause-first c = (lit-stands c.args.bank.now c.args.clause.now.lits c.args.pair.now.first c.args.pair.now.one c.requires.clause.of_bank.literals_of c.requires.pair.first_stands).0

pub heads_do_meet-requires-clause-second : goal.heads_do_meet-requires-clause-second
heads_do_meet-requires-clause-second c = (lit-stands c.args.bank.now c.args.clause.now.lits c.args.pair.now.second c.args.pair.now.other c.requires.clause.of_bank.literals_of c.requires.pair.second_stands).1

pub returns-then-not-heads_do_meet : goal.returns-then-not-heads_do_meet
returns-then-not-heads_do_meet c = record { adds = adds-none (extends-itself c.is_sound.ensures.sound) c.args.dues.now.items _ (rw (sym c.is_formula.ensures ∙ c.if-is_formula.false, sym c.heads_do_meet.ensures ∙ c.if-not-heads_do_meet.true) refl) }

pub turned_records-requires : goal.turned_records-requires
turned_records-requires c = slice_get_within c.args.clause.now.lits c.args.pair.now.second c.args.pair.now.other c.requires.pair.second_stands

pub put_factored-requires : goal.put_factored-requires
put_factored-requires c = (let h = slice_get_within c.args.clause.now.lits c.args.pair.now.second c.args.pair.now.other c.requires.pair.second_stands in rw c.len.ensures (omega arith))

pub returns : goal.returns
returns c = record {
  adds = turned-added c.args.bank.now c.is_sound.ensures.sound c.args.clause.now c.requires.clause.of_bank c.args.before c.len.result c.args.pair.now c.args.dues.now.items c.put_factored.new.dues.items c.in_ok-records.records c.heads_do_meet.result c.is_formula.result c.requires.pair c.is_formula.ensures c.if-is_formula.false c.heads_do_meet.ensures c.if-not-heads_do_meet.false c.in_ok-records.ensures c.len.ensures c.in_ok-put_factored.ensures;
}
