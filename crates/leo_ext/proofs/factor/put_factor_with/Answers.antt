use Rattle.std.proofs.Common.{refl, sym, ◌∙◌}
use Rattle.leo_terms.proofs.CallerLemmas.{extends-itself}
use Rattle.leo_ext.proofs.Adding.{adds-as, adds-both, adds-none, lit-stands}
use Rattle.leo_ext.proofs.factor.put_factor_with.Goals as goal

pub may_be_one-requires-clause-one : goal.may_be_one-requires-clause-one
may_be_one-requires-clause-one c = lit-stands c.args.bank.now c.args.clause.now.lits c.args.pair.first c.args.pair.one c.requires.clause.of_bank.literals_of c.requires.pair.first_stands

pub may_be_one-requires-clause-other : goal.may_be_one-requires-clause-other
may_be_one-requires-clause-other c = lit-stands c.args.bank.now c.args.clause.now.lits c.args.pair.second c.args.pair.other c.requires.clause.of_bank.literals_of c.requires.pair.second_stands

pub returns-then-not-may_be_one : goal.returns-then-not-may_be_one
returns-then-not-may_be_one c = record { adds = adds-none (extends-itself c.is_sound.ensures.sound) c.args.dues.now.items _ (rw (sym c.may_be_one.ensures ∙ c.if-not-may_be_one.true) refl) }

pub returns : goal.returns
returns c = record {
  adds = adds-as c.args.dues.now.items c.put_turned.new.dues.items _ _ (adds-both c.args.dues.now.items c.put_as_it_is.new.dues.items c.put_turned.new.dues.items _ _ c.in_ok-put_as_it_is.ensures.adds c.in_ok-put_turned.ensures.adds) (rw (sym c.may_be_one.ensures ∙ c.if-not-may_be_one.false) refl);
}
