use Rattle.std.proofs.Common.{◌∙◌, sym, refl}
use Rattle.leo_terms.proofs.CallerLemmas.{extends-itself}
use Rattle.leo_ext.proofs.Adding.{adds-as, adds-both, adds-none, lit-stands}
use Rattle.leo_ext.proofs.bool_ext.put_bool_ext_at.Goals as goal

pub is_equation_of_truths-requires-clause-left : goal.is_equation_of_truths-requires-clause-left
is_equation_of_truths-requires-clause-left c = (lit-stands c.args.bank.now c.args.clause.now.lits c.args.at c.args.lit c.requires.clause.of_bank.literals_of c.requires.lit).0

pub is_equation_of_truths-requires-clause-right : goal.is_equation_of_truths-requires-clause-right
is_equation_of_truths-requires-clause-right c = (lit-stands c.args.bank.now c.args.clause.now.lits c.args.at c.args.lit c.requires.clause.of_bank.literals_of c.requires.lit).1

pub returns-then-not-is_equation_of_truths : goal.returns-then-not-is_equation_of_truths
returns-then-not-is_equation_of_truths c = record { adds = adds-none (extends-itself c.is_sound.ensures.sound) c.args.dues.now.items _ (rw (sym c.is_equation_of_truths.ensures ∙ c.if-not-is_equation_of_truths.true) refl) }

pub returns : goal.returns
returns c = record {
  adds = adds-as c.args.dues.now.items c.put_case-2.new.dues.items _ _ (adds-both c.args.dues.now.items c.put_case.new.dues.items c.put_case-2.new.dues.items _ _ c.in_ok-put_case.ensures.adds c.in_ok-put_case-2.ensures.adds) (rw (sym c.is_equation_of_truths.ensures ∙ c.if-not-is_equation_of_truths.false) refl);
}
