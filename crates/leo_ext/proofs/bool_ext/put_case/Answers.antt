use Rattle.leo_ext.proofs.Adding.{lit-stands}
use Rattle.std.proofs.lemmas.Option.{slice_get_within}
use Rattle.leo_ext.proofs.Casing.{case-added}
use Rattle.leo_ext.proofs.bool_ext.put_case.Goals as goal

pub case-requires-clause-left : goal.case-requires-clause-left
case-requires-clause-left c = (lit-stands c.args.bank.now c.args.clause.now.lits c.args.at c.args.lit.now c.requires.clause.of_bank.literals_of c.requires.lit).0

pub case-requires-clause-right : goal.case-requires-clause-right
case-requires-clause-right c = (lit-stands c.args.bank.now c.args.clause.now.lits c.args.at c.args.lit.now c.requires.clause.of_bank.literals_of c.requires.lit).1

pub placed-requires : goal.placed-requires
placed-requires c = slice_get_within c.args.clause.now.lits c.args.at c.args.lit.now c.requires.lit

pub returns : goal.returns
returns c = record {
  adds = case-added c.args.bank.now c.is_sound.ensures.sound c.args.clause.now c.in_ok-conclusion.conclusion c.requires.clause.of_bank c.args.before c.args.at c.in_ok-number.number c.args.lit.now c.args.half c.in_ok-new.new c.args.dues.now.items c.put_member.new.dues.items c.in_ok-records.records c.in_ok-new.ensures.made c.in_ok-conclusion.ensures.vars (rw c.as_slice.ensures at c.in_ok-conclusion.ensures.lits) c.in_ok-number.ensures c.in_ok-records.ensures c.in_ok-put_member.ensures;
}
