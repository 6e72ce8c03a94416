use Rattle.std.proofs.lemmas.Option.{slice_get_within}
use Rattle.leo_terms.proofs.CallerLemmas.{extends-itself}
use Rattle.leo_ext.proofs.FunctionMembers.{equal-clause}
use Rattle.leo_ext.proofs.func_ext.equal_at.Goals as goal

pub returns-in_err-number-clause-grows : goal.returns-in_err-number-clause-grows
returns-in_err-number-clause-grows c = extends-itself c.is_sound.ensures.sound

pub returns-in_err-fresh-clause-grows : goal.returns-in_err-fresh-clause-grows
returns-in_err-fresh-clause-grows c = extends-itself c.is_sound.ensures.sound

pub placed-requires : goal.placed-requires
placed-requires c = slice_get_within c.args.clause.now.lits c.args.at c.args.lit.now c.requires.lit

pub returns-clause-made : goal.returns-clause-made
returns-clause-made c = equal-clause c.equal_lit.ensures.grows c.args.clause.now c.in_ok-conclusion.conclusion c.args.at c.in_ok-number.number c.in_ok-fresh.fresh c.args.lit.now c.in_ok-new.new c.args.arrow.now c.requires.clause.of_bank c.requires.functions c.in_ok-number.ensures (rw c.as_slice.ensures at c.in_ok-fresh.ensures) c.in_ok-new.ensures.made c.in_ok-conclusion.ensures.vars c.in_ok-conclusion.ensures.lits
