use Rattle.std.proofs.lemmas.Option.{slice_get_within}
use Rattle.leo_terms.proofs.CallerLemmas.{extends-itself}
use Rattle.leo_ext.proofs.FunctionMembers.{different-clause, literal-typed}
use Rattle.leo_ext.proofs.func_ext.different_at.Goals as goal

pub returns-in_err-number-clause-grows : goal.returns-in_err-number-clause-grows
returns-in_err-number-clause-grows c = extends-itself c.is_sound.ensures.sound

pub picked-requires-clause-types : goal.picked-requires-clause-types
picked-requires-clause-types c = rw c.as_slice.ensures c.requires.clause.of_bank.types_of

pub picked-requires-clause-left : goal.picked-requires-clause-left
picked-requires-clause-left c = rw c.as_slice.ensures (literal-typed c.args.bank.now c.args.clause.now c.args.at c.args.lit.now c.requires.clause c.requires.lit).left_over

pub picked-requires-clause-right : goal.picked-requires-clause-right
picked-requires-clause-right c = rw c.as_slice.ensures (literal-typed c.args.bank.now c.args.clause.now c.args.at c.args.lit.now c.requires.clause c.requires.lit).right_over

pub placed-requires : goal.placed-requires
placed-requires c = slice_get_within c.args.clause.now.lits c.args.at c.args.lit.now c.requires.lit

pub returns-clause-made : goal.returns-clause-made
returns-clause-made c =
    different-clause c.picked.ensures.grows c.args.choices.now.items c.picked.new.choices.items c.args.clause.now c.in_ok-conclusion.conclusion c.args.at c.in_ok-number.number c.args.lit.now c.in_ok-picked.picked c.requires.clause.of_bank (rw c.as_slice.ensures at c.in_ok-picked.ensures.made) c.in_ok-number.ensures c.in_ok-conclusion.ensures.vars c.in_ok-conclusion.ensures.lits
