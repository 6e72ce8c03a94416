use Rattle.leo_terms.proofs.CallerLemmas.{extends-itself}
use Rattle.unify_rows.proofs.Overs.{from-on}
use Rattle.unify_rows.proofs.Pairs.{typed-pairs, have-terms}
use Rattle.unify_rows.proofs.asking.solved.Goals as goal

pub returns-then-not-is_typed-clause-grows : goal.returns-then-not-is_typed-clause-grows
returns-then-not-is_typed-clause-grows c = extends-itself c.is_sound.ensures.sound

pub returns-in_err-pairs-clause-grows : goal.returns-in_err-pairs-clause-grows
returns-in_err-pairs-clause-grows c = extends-itself c.is_sound.ensures.sound

pub solve-requires-clause-pairs : goal.solve-requires-clause-pairs
solve-requires-clause-pairs c = rw (c.as_slice-2.ensures, c.as_slice-3.ensures, c.in_ok-pairs.ensures, c.as_slice.ensures) (typed-pairs c.args.bank.now c.args.clause.now (from-on c.is_typed.result c.if-not-is_typed.false c.is_typed.ensures))

pub returns-clause-sigmas : goal.returns-clause-sigmas
returns-clause-sigmas c = have-terms c.solve.new.bank _ c.in_ok-found.found c.in_ok-found.ensures.sigmas
