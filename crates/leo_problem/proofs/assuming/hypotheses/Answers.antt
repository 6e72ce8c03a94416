use Rattle.std.proofs.Common.{length, refl, arith, ◌≡◌}
use Rattle.std.proofs.lemmas.Option.{slice_get_read}
use Rattle.leo_terms.proofs.CallerLemmas.{extends-trans}
use Rattle.leo_problem.proofs.Assumed.{assumed-start, assumed-more, assumed-all}
use Rattle.leo_problem.proofs.assuming.hypotheses.Goals as goal

pub loop-one-init : goal.loop-one-init
loop-one-init c = assumed-start c.args.kept.now c.new-found.result c.is_sound.ensures.sound c.requires.names c.requires.listed c.new-found.ensures

pub returns-in_err-assume_statement-clause-grows : goal.returns-in_err-assume_statement-clause-grows
returns-in_err-assume_statement-clause-grows c = extends-trans c.loop-one.invariant.grows c.assume_statement.ensures.grows

pub loop-one-preserved : goal.loop-one-preserved
loop-one-preserved c =
    let ks = c.args.kept.now in
    assumed-more c.loop-one.invariant c.one-item.result (slice_get_read ks (length ks) c.loop-one.one-index c.one-item.result refl (omega arith) c.one-item.is)
    c.assume_statement.ensures.grows c.in_ok-assume_statement.ensures.closed c.in_ok-assume_statement.ensures.assumes

pub returns-clause-hypotheses : goal.returns-clause-hypotheses
returns-clause-hypotheses c =
    let e : c.loop-one.one-index ≡ length c.args.kept.now = omega arith in
    assumed-all c.args.kept.now (rw e at c.loop-one.invariant)
