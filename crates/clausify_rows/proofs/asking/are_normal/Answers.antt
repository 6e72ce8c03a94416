use Rattle.leo_terms.proofs.CallerLemmas.{extends-itself, extends-trans}
use Rattle.clausify_rows.proofs.Normals.{normal-next}
use Rattle.clausify_rows.proofs.Overs.{from-on, literal-within}
use Rattle.clausify_rows.proofs.Ready.{lits-later}
use Rattle.clausify_rows.proofs.asking.are_normal.Goals as goal

pub loop-lit-init : goal.loop-lit-init
loop-lit-init c = (extends-itself c.is_sound.ensures.sound, tt)

pub is_normal_literal-requires-clause-left : goal.is_normal_literal-requires-clause-left
is_normal_literal-requires-clause-left c = (literal-within c.loop-lit.bank c.args.lits.now (lits-later c.loop-lit.invariant.0 c.args.lits.now c.requires) c.loop-lit.lit-index c.lit-item.result c.loop-lit-test.true c.lit-item.is).0

pub is_normal_literal-requires-clause-right : goal.is_normal_literal-requires-clause-right
is_normal_literal-requires-clause-right c = (literal-within c.loop-lit.bank c.args.lits.now (lits-later c.loop-lit.invariant.0 c.args.lits.now c.requires) c.loop-lit.lit-index c.lit-item.result c.loop-lit-test.true c.lit-item.is).1

pub returns-in_err-normal-clause-grows : goal.returns-in_err-normal-clause-grows
returns-in_err-normal-clause-grows c = extends-trans c.loop-lit.invariant.0 c.is_normal_literal.ensures.grows

pub returns-then-not-normal-clause-grows : goal.returns-then-not-normal-clause-grows
returns-then-not-normal-clause-grows c = extends-trans c.loop-lit.invariant.0 c.is_normal_literal.ensures.grows

pub loop-lit-preserved : goal.loop-lit-preserved
loop-lit-preserved c = (
  extends-trans c.loop-lit.invariant.0 c.is_normal_literal.ensures.grows,
  normal-next c.is_normal_literal.ensures.grows c.args.lits.now c.loop-lit.lit-index c.lit-item.result (lits-later c.loop-lit.invariant.0 c.args.lits.now c.requires) c.loop-lit.invariant.1 c.loop-lit-test.true c.lit-item.is
      (from-on c.in_ok-normal.normal c.if-not-normal.false c.in_ok-normal.ensures.normal),
)
