use Rattle.leo_terms.proofs.CallerLemmas.{extends-itself, extends-trans}
use Rattle.conclude_rows.proofs.Ready.{symbols-later, types-later, lits-later, lits-end}
use Rattle.conclude_rows.proofs.reading.literals.Goals as goal

pub literal-requires-clause-symbols : goal.literal-requires-clause-symbols
literal-requires-clause-symbols c = symbols-later c.loop-text.invariant.0 c.args.symbols.now c.requires.symbols

pub literal-requires-clause-vars : goal.literal-requires-clause-vars
literal-requires-clause-vars c = types-later c.loop-text.invariant.0 c.args.vars.now c.requires.vars

pub loop-text-init : goal.loop-text-init
loop-text-init c = (extends-itself c.is_sound.ensures.sound, rw c.new-lits.ensures tt)

pub returns-in_err-lit-clause-grows : goal.returns-in_err-lit-clause-grows
returns-in_err-lit-clause-grows c = extends-trans c.loop-text.invariant.0 c.literal.ensures.grows

pub returns-in_err-push-in-Some-clause-grows : goal.returns-in_err-push-in-Some-clause-grows
returns-in_err-push-in-Some-clause-grows c = extends-trans c.loop-text.invariant.0 c.literal.ensures.grows

pub returns-in-None-clause-grows : goal.returns-in-None-clause-grows
returns-in-None-clause-grows c = extends-trans c.loop-text.invariant.0 c.literal.ensures.grows

pub loop-text-preserved : goal.loop-text-preserved
loop-text-preserved c = (
  extends-trans c.loop-text.invariant.0 c.literal.ensures.grows,
  rw c.in_ok-push-in-Some.ensures.ok (lits-end c.literal.new.bank c.loop-text.lits c.in-Some.lit (lits-later c.literal.ensures.grows c.loop-text.lits c.loop-text.invariant.1) (rw c.in-Some.is at c.in_ok-lit.ensures.left) (rw c.in-Some.is at c.in_ok-lit.ensures.right)),
)
