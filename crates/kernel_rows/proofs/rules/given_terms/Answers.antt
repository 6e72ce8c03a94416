use Rattle.leo_terms.proofs.CallerLemmas.{extends-itself, extends-trans}
use Rattle.kernel_rows.proofs.Ready.{symbols-later}
use Rattle.kernel_rows.proofs.rules.given_terms.Goals as goal

pub loop-text-init : goal.loop-text-init
loop-text-init c = (extends-itself c.is_sound.ensures.sound, rw c.new-given.ensures (λ n t e. (let f : ⊥ = cc in absurd f)))

pub put_term-requires-clause-symbols : goal.put_term-requires-clause-symbols
put_term-requires-clause-symbols c = rw c.as_slice.ensures (symbols-later c.loop-text.invariant.0 c.args.board.now.symbols c.requires.symbols_of)

pub put_term-requires-clause-terms : goal.put_term-requires-clause-terms
put_term-requires-clause-terms c = c.loop-text.invariant.1

pub returns-in_err-read-clause-grows : goal.returns-in_err-read-clause-grows
returns-in_err-read-clause-grows c = extends-trans c.loop-text.invariant.0 c.put_term.ensures.grows

pub returns-then-not-read-clause-grows : goal.returns-then-not-read-clause-grows
returns-then-not-read-clause-grows c = extends-trans c.loop-text.invariant.0 c.put_term.ensures.grows

pub loop-text-preserved : goal.loop-text-preserved
loop-text-preserved c = (extends-trans c.loop-text.invariant.0 c.put_term.ensures.grows, c.put_term.ensures.terms)
