use Rattle.std.proofs.Common.{length}
use Rattle.leo_terms.proofs.CallerLemmas.{extends-itself, extends-trans}
use Rattle.leo_tstp.proofs.Stepped.{no-steps, rising-none, steps-kept, steps-push, rising-push}
use Rattle.leo_tstp.proofs.text.lines.Goals as goal

pub loop-number-init : goal.loop-number-init
loop-number-init c = record { numbering = c.requires; read = no-steps c.args.bank.now c.new-steps.ensures.items; new = rising-none _ c.new-steps.ensures.items; grows = extends-itself c.is_sound.ensures.sound }

pub loop-number-preserved : goal.loop-number-preserved
loop-number-preserved c = record { numbering = c.in_ok-step.ensures.numbering; read = rw c.in_ok-push.ensures.items (steps-push c.next_line.new.bank c.loop-number.steps.items c.in_ok-step.step (steps-kept c.next_line.ensures.grows _ c.loop-number.invariant.read) c.in_ok-step.ensures.built); new = rw c.in_ok-push.ensures.items (rising-push (length c.args.bank.now.symbols) (length c.loop-number.bank.symbols) (length c.next_line.new.bank.symbols) c.loop-number.steps.items c.in_ok-step.step c.loop-number.invariant.new c.in_ok-step.ensures.new); grows = extends-trans c.loop-number.invariant.grows c.next_line.ensures.grows }

pub returns-in_err-step-clause-grows : goal.returns-in_err-step-clause-grows
returns-in_err-step-clause-grows c = extends-trans c.loop-number.invariant.grows c.next_line.ensures.grows

pub returns-in_err-push-clause-grows : goal.returns-in_err-push-clause-grows
returns-in_err-push-clause-grows c = extends-trans c.loop-number.invariant.grows c.next_line.ensures.grows
