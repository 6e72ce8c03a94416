use Rattle.std.proofs.Common.{refl}
use Rattle.leo_terms.proofs.CallerLemmas.{extends-itself}
use Rattle.leo_clause.specs.Trees.{clause_at}
use Rattle.leo_ext.proofs.Adding.{adds-as, adds-none}
use Rattle.leo_ext.proofs.ChoiceMembers.{is-closed, not-closed, of-none}
use Rattle.leo_ext.proofs.choice.put_choice_in.Goals as goal

pub returns-in_default-clause-adds : goal.returns-in_default-clause-adds
returns-in_default-clause-adds c = adds-none (extends-itself c.is_sound.ensures.sound) c.args.dues.now.items _ (rw (← c.head_term-function.ensures.reads) ((of-none c.chosen_at.result _ _ c.in_default.not-Some c.chosen_at.ensures).no_member c.args.before (clause_at c.args.bank.now c.args.clause.now)))

pub returns-in_default-clause-grows : goal.returns-in_default-clause-grows
returns-in_default-clause-grows c = extends-itself c.is_sound.ensures.sound

pub returns-then-not-is_locally_closed-clause-adds : goal.returns-then-not-is_locally_closed-clause-adds
returns-then-not-is_locally_closed-clause-adds c = adds-none (extends-itself c.is_sound.ensures.sound) c.args.dues.now.items _ (rw (← c.head_term-function.ensures.reads, c.in-Some.ensures.reads, not-closed _ c.is_locally_closed.result c.is_locally_closed.ensures.closed.1 c.if-not-is_locally_closed.true) refl)

pub returns-then-not-is_locally_closed-clause-grows : goal.returns-then-not-is_locally_closed-clause-grows
returns-then-not-is_locally_closed-clause-grows c = extends-itself c.is_sound.ensures.sound

pub returns-clause-adds : goal.returns-clause-adds
returns-clause-adds c = adds-as c.args.dues.now.items c.put_chosen.new.dues.items _ _ c.in_ok-put_chosen.ensures.adds (rw (← c.head_term-function.ensures.reads, c.in-Some.ensures.reads, is-closed _ c.is_locally_closed.result c.is_locally_closed.ensures.closed.0 c.if-not-is_locally_closed.false) refl)
