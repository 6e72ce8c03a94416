use Rattle.leo_clause.specs.Trees.{clause_at}
use Rattle.leo_terms.proofs.CallerLemmas.{extends-itself, extends-trans}
use Rattle.leo_kernel.proofs.Growing.{clause-grow, lits-grow, types-grow}
use Rattle.leo_kernel.proofs.Lists.{get-index}
use Rattle.leo_para.specs.Members.{due_members}
use Rattle.leo_para.proofs.Stepping.{done-next, done-none, done-whole, fits}
use Rattle.leo_para.proofs.paramodulation.dues_of.Goals as goal

pub loop-member-init : goal.loop-member-init
loop-member-init c =
    (extends-itself c.is_sound.ensures.sound, rw c.new-dues.ensures (done-none c.args.bank.now c.args.from.now c.args.into.now (due_members (clause_at c.args.bank.now c.args.from.now) (clause_at c.args.bank.now c.args.into.now))))

pub due_of-requires-clause-from : goal.due_of-requires-clause-from
due_of-requires-clause-from c = clause-grow c.loop-member.invariant.0 c.args.from.now c.requires.source_of

pub due_of-requires-clause-types : goal.due_of-requires-clause-types
due_of-requires-clause-types c = types-grow c.loop-member.invariant.0 c.args.into.now.vars c.requires.target_of.types_of

pub due_of-requires-clause-moved : goal.due_of-requires-clause-moved
due_of-requires-clause-moved c = lits-grow c.loop-member.invariant.0 c.args.moved.now c.requires.moved_of

pub due_of-requires-clause-fits : goal.due_of-requires-clause-fits
due_of-requires-clause-fits c =
    fits c.args.from.now c.args.into.now c.args.moved.now c.args.found.now c.requires c.loop-member.invariant.0 c.loop-member.member-index c.member-item.result
    (get-index c.args.found.now c.loop-member.member-index c.member-item.result c.loop-member-test.true c.member-item.is)

pub returns-in_err-due-clause-grows : goal.returns-in_err-due-clause-grows
returns-in_err-due-clause-grows c = extends-trans c.loop-member.invariant.0 c.due_of.ensures.grows

pub returns-in_err-push-clause-grows : goal.returns-in_err-push-clause-grows
returns-in_err-push-clause-grows c = extends-trans c.loop-member.invariant.0 c.due_of.ensures.grows

pub loop-member-preserved : goal.loop-member-preserved
loop-member-preserved c =
    let e = c.loop-member.invariant.0 in
    let f = c.due_of.ensures.grows in (
      extends-trans e f,
      rw c.in_ok-push.ensures.ok
          (done-next c.args.from.now c.args.into.now c.args.moved.now c.args.found.now c.requires e c.loop-member.member-index c.member-item.result
          (get-index c.args.found.now c.loop-member.member-index c.member-item.result c.loop-member-test.true c.member-item.is)
          f c.loop-member.dues c.in_ok-due.due c.loop-member.invariant.1 c.in_ok-due.ensures.made),
    )

pub returns-clause-done : goal.returns-clause-done
returns-clause-done c = done-whole c.args.from.now c.args.into.now c.args.moved.now c.args.found.now c.requires c.loop-member.member-index c.loop-member.dues c.loop-member-test.false c.loop-member.invariant.1
