use Rattle.fo_super.specs.Turns.{done, passed}
use Rattle.fo_super.specs.Viewing.{member_of}
use Rattle.fo_super.proofs.Works.{names-sorted}
use Rattle.fo_super.proofs.working.work.Goals as goal

pub due-requires : goal.due-requires
due-requires c = rw (c.as_slice-syms.ensures, c.as_slice.ensures) (names-sorted c.args.problem.now.syms c.args.clauses.now (member_of c.args.member.now) c.requires.fit)

pub returns-in-None-clause-worked : goal.returns-in-None-clause-worked
returns-in-None-clause-worked c = passed (rw (c.as_slice-syms.ensures, c.as_slice.ensures, c.in-None.is) at c.in_ok-due.ensures) done

pub take_in-requires-clause-due : goal.take_in-requires-clause-due
take_in-requires-clause-due c = rw (c.as_slice-syms.ensures, c.as_slice.ensures, c.in-Some.is) at c.in_ok-due.ensures
