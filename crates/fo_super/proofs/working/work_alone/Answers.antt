use Rattle.std.proofs.Common.{[], sym}
use Rattle.std.proofs.lemmas.List.{append-nil}
use Rattle.fo_super.proofs.Works.{all-few, works-sifted}
use Rattle.fo_super.proofs.working.work_alone.Goals as goal

pub listed_alone-requires-clause-fit : goal.listed_alone-requires-clause-fit
listed_alone-requires-clause-fit c = rw c.as_slice.ensures (all-few c.args.problem.now.syms c.args.clauses.now c.requires.fit)

pub returns-clause-worked : goal.returns-clause-worked
returns-clause-worked c = λ d e. works-sifted c.args.problem.now ((rw c.as_slice.ensures at c.in_ok-members.ensures) d e) [] (sym (append-nil c.args.clauses.now)) (rw c.as_slice-2.ensures at c.in_ok-work_all.ensures.worked)
