use Rattle.std.proofs.Common.{[]}
use Rattle.leo_elab.specs.Problem.{Declared}
use Rattle.leo_elab.specs.Table.{declared_in}
use Rattle.leo_elab.specs.Places.{Around}
use Rattle.leo_elab.proofs.Places.{around-itself}
use Rattle.leo_elab.proofs.terms.elaborate.Goals as goal

pub returns-clause-meaning : goal.returns-clause-meaning
returns-clause-meaning c = let d : Declared = declared_in c.args.bank.now c.args.names.now in let o : Around c.args.bank.now c.args.names.now [] d [] = around-itself (record { names = c.requires; bound = tt }) in let k : Around c.args.bank.now c.args.names.now c.new-scope.result.items d [] = rw c.new-scope.ensures.items o in let f = c.in_ok-t.ensures.value d [] k in record { closed_formula = record { within = f.stands.within; formula = c.in_ok-t.ensures.formula.formula; closed = f.stands.scoped }; means = rw f.stands.decodes f.means }
