use Rattle.std.proofs.Common.{◌-◌, []}
use Rattle.leo_clause.specs.Trees.{clause_at}
use Rattle.leo_conclude.specs.Deriving.{IsChanged}
use Rattle.leo_conclude.proofs.Constraining.{partly}
use Rattle.leo_conclude.proofs.relieving.relieve_all.Given as goal

abbrev pub invariant-loop-done : goal.invariant-loop-done
invariant-loop-done l = IsChanged l.bank l.fn.derived l.present [] (partly l.constraints (l.count - l.done) (clause_at l.bank l.fn.derived.clause).literals) []
