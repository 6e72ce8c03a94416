use Rattle.std.proofs.Common.{ℕ, ◌≤◌, List, length}
use Rattle.leo_terms.specs.Contents.{Extends}
use Rattle.leo_clause.specs.Choices.{Choice}
use Rattle.leo_clause.specs.Trees.{ClauseTree}
use Rattle.leo_clausify.specs.Agendas.{IsRunning, IsUnderWay}
use Rattle.leo_clausify.proofs.splitting.exhaust.Given as goal

abbrev pub invariant-loop : goal.invariant-loop
invariant-loop l = Extends l.initial.bank l.bank × IsRunning l.bank l.agenda × ((known : ℕ) (before : List Choice) (start : ClauseTree) → known ≤ length l.initial.bank.symbols → IsUnderWay known before start l.initial.bank l.initial.agenda → IsUnderWay known before start l.bank l.agenda)
