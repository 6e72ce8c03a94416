use Rattle.std.proofs.Common.{◌≡◌, ◌-◌, None}
use Rattle.leo_core.specs.Books.{HasGrown, standing_of}
use Rattle.leo_top.proofs.running.run.Given as goal

abbrev pub invariant-turns : goal.invariant-turns
invariant-turns l = record {
  going : l.book.ending ≡ None;
  problem : HasGrown l.initial.book.problem l.book.problem;
  settings : l.book.settings ≡ l.initial.book.settings;
}

abbrev pub decreases-turns : goal.decreases-turns
decreases-turns l = l.book.settings.turns - (standing_of l.book).state.turns
