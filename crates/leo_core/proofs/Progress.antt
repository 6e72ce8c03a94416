-- What callers cite of turns: each is one more, and none goes past the limit.
use Rattle.std.proofs.Common.{ℕ, suc, ◌≡◌, ◌<◌, Some, arith}
use Rattle.leo_derive.specs.Verdicts.{hypotheses_of}
use Rattle.leo_core.specs.declared.event.Event.TheVariants.{Turn}
use Rattle.leo_core.specs.declared.event.Owed.TheVariants as owed
use Rattle.leo_core.specs.Machine.{Standing, IsDue, IsOwed, due, Steps, turned}
use Rattle.leo_core.specs.Books.{Pages, standing_of, setting_with, IsBook, HasTurned}
use Rattle.leo_core.proofs.Runs.{is_below, runs_are_counted}

due_is : {limit : ℕ} {s : Standing} → IsOwed limit s (Some owed.Turn) → IsDue limit s.state owed.Turn
due_is (due what e d) = d

-- where a turn is owed, there were fewer turns than the limit
pub turn_is_below : {p : Pages} → IsBook p → IsOwed p.settings.turns (standing_of p) (Some owed.Turn) → p.search.turns < p.settings.turns
turn_is_below {p} h o =
    let r = runs_are_counted (setting_with h.run.symbols p.settings) p.settings.turns (hypotheses_of p.problem) p.journal (standing_of p) h.run.run in
    let l = is_below (due_is o) r.1 in
    omega (arith, l)

-- after a turn there was one turn more
pub turn_counts : {old new : Pages} → HasTurned old new → new.search.turns ≡ suc old.search.turns
turn_counts {old} {new} h = by h.step
  where
    by : {e : Standing} {given kept : ℕ} → Steps (setting_with h.symbols old.settings) old.settings.turns (standing_of old) (Turn given kept) e → e.state.turns ≡ suc old.search.turns
    by (turned given kept next going d turn) = turn.turns
