-- The ranges of the settings.
use Rattle.std.specs.Prelude.{◌≤◌}
use Rattle.leo_core.specs.declared.settings.Settings.{Settings}

pub record AreSettings (s : Settings) : Type 0 where
  pub some_turn : 1 ≤ s.turns
  pub turns : s.turns ≤ 1000000
  pub depth : s.depth ≤ 6
  pub some_weight : 1 ≤ s.weight
  pub weight : s.weight ≤ 512
