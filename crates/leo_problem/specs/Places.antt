-- Where a file stands among the includes of a problem.
use Rattle.std.specs.Prelude.{ℕ, List}

-- a file: the folder in which its includes are looked for, how many levels of includes lead to it, and its name
pub record Place : Type 0 where
  pub folder : List ℕ
  pub level : ℕ
  pub file : List ℕ
