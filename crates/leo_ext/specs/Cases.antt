-- The values of the two sides in the cases of an equation of truth values. No public contract speaks of it.
use Rattle.std.specs.Prelude.{Bool, true, false, not}
use Rattle.leo_clause.specs.declared.record.Half.{Half}
use Rattle.leo_clause.specs.declared.record.Half.TheVariants.{One, Two}

abbrev pub first_value : Half → Bool → Bool
first_value One positive = not positive
first_value Two positive = positive

abbrev pub second_value : Half → Bool
second_value One = true
second_value Two = false
