-- Which words stand at the front of a bracket and between two terms. For private contracts.
use Rattle.std.specs.Prelude.{ℕ, List, codes, Option, Some, None, if◌then◌else◌}
use Rattle.std.specs.Str.{bytes_eq}
use Rattle.leo_tstp.specs.declared.reading.trees.Joint.TheVariants as joint
use Rattle.leo_tstp.specs.declared.reading.trees.Quantifier.TheVariants as quantifier
use Rattle.leo_tstp.specs.declared.reading.terms.Opening.{Opening}
use Rattle.leo_tstp.specs.declared.reading.terms.Opening.TheVariants.{Lambda, Binder, Applied, Not, Other}
use Rattle.leo_tstp.specs.declared.reading.terms.Between.{Between}
use Rattle.leo_tstp.specs.declared.reading.terms.Between.TheVariants.{Apply, Join, Equal}

-- what a word behind a bracket says of what stands there
abbrev pub opening : List ℕ → Opening
opening w =
    if bytes_eq w (codes "^") then Lambda
    else (if bytes_eq w (codes "!") then Binder quantifier.All
    else (if bytes_eq w (codes "?") then Binder quantifier.Some
    else (if bytes_eq w (codes "@+") then Binder quantifier.Choice
    else (if bytes_eq w (codes "!!") then Applied quantifier.All
    else (if bytes_eq w (codes "??") then Applied quantifier.Some
    else (if bytes_eq w (codes "@@+") then Applied quantifier.Choice
    else (if bytes_eq w (codes "~") then Not else Other)))))))

-- what a word between two terms says
abbrev pub between : List ℕ → Option Between
between w =
    if bytes_eq w (codes "@") then Some Apply
    else (if bytes_eq w (codes "|") then Some (Join joint.Or)
    else (if bytes_eq w (codes "&") then Some (Join joint.And)
    else (if bytes_eq w (codes "=>") then Some (Join joint.Implies)
    else (if bytes_eq w (codes "=") then Some Equal else None))))
