-- Claims that a literal becomes, as a call hands them on. No public contract speaks of it.
use Rattle.std.specs.Prelude.{◌≡◌, Bool, false, not, ◌&&◌, Option, Some, None}
use Rattle.std.specs.Bool.{beq}
use Rattle.std.specs.Option.{option_map}
use Rattle.leo_terms.specs.Contents.{Contents}
use Rattle.leo_kernel.specs.declared.chosen_claims.Claim as declared
use Rattle.leo_clause.specs.declared.record.LogicKind.{LogicKind}
use Rattle.leo_clause.specs.declared.record.LogicKind.TheVariants as kind
use Rattle.leo_terms.specs.Tree.{Tree}
use Rattle.leo_kernel.specs.declared.chosen_claims.Claim.TheVariants as said
use Rattle.leo_kernel.specs.Choosing.{Claim}
use Rattle.leo_kernel.specs.Parts.{value_of}
use Rattle.leo_kernel.specs.ChosenClaims.{claim_at}

abbrev pub BecomesIn : Contents → Option declared.Claim → Claim → Type 0
BecomesIn c o claim = option_map (claim_at c) o ≡ Some claim

-- the value that a term shows
abbrev pub is_value : Bool → Option Bool → Bool → Bool
is_value positive None v = false
is_value positive (Some w) v = positive && beq w v

-- whether a literal has the polarity of a claim, and its value on the right
abbrev pub is_said : declared.Claim → Bool → Tree → Bool
is_said (said.Value i p v) positive right = is_value positive (value_of right) v
is_said (said.Difference i j f g) positive right = not positive

-- the kinds that choose
abbrev pub Chooses : LogicKind → Type 0
Chooses kind.AllF = Unit {0}
Chooses kind.SomeT = Unit {0}
Chooses _ = ⊥
