-- Claims about terms of a bank, and the terms that they choose. No public contract speaks of it.
use Rattle.std.specs.Prelude.{ℕ, ◌≡◌, ◌<◌, length, Bool, true, false, Option, Some, None}
use Rattle.leo_terms.specs.Tree.{Tree}
use Rattle.leo_terms.specs.Contents.{Contents, IsArrow, tree_at, type_at, type_number}
use Rattle.leo_terms.specs.NormalForm.{normal_form}
use Rattle.leo_clause.specs.declared.record.LogicKind.{LogicKind}
use Rattle.leo_clause.specs.declared.record.LogicKind.TheVariants as kind
use Rattle.leo_clause.specs.Trees.{Literal}
use Rattle.leo_kernel.specs.declared.chosen_claims.Claim as declared
use Rattle.leo_kernel.specs.declared.chosen_claims.Claim.TheVariants as said
use Rattle.leo_kernel.specs.declared.chosen_claims.Wanted.{Wanted}
use Rattle.leo_kernel.specs.Choosing.{Claim, value, difference, chosen, chosen_type}
use Rattle.leo_kernel.specs.Parts.{Formula, for_all, for_some, formula_of, value_of}
use Rattle.leo_kernel.specs.Tops.{IsPropertyOf}

abbrev pub claim_at : Contents → declared.Claim → Claim
claim_at c (said.Value i p v) = value (type_at c i) (tree_at c p) v
claim_at c (said.Difference i j f g) = difference (type_at c i) (tree_at c f) (tree_at c g)

-- a function from things of one type to things of another
pub record IsFunctionOf (c : Contents) (i j f : ℕ) : Type 0 where
  pub from_within : i < length c.types
  pub to_within : j < length c.types
  pub within : f < length c.terms
  pub typed : IsArrow c (type_number c f) i j

-- the numbers are numbers of the bank
abbrev pub IsClaimOf : Contents → declared.Claim → Type 0
IsClaimOf c (said.Value i p v) = IsPropertyOf c i p
IsClaimOf c (said.Difference i j f g) = IsFunctionOf c i j f × IsFunctionOf c i j g

-- the number of the type of the chosen thing
abbrev pub type_chosen : declared.Claim → ℕ
type_chosen (said.Value i p v) = i
type_chosen (said.Difference i j f g) = i

-- the type and the normal form of the chosen term
pub record IsWanted (c : Contents) (w : Wanted) (claim : Claim) : Type 0 where
  pub type_within : w.ty < length c.types
  pub within : w.form < length c.terms
  pub type_is : type_at c w.ty ≡ chosen_type claim
  pub reads : tree_at c w.form ≡ normal_form (chosen claim)

-- the claim that a literal about a truth value becomes
abbrev pub all_claim : Formula → Bool → Option Claim
all_claim (for_all c p) false = Some (value c p false)
all_claim _ _ = None

abbrev pub some_claim : Formula → Bool → Option Claim
some_claim (for_some c p) true = Some (value c p true)
some_claim _ _ = None

abbrev pub claim_by : LogicKind → Formula → Bool → Option Claim
claim_by kind.AllF f v = all_claim f v
claim_by kind.SomeT f v = some_claim f v
claim_by _ f v = None

abbrev pub claim_valued : LogicKind → Tree → Bool → Option Bool → Option Claim
claim_valued k a false o = None
claim_valued k a true None = None
claim_valued k a true (Some v) = claim_by k (formula_of a) v

abbrev pub claim_of : LogicKind → Literal → Option Claim
claim_of k l = claim_valued k l.left l.positive (value_of l.right)
