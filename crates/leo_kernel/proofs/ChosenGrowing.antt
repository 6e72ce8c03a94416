-- Claims of a bank that grew, and the lines among which abbreviations are looked up.
use Rattle.std.proofs.Common.{ℕ, ◌≡◌, ◌∙◌, ◌<◌, Bool, List, [], ◌∷◌, length, map, slice_get, slice_index_or, Some, None, refl, arith}
use Rattle.std.specs.Bool.{Decides}
use Rattle.std.specs.Option.{option_map}
use Rattle.leo_terms.specs.Tree.{type_of}
use Rattle.leo_terms.specs.NormalForm.{normal_form}
use Rattle.leo_terms.specs.Contents.{Contents, Extends, type_at, tree_at}
use Rattle.leo_terms.proofs.CallerLemmas.{type-kept, tree-kept, type_number-kept, arrow-kept}
use Rattle.leo_clause.specs.declared.clause.Lit.{Lit}
use Rattle.leo_clause.specs.declared.record.Rule.{Rule}
use Rattle.leo_clause.specs.declared.record.Rule.TheVariants as record_of
use Rattle.leo_clause.specs.declared.record.StepRecord.{StepRecord}
use Rattle.leo_clause.specs.Trees.{Literal, literal_at}
use Rattle.leo_clause.specs.Typed.{AreTypesOf}
use Rattle.leo_kernel.specs.declared.chosen_claims.Claim as declared
use Rattle.leo_kernel.specs.declared.chosen_claims.Claim.TheVariants as said
use Rattle.leo_kernel.specs.declared.chosen_claims.Wanted.{Wanted}
use Rattle.leo_kernel.specs.ByNumber.{only}
use Rattle.leo_kernel.specs.Choosing.{Claim, chosen, chosen_type}
use Rattle.leo_kernel.specs.ChosenTerms.{MayHaveForm}
use Rattle.leo_kernel.specs.ChosenClaims.{IsClaimOf, IsWanted, claim_at}
use Rattle.leo_kernel.specs.Steps.{line_at, rule_at}
use Rattle.leo_kernel.specs.Symbols.{only_literal, abbreviation_in, abbreviation_of}
use Rattle.leo_kernel.specs.Tops.{IsPropertyOf}
use Rattle.leo_kernel.proofs.FormRules.{kept-within}
use Rattle.leo_kernel.proofs.Growing.{types-kept}
use Rattle.leo_kernel.proofs.Lists.{get-map, get-index, length-map}
use Rattle.leo_kernel.proofs.ChosenMaking.{function-kept}

module _ {c d : Contents} (e : Extends c d) where
  property-kept : {i p : ℕ} → IsPropertyOf c i p → IsPropertyOf d i p
  property-kept {i} {p} h =
      let m = e.types_more in
      let l = h.type_within in
      record { type_within = omega arith; within = kept-within e p h.within; typed = rw (type_number-kept e p h.within) (arrow-kept e h.typed) }

  pub claim-grows : (claim : declared.Claim) → IsClaimOf c claim → IsClaimOf d claim
  claim-grows (said.Value i p v) h = property-kept h
  claim-grows (said.Difference i j f g) h = (function-kept e h.0, function-kept e h.1)

  pub claim-kept : (claim : declared.Claim) → IsClaimOf c claim → claim_at d claim ≡ claim_at c claim
  claim-kept (said.Value i p v) h = rw (type-kept e i h.type_within, tree-kept e p h.within) refl
  claim-kept (said.Difference i j f g) h = rw (type-kept e i h.0.from_within, tree-kept e f h.0.within, tree-kept e g h.1.within) refl

  -- what was decided in the bank that grew
  pub fits-wanted : (claim : Claim) (w : Wanted) → IsWanted d w claim → (t : ℕ) → t < length c.terms → (r : Bool) → Decides r ((type_of (tree_at d t) ≡ type_at d w.ty) × (normal_form (tree_at d t) ≡ tree_at d w.form)) → Decides r ((type_of (tree_at c t) ≡ chosen_type claim) × (normal_form (tree_at c t) ≡ normal_form (chosen claim)))
  fits-wanted claim w h t l r k = rw (tree-kept e t l, h.type_is, h.reads) at k

  pub may-fit-wanted : (claim : Claim) (w : Wanted) → IsWanted d w claim → (vars : List ℕ) → AreTypesOf c vars → (t : ℕ) → t < length c.terms → (r : Bool) → Decides r (MayHaveForm (map (type_at d) vars) (type_at d w.ty) (tree_at d w.form) (tree_at d t)) → Decides r (MayHaveForm (map (type_at c) vars) (chosen_type claim) (normal_form (chosen claim)) (tree_at c t))
  may-fit-wanted claim w h vars types t l r k = rw (types-kept e vars types, tree-kept e t l, h.type_is, h.reads) at k

-- the abbreviation of a line
pub only-literals : (c : Contents) (ls : List Lit) → option_map (literal_at c) (only ls) ≡ only_literal (map (literal_at c) ls)
only-literals c [] = refl
only-literals c (l ∷ []) = refl
only-literals c (l ∷ k ∷ ls) = refl

module _ (c : Contents) (lines : List StepRecord) (a : ℕ) (r : StepRecord) (l : a < length (map (line_at c) lines)) (e : r ≡ slice_index_or lines a r) where
  pub abbreviation-there : abbreviation_of (map (line_at c) lines) a ≡ abbreviation_in (rule_at c r.rule) (map (literal_at c) r.clause.lits)
  abbreviation-there =
      let m = length-map (line_at c) lines in
      let h : slice_get (map (line_at c) lines) a ≡ Some (line_at c r) = get-map (line_at c) lines a ∙ rw (get-index lines a r (omega arith) e) refl in
      rw h refl

pub other-rule : (c : Contents) (r : Rule) (ls : List Literal) → ((s : ℕ) → r ≡ record_of.Abbreviate s → ⊥) → None ≡ abbreviation_in (rule_at c r) ls
other-rule c (record_of.Abbreviate s) ls f = absurd (f s refl)
other-rule c (record_of.Inst p sigma) ls f = refl
other-rule c (record_of.Axiom h) ls f = refl
other-rule c (record_of.Convert p) ls f = refl
other-rule c (record_of.Para p i s q j r path) ls f = refl
other-rule c (record_of.Arrange p) ls f = refl
other-rule c (record_of.Drop p i) ls f = refl
other-rule c (record_of.Logic p i kind a) ls f = refl
other-rule c (record_of.BoolExt p i half) ls f = refl
other-rule c (record_of.FuncExt p i a) ls f = refl
other-rule c (record_of.Decompose p i) ls f = refl
other-rule c record_of.Refl ls f = refl
other-rule c record_of.Choice ls f = refl
other-rule c (record_of.Factor p i j) ls f = refl
