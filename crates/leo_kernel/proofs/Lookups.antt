-- The literal of a line, by number.
use Rattle.std.proofs.Common.{ℕ, ◌≡◌, ◌∙◌, ◌<◌, Bool, List, length, map, slice_get, slice_index_or, Option, Some, None, refl, ap, arith}
use Rattle.std.specs.Prelude.{IsSomeAnd, is_some}
use Rattle.std.specs.Bool.{Decides}
use Rattle.std.specs.Option.{option_map}
use Rattle.leo_terms.specs.Tree.{Tree}
use Rattle.leo_terms.specs.Contents.{Contents, tree_at}
use Rattle.leo_clause.specs.declared.clause.Lit.{Lit}
use Rattle.leo_clause.specs.declared.record.Side.{Side}
use Rattle.leo_clause.specs.declared.record.Side.TheVariants.{Left, Right}
use Rattle.leo_clause.specs.declared.record.StepRecord.{StepRecord}
use Rattle.leo_clause.specs.Trees.{Literal, literal_at, clause_at}
use Rattle.leo_kernel.specs.ByNumber.{side_number}
use Rattle.leo_kernel.specs.Conditions.{LeadsTo}
use Rattle.leo_kernel.specs.Places.{subterm}
use Rattle.leo_kernel.specs.Shapes.{side_of}
use Rattle.leo_kernel.specs.Steps.{line_at, clause_in, literal_of}
use Rattle.leo_kernel.specs.Records.{IsStepOf, AreStepsOf}
use Rattle.leo_kernel.proofs.Lists.{get-map, get-index, length-map}
use Rattle.leo_kernel.proofs.TypedLits.{literals-at}

module _ (c : Contents) (lines : List StepRecord) (p : ℕ) (r : StepRecord) (l : p < length (map (line_at c) lines)) (e : r ≡ slice_index_or lines p r) where
  within : p < length lines
  within = let m = length-map (line_at c) lines in omega arith

  line : slice_get (map (line_at c) lines) p ≡ Some (line_at c r)
  line = get-map (line_at c) lines p ∙ rw (get-index lines p r within e) refl

  pub literal-there : (i : ℕ) (k : Lit) → i < length r.clause.lits → k ≡ slice_index_or r.clause.lits i k → literal_of (map (line_at c) lines) p i ≡ Some (literal_at c k)
  literal-there i k m f = rw line (get-map (literal_at c) r.clause.lits i ∙ rw (get-index r.clause.lits i k m f) refl)

  pub step-there : AreStepsOf c lines → IsStepOf c r
  step-there steps = steps p r (get-index lines p r within e)

  pub clause-there : clause_in (slice_get (map (line_at c) lines) p) ≡ clause_at c r.clause
  clause-there = rw line refl

  pub literal-within : (i : ℕ) → i < length (clause_in (slice_get (map (line_at c) lines) p)).literals → i < length r.clause.lits
  literal-within i h = let g : i < length (map (literal_at c) r.clause.lits) = rw line at h in let m = length-map (literal_at c) r.clause.lits in omega arith

  pub sides-within : AreStepsOf c lines → (i : ℕ) (k : Lit) → i < length r.clause.lits → k ≡ slice_index_or r.clause.lits i k → (k.left < length c.terms) × (k.right < length c.terms)
  sides-within steps i k m f = literals-at c r.clause.lits (steps p r (get-index lines p r within e)).clause_of.literals_of i k m f

pub side-within : (c : Contents) (s : Side) (k : Lit) → (k.left < length c.terms) × (k.right < length c.terms) → side_number s k < length c.terms
side-within c Left k h = h.0
side-within c Right k h = h.1

pub side-reads : (c : Contents) (s : Side) (k : Lit) → tree_at c (side_number s k) ≡ side_of s (literal_at c k)
side-reads c Left k = refl
side-reads c Right k = refl

leads-option : (o : Option ℕ) (q : Option Tree) (f : ℕ → Tree) → option_map f o ≡ q → (r : Bool) → r ≡ is_some o → Decides r (IsSomeAnd q (λ s. Unit {0}))
leads-option None q f e r g = rw (← e) (λ h. (let k : ⊥ = cc in absurd k), λ h. absurd h)
leads-option (Some t) q f e r g = rw (← e) (λ h. tt, λ h. g)

pub leads-decides : (c : Contents) (o : Option Literal) (k : Lit) (s : Side) (path : List ℕ) (w : ℕ) (found : Option ℕ) → o ≡ Some (literal_at c k) → w ≡ side_number s k → option_map (tree_at c) found ≡ subterm path (tree_at c w) → (r : Bool) → r ≡ is_some found → Decides r (IsSomeAnd o (λ j. LeadsTo path (side_of s j)))
leads-decides c o k s path w found e f g r h =
    let t : option_map (tree_at c) found ≡ subterm path (side_of s (literal_at c k)) = g ∙ ap (subterm path) (ap (tree_at c) f ∙ side-reads c s k) in
    rw e (leads-option found (subterm path (side_of s (literal_at c k))) (tree_at c) t r h)
