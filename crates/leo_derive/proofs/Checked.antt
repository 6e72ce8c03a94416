-- Verdicts on lines.
use Rattle.std.proofs.Common.{◌≡◌, ℕ, zero, suc, ◌+◌, ◌<◌, List, [], ◌∷◌, map, length, take, refl, ap, sym, subst, arith, inl, inr}
use Rattle.std.specs.Prelude.{slice_get, slice_index_or, Some, Err}
use Rattle.std.proofs.lemmas.Option.{slice_get_within}
use Rattle.std.proofs.lemmas.List.{take-map}
use Rattle.leo_terms.specs.Tree.{Tree}
use Rattle.leo_terms.specs.Contents.{Contents, Extends, AreTerms, tree_at}
use Rattle.leo_terms.proofs.CallerLemmas.{trees-kept}
use Rattle.leo_clause.specs.declared.record.StepRecord.{StepRecord}
use Rattle.leo_kernel.specs.declared.reason.Reason.{Reason}
use Rattle.leo_kernel.specs.declared.reason.Reason.TheVariants.{NoEmpty}
use Rattle.leo_kernel.specs.declared.reason.StepRefusal.{StepRefusal}
use Rattle.leo_kernel.specs.declared.reason.StepRefusal.TheVariants.{Refused}
use Rattle.leo_kernel.specs.Verdicts as kernel
use Rattle.leo_kernel.specs.Records.{AreStepsOf}
use Rattle.leo_kernel.specs.Steps.{Line, line_at}
use Rattle.leo_kernel.specs.Acceptance.{Accepts, IsRefusedFor, AreAccepted}
use Rattle.leo_derive.specs.declared.refusal.CheckRefusal.{CheckRefusal}
use Rattle.leo_derive.specs.declared.refusal.CheckRefusal.TheVariants.{No, Memory}
use Rattle.leo_derive.specs.Checking.{IsAcceptedAt, IsRefusalAt, AreAcceptedBelow}
use Rattle.leo_kernel.proofs.LinesGrowing.{lines-kept}
use Rattle.leo_derive.specs.Laws.{HasEmptyLine}
use Rattle.leo_derive.specs.Resting.{IsFirstEmpty}
use Rattle.leo_derive.specs.Verdicts.{IsVerdict, IsRefusedAt, line, no_empty}
use Rattle.leo_derive.proofs.Keeping.{below_or}
use Rattle.leo_derive.proofs.Records.{line_stands}

taken : {A : Type 0} (xs : List A) (n m : ℕ) (x : A) → slice_get (take n xs) m ≡ Some x → (slice_get xs m ≡ Some x) × (m < n) × (take m (take n xs) ≡ take m xs)
taken [] zero m x e = absurd cc
taken [] (suc n) m x e = absurd cc
taken (y ∷ ys) zero m x e = absurd cc
taken (y ∷ ys) (suc n) zero x e = (e, omega arith, refl)
taken (y ∷ ys) (suc n) (suc m) x e = let r = taken ys n m x e in (r.0, (let o = r.1 in omega (arith, o)), ap (λ zs. y ∷ zs) r.2)

module _ (hypotheses : List Tree) (lines : List Line) where
  pub accepted_none : AreAcceptedBelow hypotheses lines 0
  accepted_none m o = absurd (let f : ⊥ = omega (arith, o) in f)

  pub accepted_more : {n : ℕ} → AreAcceptedBelow hypotheses lines n → IsAcceptedAt hypotheses lines n → AreAcceptedBelow hypotheses lines (n + 1)
  accepted_more {n} h one m o = elim (below_or m n o) [ inl x ↦ h m x | inr x ↦ rw x one ]

  accepted_taken : {n : ℕ} → AreAcceptedBelow hypotheses lines n → AreAccepted hypotheses (take n lines)
  accepted_taken {n} h m step e = let t = taken lines n m step e in rw t.2 (h m t.1 step t.0)

  pub accepted_all : {n : ℕ} → n ≡ length lines → AreAcceptedBelow hypotheses lines n → AreAccepted hypotheses lines
  accepted_all {n} f h m step e = h m (let o = slice_get_within lines m step e in omega (arith, o, f)) step e

  pub refused_at : {n : ℕ} (r : CheckRefusal) → AreAcceptedBelow hypotheses lines n → IsRefusalAt hypotheses lines n r → IsVerdict hypotheses lines (Err r)
  refused_at {n} (No at reason) h (step, e, g, f) = subst (λ k. IsRefusedAt hypotheses lines k reason) (sym e) (line (accepted_taken h) g f)
  refused_at Memory h r = tt

-- the verdict on a record of a bank
module _ (hypotheses : List Tree) (c : Contents) (steps : List StepRecord) (n : ℕ) (r : StepRecord) (o : n < length steps) (e : r ≡ slice_index_or steps n r) where
  before : map (line_at c) (take n steps) ≡ take n (map (line_at c) steps)
  before = sym (take-map (line_at c) n steps)

  pub record_accepted : Accepts hypotheses (map (line_at c) (take n steps)) (line_at c r) → IsAcceptedAt hypotheses (map (line_at c) steps) n
  record_accepted a step g =
      let f = line_stands c steps n r o e in
      let s : line_at c r ≡ step = cc in
      rw (← before, ← s) a

  pub record_refused : (reason : Reason) (s : StepRefusal) → s ≡ Refused reason → kernel.IsVerdict hypotheses (map (line_at c) (take n steps)) (line_at c r) (Err s) → IsRefusalAt hypotheses (map (line_at c) steps) n (No n reason)
  record_refused reason s f a = let v : IsRefusedFor hypotheses (map (line_at c) (take n steps)) (line_at c r) reason = rw f at a in (line_at c r, refl, line_stands c steps n r o e, rw (← before) v)

-- and in a bank that grew
module _ {c d : Contents} (e : Extends c d) (hyps : List ℕ) (steps : List StepRecord) (h : AreTerms c hyps) (s : AreStepsOf c steps) where
  pub accepted_kept : (n : ℕ) → IsAcceptedAt (map (tree_at d) hyps) (map (line_at d) steps) n → IsAcceptedAt (map (tree_at c) hyps) (map (line_at c) steps) n
  accepted_kept n a = rw (trees-kept e hyps h, lines-kept e steps s) at a

  pub refused_kept : (n : ℕ) (r : CheckRefusal) → IsRefusalAt (map (tree_at d) hyps) (map (line_at d) steps) n r → IsRefusalAt (map (tree_at c) hyps) (map (line_at c) steps) n r
  refused_kept n r a = subst (λ ls. IsRefusalAt (map (tree_at c) hyps) ls n r) (lines-kept e steps s) (subst (λ ts. IsRefusalAt ts (map (line_at d) steps) n r) (trees-kept e hyps h) a)

  pub empty_kept : (n : ℕ) → IsFirstEmpty (map (line_at d) steps) n → HasEmptyLine (map (line_at c) steps)
  empty_kept n f = record { number = n; line = f.line; line_is = rw (lines-kept e steps s) at f.line_is; empty = f.empty }

  pub none_kept : (HasEmptyLine (map (line_at d) steps) → ⊥) → HasEmptyLine (map (line_at c) steps) → ⊥
  none_kept f = subst (λ ls. HasEmptyLine ls → ⊥) (lines-kept e steps s) f

pub none_empty : {hypotheses : List Tree} {lines : List Line} {n : ℕ} → n ≡ length lines → AreAccepted hypotheses lines → (HasEmptyLine lines → ⊥) → IsRefusedAt hypotheses lines n NoEmpty
none_empty {hypotheses} {lines} f a g = subst (λ k. IsRefusedAt hypotheses lines k NoEmpty) (sym f) (no_empty a g)
