-- Pruned lines of accepted ones are accepted, and one of them is empty.
use Rattle.std.proofs.Common.{◌≡◌, ℕ, zero, suc, ◌+◌, ◌<◌, Bool, true, false, cond, List, [], ◌∷◌, length, take, refl, sym, subst, arith}
use Rattle.std.specs.Prelude.{slice_get, Some, None}
use Rattle.std.specs.List.{Contains}
use Rattle.std.proofs.lemmas.Option.{slice_get_within}
use Rattle.leo_terms.specs.Tree.{Tree}
use Rattle.leo_kernel.specs.Steps.{StepRule, assume, convert, inst, para, arrange, drop_literal, take_apart, bool_ext, func_ext, decompose, reflexivity, choose, factor, abbreviate, Line}
use Rattle.leo_kernel.specs.Conditions.{HasParents}
use Rattle.leo_kernel.specs.Symbols.{RuleLacksSymbol, LinesLackSymbol}
use Rattle.leo_kernel.specs.Acceptance.{Accepts, AreAccepted}
use Rattle.leo_derive.specs.Resting.{named, on_named, itself, further}
use Rattle.leo_derive.specs.Pruning.{kept_before, numbered_rule, numbered_line, kept_lines, IsPruned}
use Rattle.leo_derive.specs.Laws.{HasEmptyLine, PrunedLinesAreAccepted}
use Rattle.leo_derive.proofs.Kept.{kept_get, kept_origin, kept_take, Origin}
use Rattle.leo_derive.proofs.Renumbered.{IsSameLine, same_line, numbered_accepted}

-- ---- a line that a rule names is an earlier one

only : (p q n : ℕ) → Contains (p ∷ []) q → p < n → q < n
only p q n (zero, l, e) o = let f : p ≡ q = e in omega (arith, f, o)
only p q n (suc k, l, e) o = absurd (omega (arith, l))

either : (p r q n : ℕ) → Contains (p ∷ r ∷ []) q → p < n → r < n → q < n
either p r q n (zero, l, e) o u = let f : p ≡ q = e in omega (arith, f, o)
either p r q n (suc zero, l, e) o u = let f : r ≡ q = e in omega (arith, f, u)
either p r q n (suc (suc k), l, e) o u = absurd (omega (arith, l))

none : (q : ℕ) → Contains [] q → ⊥
none q (k, l, e) = omega (arith, l)

pub named_earlier : (hypotheses : List Tree) (lines : List Line) (r : StepRule) (q : ℕ) → HasParents hypotheses lines r → Contains (named r) q → q < length lines
named_earlier hypotheses lines (assume h) q e c = absurd (none q c)
named_earlier hypotheses lines (convert p) q e c = only p q (length lines) c e
named_earlier hypotheses lines (inst p sigma) q e c = only p q (length lines) c e
named_earlier hypotheses lines (para p i s t j r path) q e c = either p t q (length lines) c e.0 e.1
named_earlier hypotheses lines (arrange p) q e c = only p q (length lines) c e
named_earlier hypotheses lines (drop_literal p i) q e c = only p q (length lines) c e
named_earlier hypotheses lines (take_apart p i kind None) q e c = only p q (length lines) c e.0
named_earlier hypotheses lines (take_apart p i kind (Some a)) q e c = either p a q (length lines) c e.0 e.1
named_earlier hypotheses lines (bool_ext p i half) q e c = only p q (length lines) c e
named_earlier hypotheses lines (func_ext p i None) q e c = only p q (length lines) c e.0
named_earlier hypotheses lines (func_ext p i (Some a)) q e c = either p a q (length lines) c e.0 e.1
named_earlier hypotheses lines (decompose p i) q e c = only p q (length lines) c e
named_earlier hypotheses lines reflexivity q e c = absurd (none q c)
named_earlier hypotheses lines choose q e c = absurd (none q c)
named_earlier hypotheses lines (factor p i j) q e c = only p q (length lines) c e
named_earlier hypotheses lines (abbreviate s) q e c = absurd (none q c)

-- ---- symbols

rule_lacks : (number : ℕ → ℕ) (s : ℕ) (r : StepRule) → RuleLacksSymbol s r → RuleLacksSymbol s (numbered_rule number r)
rule_lacks number s (inst p sigma) h = h
rule_lacks number s _ h = tt

lines_lack : (keeps : ℕ → Bool) (s n : ℕ) (ls : List Line) → LinesLackSymbol s ls → LinesLackSymbol s (kept_lines keeps n ls)
lines_lack keeps s n [] h = tt
lines_lack keeps s n (l ∷ ls) h = by (keeps n) (lines_lack keeps s (suc n) ls h.2)
  where
    by : (b : Bool) → LinesLackSymbol s (kept_lines keeps (suc n) ls) → LinesLackSymbol s (cond b (numbered_line (kept_before keeps) l ∷ kept_lines keeps (suc n) ls) (kept_lines keeps (suc n) ls))
    by true k = (h.0, rule_lacks (kept_before keeps) s l.rule h.1, k)
    by false k = k

-- ---- the law

some_line : (ls : List Line) (n : ℕ) → n < length ls → (l : Line) × (slice_get ls n ≡ Some l)
some_line [] n o = absurd (omega (arith, o))
some_line (l ∷ ls) zero o = (l, refl)
some_line (l ∷ ls) (suc n) o = some_line ls n (omega (arith, o))

take_get : (ls : List Line) (n p : ℕ) (l : Line) → slice_get (take n ls) p ≡ Some l → slice_get ls p ≡ Some l
take_get ls zero p l e = absurd cc
take_get [] (suc n) p l e = e
take_get (x ∷ xs) (suc n) zero l e = e
take_get (x ∷ xs) (suc n) (suc p) l e = take_get xs n p l e

module _ (hypotheses : List Tree) (lines result : List Line) (accepted : AreAccepted hypotheses lines) (pruned : IsPruned lines result) where
  abbrev keeps : ℕ → Bool
  keeps = pruned.keeps

  named_same : (n : ℕ) (l : Line) → slice_get lines n ≡ Some l → keeps n ≡ true → (p : ℕ) → Contains (named l.rule) p → IsSameLine (take n lines) (kept_lines keeps 0 (take n lines)) p (kept_before keeps p)
  named_same n l g k p c =
      let o = named_earlier hypotheses (take n lines) l.rule p (accepted n l g).parents c in
      let x = some_line (take n lines) p o in
      let kept : keeps p ≡ true = (pruned.keeps_exactly p).1 (further ((pruned.keeps_exactly n).0 k) (on_named l g c)) in
      let z : 0 + p ≡ p = omega arith in
      same_line (kept_before keeps) (take n lines) (kept_lines keeps 0 (take n lines)) p (kept_before keeps p) x.0 x.1
      (kept_get keeps (take n lines) 0 p (kept_before keeps p) x.0 x.1 (rw z kept) (rw z (omega arith)))

  from_origin : (j : ℕ) (step : Line) → Origin keeps lines 0 j step → Accepts hypotheses (take j (kept_lines keeps 0 lines)) step
  from_origin j step o =
      let n = o.place in
      let z : 0 + n ≡ n = omega arith in
      let k : keeps n ≡ true = rw z at o.kept in
      let e = kept_take keeps lines 0 n j (let w = slice_get_within lines n o.line o.line_is in omega (arith, w)) o.number_is in
      rw (e, o.step_is) (numbered_accepted hypotheses (take n lines) (kept_lines keeps 0 (take n lines)) (kept_before keeps) o.line (named_same n o.line o.line_is k) (λ s h. lines_lack keeps s 0 (take n lines) h) (accepted n o.line o.line_is))

  pub pruned_accepted : AreAccepted hypotheses result
  pruned_accepted = subst (AreAccepted hypotheses) (sym pruned.result_is) (λ j step g. from_origin j step (kept_origin keeps lines 0 j step g))

  pub pruned_empty : HasEmptyLine result
  pruned_empty =
      let g = pruned.goal in
      let z : 0 + g ≡ g = omega arith in
      let k : keeps g ≡ true = (pruned.keeps_exactly g).1 itself in
      record {
        number = kept_before keeps g;
        line = numbered_line (kept_before keeps) pruned.goal_is.line;
        line_is = subst (λ x. slice_get x (kept_before keeps g) ≡ Some (numbered_line (kept_before keeps) pruned.goal_is.line)) (sym pruned.result_is) (kept_get keeps lines 0 g (kept_before keeps g) pruned.goal_is.line pruned.goal_is.line_is (rw z k) (rw z (omega arith)));
        empty = pruned.goal_is.empty;
      }

pub pruned_law : PrunedLinesAreAccepted
pruned_law hypotheses lines result accepted pruned = (pruned_accepted hypotheses lines result accepted pruned, pruned_empty hypotheses lines result accepted pruned)
