-- Pruned lines are from the hypotheses, if all lines are.
use Rattle.std.proofs.Common.{ℕ, zero, suc, nat_eq, ◌≡◌, ◌⊎◌, inl, inr, ◌+◌, ◌-◌, ◌<◌, ◌≤◌, Bool, true, false, ◌||◌, List, [], ◌∷◌, take, slice_get, Some, refl, sym, ap, subst, arith}
use Rattle.std.proofs.lemmas.Bool.Decides.{nat_tests}
use Rattle.leo_q0.specs.Terms.{SimpleType, base, arrow}
use Rattle.leo_terms.specs.Tree.{Tree, variable, bound, symbol, app, lam, logic, absent, Connective, truth, falsity, negation, disjunction, conjunction, implication, equality, universal, existential, choice}
use Rattle.leo_clause.specs.Trees.{Literal}
use Rattle.leo_kernel.specs.Steps.{StepRule, assume, convert, inst, para, arrange, drop_literal, take_apart, bool_ext, func_ext, decompose, reflexivity, choose, factor, abbreviate, Line}
use Rattle.leo_kernel.specs.Symbols.{LacksSymbol, LackSymbol, LiteralsLackSymbol, RuleLacksSymbol}
use Rattle.leo_clausify.specs.Origins.{Origin, IsTypeFrom, AreTypesFrom, IsConstantFrom, IsTermFrom, AreTermsFrom, AreLiteralsFrom, IsRuleFrom, IsLineFrom}
use Rattle.leo_derive.specs.Pruning.{IsPruned, kept_before, kept_lines, numbered_line, numbered_rule}
use Rattle.leo_derive.specs.Resting.{LineLacksSymbol, further, on_symbol}
use Rattle.leo_derive.proofs.Kept as kept
use Rattle.leo_turn.specs.Origins.{AreFrom, IsOriginOf}
use Rattle.leo_turn.proofs.Origins.{line-numbered}

-- what is from an origin is from another one with the same base types, if this one has each symbol that stands there
module _ (wide o : Origin) (bases : (b : ℕ) → wide.has_base b ≡ true → o.has_base b ≡ true) where
  type-still : (a : SimpleType) → IsTypeFrom wide a → IsTypeFrom o a
  type-still (base n) h = bases n h
  type-still (arrow a b) h = (type-still a h.0, type-still b h.1)

  types-still : (types : List SimpleType) → AreTypesFrom wide types → AreTypesFrom o types
  types-still [] h = tt
  types-still (a ∷ types) h = (type-still a h.0, types-still types h.1)

  constant-still : (c : Connective) → IsConstantFrom wide c → IsConstantFrom o c
  constant-still (equality a) h = type-still a h
  constant-still (universal a) h = type-still a h
  constant-still (existential a) h = type-still a h
  constant-still (choice a) h = type-still a h
  constant-still truth h = tt
  constant-still falsity h = tt
  constant-still negation h = tt
  constant-still disjunction h = tt
  constant-still conjunction h = tt
  constant-still implication h = tt

  -- the symbol is one of the other origin, if it is one of this and is not lacking
  abbrev IsStill : (ℕ → Type 0) → Type 0
  IsStill Lacks = (s : ℕ) → (Lacks s → ⊥) → wide.has_symbol s ≡ true → o.has_symbol s ≡ true

  term-still : (t : Tree) → IsStill (λ s. LacksSymbol s t) → IsTermFrom wide t → IsTermFrom o t
  term-still (variable n a) f h = type-still a h
  term-still (bound i a) f h = type-still a h
  term-still (symbol n a) f h = (f n (λ lacks. lacks refl) h.0, type-still a h.1)
  term-still (app x y) f h = (term-still x (λ s e. f s (λ p. e p.0)) h.0, term-still y (λ s e. f s (λ p. e p.1)) h.1)
  term-still (lam a t) f h = (type-still a h.0, term-still t f h.1)
  term-still (logic c x y) f h = (constant-still c h.0, term-still x (λ s e. f s (λ p. e p.0)) h.1, term-still y (λ s e. f s (λ p. e p.1)) h.2)
  term-still absent f h = tt

  terms-still : (ts : List Tree) → IsStill (λ s. LackSymbol s ts) → AreTermsFrom wide ts → AreTermsFrom o ts
  terms-still [] f h = tt
  terms-still (t ∷ ts) f h = (term-still t (λ s e. f s (λ p. e p.0)) h.0, terms-still ts (λ s e. f s (λ p. e p.1)) h.1)

  literals-still : (ls : List Literal) → IsStill (λ s. LiteralsLackSymbol s ls) → AreLiteralsFrom wide ls → AreLiteralsFrom o ls
  literals-still [] f h = tt
  literals-still (l ∷ ls) f h = (term-still l.left (λ s e. f s (λ p. e p.0)) h.0, term-still l.right (λ s e. f s (λ p. e p.1)) h.1, literals-still ls (λ s e. f s (λ p. e p.2)) h.2)

  rule-still : (r : StepRule) → IsStill (λ s. RuleLacksSymbol s r) → ((s : ℕ) → r ≡ abbreviate s → o.has_symbol s ≡ true) → IsRuleFrom wide r → IsRuleFrom o r
  rule-still (inst p sigma) f g h = terms-still sigma f h
  rule-still (abbreviate s) f g h = g s refl
  rule-still (assume n) f g h = tt
  rule-still (convert p) f g h = tt
  rule-still (para p i s q j r path) f g h = tt
  rule-still (arrange p) f g h = tt
  rule-still (drop_literal p i) f g h = tt
  rule-still (take_apart p i kind a) f g h = tt
  rule-still (bool_ext p i half) f g h = tt
  rule-still (func_ext p i a) f g h = tt
  rule-still (decompose p i) f g h = tt
  rule-still reflexivity f g h = tt
  rule-still choose f g h = tt
  rule-still (factor p i j) f g h = tt

  line-still : (l : Line) → IsStill (λ s. LineLacksSymbol s l) → ((s : ℕ) → l.rule ≡ abbreviate s → o.has_symbol s ≡ true) → IsLineFrom wide l → IsLineFrom o l
  line-still l f g h = ((types-still l.clause.variables h.0.0, literals-still l.clause.literals (λ s e. f s (λ p. e p.0)) h.0.1), rule-still l.rule (λ s e. f s (λ p. e p.1)) g h.1)

-- the symbols that lines abbreviate
is_abbreviated_by : ℕ → StepRule → Bool
is_abbreviated_by s (abbreviate n) = nat_eq s n
is_abbreviated_by s (assume h) = false
is_abbreviated_by s (convert p) = false
is_abbreviated_by s (inst p sigma) = false
is_abbreviated_by s (para p i a q j r path) = false
is_abbreviated_by s (arrange p) = false
is_abbreviated_by s (drop_literal p i) = false
is_abbreviated_by s (take_apart p i kind a) = false
is_abbreviated_by s (bool_ext p i half) = false
is_abbreviated_by s (func_ext p i a) = false
is_abbreviated_by s (decompose p i) = false
is_abbreviated_by s reflexivity = false
is_abbreviated_by s choose = false
is_abbreviated_by s (factor p i j) = false

is_abbreviated : ℕ → List Line → Bool
is_abbreviated s [] = false
is_abbreviated s (l ∷ ls) = is_abbreviated_by s l.rule || is_abbreviated s ls

equal-numbers : (m n : ℕ) → nat_eq m n ≡ true → m ≡ n
equal-numbers m n h = grind (arith, nat_tests)

same-number : (n : ℕ) → nat_eq n n ≡ true
same-number n = grind (arith, nat_tests)

either-true : (a b : Bool) → (a || b) ≡ true → (a ≡ true) ⊎ (b ≡ true)
either-true true b e = inl refl
either-true false b e = inr e

first-true : (a b : Bool) → a ≡ true → (a || b) ≡ true
first-true true b e = refl
first-true false b e = absurd cc

second-true : (a b : Bool) → b ≡ true → (a || b) ≡ true
second-true true b e = refl
second-true false b e = e

rule-abbreviates : (s : ℕ) (r : StepRule) → is_abbreviated_by s r ≡ true → r ≡ abbreviate s
unfolding is_abbreviated_by
rule-abbreviates s (abbreviate n) e = ap abbreviate (sym (equal-numbers s n e))
rule-abbreviates s (assume h) e = absurd cc
rule-abbreviates s (convert p) e = absurd cc
rule-abbreviates s (inst p sigma) e = absurd cc
rule-abbreviates s (para p i a q j r path) e = absurd cc
rule-abbreviates s (arrange p) e = absurd cc
rule-abbreviates s (drop_literal p i) e = absurd cc
rule-abbreviates s (take_apart p i kind a) e = absurd cc
rule-abbreviates s (bool_ext p i half) e = absurd cc
rule-abbreviates s (func_ext p i a) e = absurd cc
rule-abbreviates s (decompose p i) e = absurd cc
rule-abbreviates s reflexivity e = absurd cc
rule-abbreviates s choose e = absurd cc
rule-abbreviates s (factor p i j) e = absurd cc

abbreviated-where : (s : ℕ) (ls : List Line) → is_abbreviated s ls ≡ true → (n : ℕ) × (l : Line) × (slice_get ls n ≡ Some l) × (l.rule ≡ abbreviate s)
unfolding is_abbreviated
abbreviated-where s [] e = absurd cc
abbreviated-where s (l ∷ ls) e = elim (either-true (is_abbreviated_by s l.rule) (is_abbreviated s ls) e) [
  | inl t ↦ (zero, l, refl, rule-abbreviates s l.rule t)
  | inr t ↦ (let f = abbreviated-where s ls t in (suc f.0, f.1, f.2, f.3))
]

abbreviated-there : (s n : ℕ) (l : Line) (ls : List Line) → slice_get ls n ≡ Some l → l.rule ≡ abbreviate s → is_abbreviated s ls ≡ true
unfolding is_abbreviated is_abbreviated_by
abbreviated-there s n l [] e r = absurd cc
abbreviated-there s zero l (k ∷ ls) e r = first-true (is_abbreviated_by s k.rule) (is_abbreviated s ls) (let f : k ≡ l = cc in rw (f, r) (same-number s))
abbreviated-there s (suc n) l (k ∷ ls) e r = second-true (is_abbreviated_by s k.rule) (is_abbreviated s ls) (abbreviated-there s n l ls e r)

-- the origin, and the symbols that lines abbreviate
abbrev widened : Origin → List Line → Origin
widened o lines = record { has_base = o.has_base; has_symbol = λ s. (o.has_symbol s || is_abbreviated s lines) }

module _ (o : Origin) (lines : List Line) where
  type-widened : (a : SimpleType) → IsTypeFrom o a → IsTypeFrom (widened o lines) a
  type-widened (base n) h = h
  type-widened (arrow a b) h = (type-widened a h.0, type-widened b h.1)

  constant-widened : (c : Connective) → IsConstantFrom o c → IsConstantFrom (widened o lines) c
  constant-widened (equality a) h = type-widened a h
  constant-widened (universal a) h = type-widened a h
  constant-widened (existential a) h = type-widened a h
  constant-widened (choice a) h = type-widened a h
  constant-widened truth h = tt
  constant-widened falsity h = tt
  constant-widened negation h = tt
  constant-widened disjunction h = tt
  constant-widened conjunction h = tt
  constant-widened implication h = tt

  term-widened : (t : Tree) → IsTermFrom o t → IsTermFrom (widened o lines) t
  term-widened (variable n a) h = type-widened a h
  term-widened (bound i a) h = type-widened a h
  term-widened (symbol n a) h = (first-true (o.has_symbol n) (is_abbreviated n lines) h.0, type-widened a h.1)
  term-widened (app x y) h = (term-widened x h.0, term-widened y h.1)
  term-widened (lam a t) h = (type-widened a h.0, term-widened t h.1)
  term-widened (logic c x y) h = (constant-widened c h.0, term-widened x h.1, term-widened y h.2)
  term-widened absent h = tt

  terms-widened : (ts : List Tree) → AreTermsFrom o ts → AreTermsFrom (widened o lines) ts
  terms-widened [] h = tt
  terms-widened (t ∷ ts) h = (term-widened t h.0, terms-widened ts h.1)

  origin-widened : (hypotheses : List Tree) → o.has_base 0 ≡ true → AreTermsFrom o hypotheses → IsOriginOf hypotheses lines (widened o lines)
  origin-widened hypotheses z h = record {
    truth = z;
    hypotheses_from = terms-widened hypotheses h;
    abbreviated = λ n s l e r. second-true (o.has_symbol s) (is_abbreviated s lines) (abbreviated-there s n l lines e r);
  }

-- the first lines of some
take-within : (n : ℕ) (ls : List Line) (m : ℕ) (l : Line) → slice_get (take n ls) m ≡ Some l → (m < n) × (slice_get ls m ≡ Some l)
take-within zero ls m l e = absurd cc
take-within (suc n) [] m l e = absurd cc
take-within (suc n) (k ∷ ls) zero l e = (omega arith, e)
take-within (suc n) (k ∷ ls) (suc m) l e = (let f = take-within n ls m l e in let g = f.0 in (omega arith, f.1))

within-take : (n : ℕ) (ls : List Line) (m : ℕ) (l : Line) → m < n → slice_get ls m ≡ Some l → slice_get (take n ls) m ≡ Some l
within-take zero ls m l b e = absurd (let f : ⊥ = omega arith in f)
within-take (suc n) [] m l b e = e
within-take (suc n) (k ∷ ls) zero l b e = e
within-take (suc n) (k ∷ ls) (suc m) l b e = within-take n ls m l (omega arith) e

module _ (hypotheses : List Tree) (lines : List Line) (from : AreFrom hypotheses lines) (result : List Line) (pruned : IsPruned lines result) where
  abbrev keeps : ℕ → Bool
  keeps = pruned.keeps

  -- the new number of an earlier line is no greater
  in-order : (m n : ℕ) → m ≤ n → kept_before keeps m ≤ kept_before keeps n
  in-order m n l = (let e : m + (n - m) ≡ n = omega arith in subst (λ k. kept_before keeps m ≤ kept_before keeps k) e (kept.rises keeps m (n - m)))

  module _ (j : ℕ) (step : Line) (at : kept.Origin keeps lines 0 j step) (o : Origin) (origin : IsOriginOf hypotheses (take (suc j) (kept_lines keeps 0 lines)) o) where
    number : j ≡ kept_before keeps at.place
    number = (let e = at.number_is in let z : 0 + at.place ≡ at.place = omega arith in let f : j + 0 ≡ kept_before keeps at.place = rw z at e in omega (arith, f))

    is_kept : keeps at.place ≡ true
    is_kept = (let z : 0 + at.place ≡ at.place = omega arith in rw z at at.kept)

    -- a kept line that abbreviates, no later than this one
    introduced : (m s : ℕ) (k : Line) → m ≤ at.place → slice_get lines m ≡ Some k → k.rule ≡ abbreviate s → keeps m ≡ true → o.has_symbol s ≡ true
    introduced m s k l e r is =
        let z : 0 + m ≡ m = omega arith in
        let there : slice_get (kept_lines keeps 0 lines) (kept_before keeps m) ≡ Some (numbered_line (kept_before keeps) k) = kept.kept_get keeps lines 0 m (kept_before keeps m) k e (rw z is) (rw z (omega arith)) in
        let low : kept_before keeps m ≤ kept_before keeps at.place = in-order m at.place l in
        let below : kept_before keeps m < suc j = (let n = number in omega (arith, n, low)) in
        origin.abbreviated (kept_before keeps m) s (numbered_line (kept_before keeps) k) (within-take (suc j) (kept_lines keeps 0 lines) (kept_before keeps m) (numbered_line (kept_before keeps) k) below there) (ap (numbered_rule (kept_before keeps)) r)

    known : (s : ℕ) → (LineLacksSymbol s at.line → ⊥) → (o.has_symbol s || is_abbreviated s (take (suc at.place) lines)) ≡ true → o.has_symbol s ≡ true
    known s has e = elim (either-true (o.has_symbol s) (is_abbreviated s (take (suc at.place) lines)) e) [
      | inl t ↦ t
      | inr t ↦ (
          let w = abbreviated-where s (take (suc at.place) lines) t in
          let in_front = take-within (suc at.place) lines w.0 w.1 w.2 in
          let b = in_front.0 in
          let is : keeps w.0 ≡ true = (pruned.keeps_exactly w.0).1 (further ((pruned.keeps_exactly at.place).0 is_kept) (on_symbol at.line w.1 s at.line_is in_front.1 w.3 has)) in
          introduced w.0 s w.1 (omega (arith, b)) in_front.1 w.3 is)
    ]

    line-kept : IsLineFrom o at.line
    line-kept = line-still (widened o (take (suc at.place) lines)) o (λ b h. h) at.line known
        (λ s r. introduced at.place s at.line (omega arith) at.line_is r is_kept)
        (from.each at.place at.line at.line_is (widened o (take (suc at.place) lines)) (origin-widened o (take (suc at.place) lines) hypotheses origin.truth origin.hypotheses_from))

    step-from : IsLineFrom o step
    step-from = subst (IsLineFrom o) (sym at.step_is) (line-numbered o (kept_before keeps) at.line line-kept)

  pub pruned-from : AreFrom hypotheses result
  pruned-from = subst (AreFrom hypotheses) (sym pruned.result_is) (record { each = λ j step e. step-from j step (kept.kept_origin keeps lines 0 j step e) })
