-- Instances of decoded terms: the variables of a clause are moved out of the way, then the terms come in.
use Rattle.std.proofs.Common.{◌≡◌, ℕ, zero, suc, ◌+◌, ◌-◌, ◌<◌, ◌≤◌, Bool, true, false, cond, List, [], ◌∷◌, length, map, slice_get, Option, Some, None, inl, inr, refl, sym, ap, ◌∙◌, subst, eqb, eq-eqb, arith}
use Rattle.std.proofs.lemmas.Bool.{eqb-true, le-ltb}
use Rattle.std.proofs.lemmas.Option.{slice_get_within, slice_get_past, slice_get-map}
use Rattle.leo_q0.specs.Terms.{SimpleType, Variable, same_variable, Term, variable as q_variable}
use Rattle.leo_q0.proofs.Fresh.{different}
use Rattle.leo_terms.specs.Tree.{Tree, variable, bound, symbol, app, lam, logic, absent, Connective, truth, falsity, negation, disjunction, conjunction, implication, equality, universal, existential, choice}
use Rattle.leo_terms.specs.Decode.{named, connected, decoded, given_or, without, replaced_all, given_terms}
use Rattle.leo_terms.proofs.Growth.{slice_get-some}
use Rattle.leo_clause.specs.Typed.{IsOver}
use Rattle.leo_kernel.specs.Places.{shifted}
use Rattle.leo_simulation.proofs.Instances.{IsOpenFor, Avoids, image, mapped, avoiding_image}
use Rattle.leo_simulation.proofs.Fixed.{fixed_true, fixed_false, fixed_not, fixed_or, fixed_and, fixed_imp, fixed_all, fixed_some, fixed_open, fixed_avoids, fixed_mapped, fixed_replaced}

-- the variables with numbers from `first` on, of these types
abbrev pub variables_from : ℕ → List SimpleType → List Tree
variables_from first [] = []
variables_from first (a ∷ types) = variable first a ∷ variables_from (suc first) types

module _ (limit : ℕ) (two : 2 ≤ limit) where
  connected_open : (first : ℕ) (types : List SimpleType) (c : Connective) (s t : Term) → IsOpenFor limit first types s → IsOpenFor limit first types t → IsOpenFor limit first types (connected c s t)
  connected_open first types truth s t p q = fixed_open limit first two types fixed_true
  connected_open first types falsity s t p q = fixed_open limit first two types fixed_false
  connected_open first types negation s t p q = (fixed_open limit first two types fixed_not, p)
  connected_open first types disjunction s t p q = ((fixed_open limit first two types fixed_or, p), q)
  connected_open first types conjunction s t p q = ((fixed_open limit first two types fixed_and, p), q)
  connected_open first types implication s t p q = ((fixed_open limit first two types fixed_imp, p), q)
  connected_open first types (equality a) s t p q = ((tt, p), q)
  connected_open first types (universal a) s t p q = (fixed_open limit first two types (fixed_all a), p)
  connected_open first types (existential a) s t p q = (fixed_open limit first two types (fixed_some a), p)
  connected_open first types (choice a) s t p q = (tt, p)

  -- a term over variables that were moved by `by` is open for them
  pub decoded_open : (by : ℕ) (types : List SimpleType) (depth n : ℕ) (t : Tree) → n ≡ limit + depth → by + length types ≤ limit → IsOver types depth t →
      IsOpenFor limit by types (decoded n (shifted by t))
  decoded_open by types depth n (variable m a) e le o = λ i b h k. (let j : m ≡ i = omega (arith, k) in same_type i (subst (λ (x : ℕ). slice_get types x ≡ Some a) j o) h)
    where
      same_type : (i : ℕ) {b : SimpleType} → slice_get types i ≡ Some a → slice_get types i ≡ Some b → a ≡ b
      same_type i p q = cc
  decoded_open by types depth n (bound j a) e le o = λ i b h k. (let w = slice_get_within types i b h in absurd (let f : ⊥ = omega (arith, k, w, e, le, o) in f))
  decoded_open by types depth n (symbol m a) e le o = tt
  decoded_open by types depth n (app f x) e le o = (decoded_open by types depth n f e le o.0, decoded_open by types depth n x e le o.1)
  decoded_open by types depth n (lam a t) e le o =
      rw (le-ltb n limit (omega (arith, e))) (decoded_open by types (depth + 1) (n + 1) t (omega (arith, e)) le o)
  decoded_open by types depth n (logic c x y) e le o =
      connected_open by types c (decoded n (shifted by x)) (decoded n (shifted by y)) (decoded_open by types depth n x e le o.0) (decoded_open by types depth n y e le o.1)
  decoded_open by types depth n absent e le o = fixed_open limit by two types fixed_true

  connected_avoids : (first count : ℕ) (c : Connective) (s t : Term) → Avoids limit first count s → Avoids limit first count t → Avoids limit first count (connected c s t)
  connected_avoids first count truth s t p q = fixed_avoids limit first two count fixed_true
  connected_avoids first count falsity s t p q = fixed_avoids limit first two count fixed_false
  connected_avoids first count negation s t p q = (fixed_avoids limit first two count fixed_not, p)
  connected_avoids first count disjunction s t p q = ((fixed_avoids limit first two count fixed_or, p), q)
  connected_avoids first count conjunction s t p q = ((fixed_avoids limit first two count fixed_and, p), q)
  connected_avoids first count implication s t p q = ((fixed_avoids limit first two count fixed_imp, p), q)
  connected_avoids first count (equality a) s t p q = ((tt, p), q)
  connected_avoids first count (universal a) s t p q = (fixed_avoids limit first two count (fixed_all a), p)
  connected_avoids first count (existential a) s t p q = (fixed_avoids limit first two count (fixed_some a), p)
  connected_avoids first count (choice a) s t p q = (tt, p)

  -- a term over few variables avoids the numbers between these and the bound ones
  pub decoded_avoids : (types : List SimpleType) (first count depth n : ℕ) (t : Tree) → n ≡ limit + depth → length types ≤ first → first + count ≤ limit → IsOver types depth t →
      Avoids limit first count (decoded n t)
  decoded_avoids types first count depth n (variable m a) e few le o = let w = slice_get_within types m a o in inl (omega (arith, few, w))
  decoded_avoids types first count depth n (bound j a) e few le o = inr (omega (arith, e, o, le))
  decoded_avoids types first count depth n (symbol m a) e few le o = tt
  decoded_avoids types first count depth n (app f x) e few le o = (decoded_avoids types first count depth n f e few le o.0, decoded_avoids types first count depth n x e few le o.1)
  decoded_avoids types first count depth n (lam a t) e few le o =
      rw (le-ltb n limit (omega (arith, e))) (decoded_avoids types first count (depth + 1) (n + 1) t (omega (arith, e)) few le o)
  decoded_avoids types first count depth n (logic c x y) e few le o =
      connected_avoids first count c (decoded n x) (decoded n y) (decoded_avoids types first count depth n x e few le o.0) (decoded_avoids types first count depth n y e few le o.1)
  decoded_avoids types first count depth n absent e few le o = fixed_avoids limit first two count fixed_true

  pub connected_mapped : (first : ℕ) (ss : List Term) (c : Connective) (s t : Term) → mapped limit first ss (connected c s t) ≡ connected c (mapped limit first ss s) (mapped limit first ss t)
  connected_mapped first ss truth s t = fixed_mapped limit first two ss fixed_true
  connected_mapped first ss falsity s t = fixed_mapped limit first two ss fixed_false
  connected_mapped first ss negation s t = rw (fixed_mapped limit first two ss fixed_not) refl
  connected_mapped first ss disjunction s t = rw (fixed_mapped limit first two ss fixed_or) refl
  connected_mapped first ss conjunction s t = rw (fixed_mapped limit first two ss fixed_and) refl
  connected_mapped first ss implication s t = rw (fixed_mapped limit first two ss fixed_imp) refl
  connected_mapped first ss (equality a) s t = refl
  connected_mapped first ss (universal a) s t = rw (fixed_mapped limit first two ss (fixed_all a)) refl
  connected_mapped first ss (existential a) s t = rw (fixed_mapped limit first two ss (fixed_some a)) refl
  connected_mapped first ss (choice a) s t = refl

  -- the term that stands for a variable
  image_at : (first n m : ℕ) (a b : SimpleType) (ss : List Term) (i : ℕ) (s : Term) → slice_get ss i ≡ Some s → m ≡ first + i → image first ss (named m a) ≡ s
  image_at first n m a b [] i s h e = cc
  image_at first n m a b (t ∷ ts) zero s h e = rw (eq-eqb m first (omega (arith, e))) (some_value h)
    where
      some_value : {x y : Term} → Some x ≡ Some y → x ≡ y
      some_value e = cc
  image_at first n m a b (t ∷ ts) (suc i) s h e =
      rw (not_equal m first (λ q. omega (arith, q, e))) (image_at (suc first) n m a b ts i s h (omega (arith, e)))
    where
      not_equal : (m n : ℕ) → (m ≡ n → ⊥) → eqb m n ≡ false
      not_equal m n h = go (eqb m n) refl
        where
          go : (b : Bool) → eqb m n ≡ b → b ≡ false
          go true e = absurd (h (eqb-true m n e))
          go false e = refl

  variables_at : (n by : ℕ) (types : List SimpleType) (i : ℕ) (a : SimpleType) → slice_get types i ≡ Some a → slice_get (map (decoded n) (variables_from by types)) i ≡ Some (q_variable (named (by + i) a))
  variables_at n by [] i a h = cc
  variables_at n by (b ∷ types) zero a h = moved (some_value h)
    where
      some_value : {x y : SimpleType} → Some x ≡ Some y → x ≡ y
      some_value e = cc

      moved : b ≡ a → Some (q_variable (named by b)) ≡ Some (q_variable (named (by + 0) a))
      moved e = let k : by + 0 ≡ by = omega arith in rw (e, k) refl
  variables_at n by (b ∷ types) (suc i) a h =
      let k : by + suc i ≡ suc by + i = omega arith in
      rw k (variables_at n (suc by) types i a h)

  variables_length : (n by : ℕ) (types : List SimpleType) → length (map (decoded n) (variables_from by types)) ≡ length types
  variables_length n by [] = refl
  variables_length n by (a ∷ types) = ap suc (variables_length n (suc by) types)

  -- moving variables is putting in the moved ones
  pub moved_decoded : (by : ℕ) (types : List SimpleType) (depth n : ℕ) (t : Tree) → n ≡ limit + depth → length types ≤ limit → IsOver types depth t →
      mapped limit 0 (map (decoded limit) (variables_from by types)) (decoded n t) ≡ decoded n (shifted by t)
  moved_decoded by types depth n (variable m a) e le o =
      image_at 0 n m a a (map (decoded limit) (variables_from by types)) m (q_variable (named (by + m) a)) (variables_at limit by types m a o) (omega arith)
  moved_decoded by types depth n (bound j a) e le o =
      avoiding_image limit 0 (length types) (map (decoded limit) (variables_from by types)) (named (n - (j + 1)) a) (omega (arith, variables_length limit by types)) (inr (omega (arith, e, o, le)))
  moved_decoded by types depth n (symbol m a) e le o = refl
  moved_decoded by types depth n (app f x) e le o = rw (moved_decoded by types depth n f e le o.0, moved_decoded by types depth n x e le o.1) refl
  moved_decoded by types depth n (lam a t) e le o =
      rw (le-ltb n limit (omega (arith, e)), moved_decoded by types (depth + 1) (n + 1) t (omega (arith, e)) le o) refl
  moved_decoded by types depth n (logic c x y) e le o =
      connected_mapped 0 (map (decoded limit) (variables_from by types)) c (decoded n x) (decoded n y) ∙
      (let p = moved_decoded by types depth n x e le o.0 in let q = moved_decoded by types depth n y e le o.1 in rw (p, q) refl)
  moved_decoded by types depth n absent e le o = fixed_mapped limit 0 two (map (decoded limit) (variables_from by types)) fixed_true

  connected_replaced : (given : Variable → Option Term) (c : Connective) (s t : Term) → replaced_all given (connected c s t) ≡ connected c (replaced_all given s) (replaced_all given t)
  connected_replaced given truth s t = refl
  connected_replaced given falsity s t = fixed_replaced given fixed_false
  connected_replaced given negation s t = rw (fixed_replaced given fixed_not) refl
  connected_replaced given disjunction s t = rw (fixed_replaced given fixed_or) refl
  connected_replaced given conjunction s t = rw (fixed_replaced given fixed_and) refl
  connected_replaced given implication s t = rw (fixed_replaced given fixed_imp) refl
  connected_replaced given (equality a) s t = refl
  connected_replaced given (universal a) s t = rw (fixed_replaced given (fixed_all a)) refl
  connected_replaced given (existential a) s t = rw (fixed_replaced given (fixed_some a)) refl
  connected_replaced given (choice a) s t = refl

  -- for variables below the limit the terms of the list are given, for those of lambdas none
  pub record GivesBelow (terms : List Term) (given : Variable → Option Term) : Type 0 where
    pub below : (v : Variable) (s : Term) → slice_get terms v.number ≡ Some s → v.number < limit → given v ≡ Some s
    pub above : (v : Variable) → limit ≤ v.number → given v ≡ None

  gives_under : (terms : List Term) (given : Variable → Option Term) (w : Variable) → limit ≤ w.number → GivesBelow terms given → GivesBelow terms (without w given)
  gives_under terms given w high g =
      record {
        below = λ v s h lt. (let d = different v w (λ e. omega (arith, e, high, lt)) in rw d (g.below v s h lt));
        above = λ v le. hidden v (same_variable v w) (g.above v le);
      }
    where
      hidden : (v : Variable) (b : Bool) → given v ≡ None → cond b None (given v) ≡ None
      hidden v true e = refl
      hidden v false e = e

  -- Andrews' substitution of all terms at once is putting them in for the moved variables
  pub replaced_decoded : (by : ℕ) (types : List SimpleType) (terms : List Term) (given : Variable → Option Term) (depth n : ℕ) (t : Tree) → n ≡ limit + depth →
      length types ≤ length terms → length terms ≤ limit → by + length terms ≤ limit → GivesBelow terms given → IsOver types depth t →
      mapped limit by terms (decoded n (shifted by t)) ≡ replaced_all given (decoded n t)
  replaced_decoded by types terms given depth n (variable m a) e few small le g o =
      found (slice_get terms m) refl
    where
      found : (s : Option Term) → slice_get terms m ≡ s → image by terms (named (by + m) a) ≡ given_or (named m a) (given (named m a))
      found None h = absurd (let w = slice_get_within types m a o in let k = slice_get-some terms m (omega (arith, w, few)) in let l = k.1 in let f : ⊥ = cc in f)
      found (Some s) h =
          let w = slice_get_within terms m s h in
          let k : given (named m a) ≡ Some s = g.below (named m a) s h (omega (arith, w, small)) in
          rw k (image_at by n (by + m) a a terms m s h refl)
  replaced_decoded by types terms given depth n (bound j a) e few small le g o =
      let high : limit ≤ n - (j + 1) = omega (arith, e, o) in
      let k : given (named (n - (j + 1)) a) ≡ None = g.above (named (n - (j + 1)) a) high in
      rw k (avoiding_image limit by (length terms) terms (named (n - (j + 1)) a) (omega arith) (inr (omega (arith, high, le))))
  replaced_decoded by types terms given depth n (symbol m a) e few small le g o = refl
  replaced_decoded by types terms given depth n (app f x) e few small le g o =
      let p = replaced_decoded by types terms given depth n f e few small le g o.0 in
      let q = replaced_decoded by types terms given depth n x e few small le g o.1 in
      rw (p, q) refl
  replaced_decoded by types terms given depth n (lam a t) e few small le g o =
      let high : limit ≤ n = omega (arith, e) in
      let p = replaced_decoded by types terms (without (named n a) given) (depth + 1) (n + 1) t (omega (arith, e)) few small le (gives_under terms given (named n a) high g) o in
      rw (le-ltb n limit high, p) refl
  replaced_decoded by types terms given depth n (logic c x y) e few small le g o =
      let p = replaced_decoded by types terms given depth n x e few small le g o.0 in
      let q = replaced_decoded by types terms given depth n y e few small le g o.1 in
      connected_mapped by terms c (decoded n (shifted by x)) (decoded n (shifted by y)) ∙ (rw (p, q) (sym (connected_replaced given c (decoded n x) (decoded n y))))
  replaced_decoded by types terms given depth n absent e few small le g o = fixed_mapped limit by two terms fixed_true

  pub given_below : (terms : List Tree) → length terms ≤ limit → GivesBelow (map (decoded limit) terms) (given_terms limit terms)
  given_below terms le =
      record {
        below = λ v s h lt. sym (slice_get-map (decoded limit) terms v.number) ∙ h;
        above = λ v high. (let k = slice_get_past terms v.number (omega (arith, le, high)) in rw k refl);
      }
