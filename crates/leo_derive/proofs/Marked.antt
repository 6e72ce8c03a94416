-- Marks, one line after the other from the last to the first.
use Rattle.std.proofs.Common.{ℕ, zero, suc, nat_eq, ◌≡◌, ◌∙◌, ◌⊎◌, ◌+◌, ◌<◌, ◌≤◌, Bool, true, false, List, [], ◌∷◌, length, set, replicate, refl, sym, ap, arith, inl, inr}
use Rattle.std.specs.Prelude.{slice_get, Some}
use Rattle.std.specs.List.{Contains}
use Rattle.leo_clause.specs.Arranging.{firsts}
use Rattle.leo_clause.proofs.Seen.{any-with, AreSeen-met}
use Rattle.leo_kernel.specs.Steps.{abbreviate, Line}
use Rattle.leo_derive.specs.Resting.{named, on_named, on_symbol, RestsOn, itself, further}
use Rattle.leo_derive.specs.Symbols.{symbols_in_line, IsOneOf}
use Rattle.leo_derive.specs.Marking.{with_marks, is_marked, AreNumbersBelow, AreInOrder, IsMarkedFrom, IsReached, AreMarks}
use Rattle.leo_derive.proofs.Occurring.{seen_one, one_of_firsts, line_has, line_not_lacks}

-- ---- one mark

set_length : (marks : List Bool) (n : ℕ) → length (set marks n true) ≡ length marks
set_length [] n = refl
set_length (m ∷ ms) zero = refl
set_length (m ∷ ms) (suc n) = ap suc (set_length ms n)

set_marked : (marks : List Bool) (n : ℕ) → n < length marks → is_marked (set marks n true) n ≡ true
set_marked [] n o = absurd (omega (arith, o))
set_marked (m ∷ ms) zero o = refl
set_marked (m ∷ ms) (suc n) o = set_marked ms n (omega (arith, o))

pub set_keeps : (marks : List Bool) (n m : ℕ) → is_marked marks m ≡ true → is_marked (set marks n true) m ≡ true
set_keeps [] n m e = e
set_keeps (x ∷ xs) zero zero e = refl
set_keeps (x ∷ xs) zero (suc m) e = e
set_keeps (x ∷ xs) (suc n) zero e = e
set_keeps (x ∷ xs) (suc n) (suc m) e = set_keeps xs n m e

set_origin : (marks : List Bool) (n m : ℕ) → is_marked (set marks n true) m ≡ true → (m ≡ n) ⊎ (is_marked marks m ≡ true)
set_origin [] n m e = inr e
set_origin (x ∷ xs) zero zero e = inl refl
set_origin (x ∷ xs) zero (suc m) e = inr e
set_origin (x ∷ xs) (suc n) zero e = inr e
set_origin (x ∷ xs) (suc n) (suc m) e = elim (set_origin xs n m e) [ inl h ↦ inl (ap suc h) | inr h ↦ inr h ]

-- ---- many marks

with_length : (ns : List ℕ) (marks : List Bool) → length (with_marks marks ns) ≡ length marks
with_length [] marks = refl
with_length (n ∷ ns) marks = with_length ns (set marks n true) ∙ set_length marks n

with_keeps : (ns : List ℕ) (marks : List Bool) (m : ℕ) → is_marked marks m ≡ true → is_marked (with_marks marks ns) m ≡ true
with_keeps [] marks m e = e
with_keeps (n ∷ ns) marks m e = with_keeps ns (set marks n true) m (set_keeps marks n m e)

later : (n : ℕ) (ns : List ℕ) (m : ℕ) → Contains ns m → Contains (n ∷ ns) m
later n ns m c = (suc c.0, omega (arith, c.1), c.2)

with_origin : (ns : List ℕ) (marks : List Bool) (m : ℕ) → is_marked (with_marks marks ns) m ≡ true → Contains ns m ⊎ (is_marked marks m ≡ true)
with_origin [] marks m e = inr e
with_origin (n ∷ ns) marks m e = elim (with_origin ns (set marks n true) m e) [
  | inl c ↦ inl (later n ns m c)
  | inr h ↦ elim (set_origin marks n m h) [ inl f ↦ inl (0, omega arith, sym f) | inr f ↦ inr f ]
]

with_marked : (ns : List ℕ) (marks : List Bool) (m : ℕ) → AreNumbersBelow (length marks) ns → Contains ns m → is_marked (with_marks marks ns) m ≡ true
with_marked [] marks m b (k, l, e) = absurd (omega (arith, l))
with_marked (n ∷ ns) marks m b (zero, l, e) = let f : n ≡ m = e in rw (← f) (with_keeps ns (set marks n true) n (set_marked marks n b.0))
with_marked (n ∷ ns) marks m b (suc k, l, e) = with_marked ns (set marks n true) m (rw (set_length marks n) b.1) (k, omega (arith, l), e)

below_at : (n : ℕ) (ns : List ℕ) (m : ℕ) → AreNumbersBelow n ns → Contains ns m → m < n
below_at n [] m b (k, l, e) = absurd (omega (arith, l))
below_at n (x ∷ xs) m b (zero, l, e) = let f : x ≡ m = e in rw (← f) b.0
below_at n (x ∷ xs) m b (suc k, l, e) = below_at n xs m b.1 (k, omega (arith, l), e)

pub below_more : (n m : ℕ) (ns : List ℕ) → n ≤ m → AreNumbersBelow n ns → AreNumbersBelow m ns
below_more n m [] o b = tt
below_more n m (x ∷ xs) o b = (omega (arith, o, b.0), below_more n m xs o b.1)

-- ---- a line more

at_or_behind : (n k : ℕ) → n ≤ k → (k ≡ n) ⊎ (n + 1 ≤ k)
at_or_behind zero zero o = inl refl
at_or_behind zero (suc k) o = inr (omega arith)
at_or_behind (suc n) zero o = absurd (omega (arith, o))
at_or_behind (suc n) (suc k) o = elim (at_or_behind n k (omega (arith, o))) [ inl e ↦ inl (ap suc e) | inr e ↦ inr (omega (arith, e)) ]

same_line : (lines : List Line) (k n : ℕ) (l j : Line) → slice_get lines n ≡ Some l → slice_get lines k ≡ Some j → k ≡ n → j ≡ l
same_line lines k n l j g h e = let f : slice_get lines n ≡ Some j = rw (← e) h in cc

module _ (lines : List Line) (goal n : ℕ) (order : AreInOrder lines) (l : Line) (g : slice_get lines n ≡ Some l) where
  pub not_reached : (marks : List Bool) (symbols : List ℕ) → IsMarkedFrom lines goal (n + 1) marks symbols → ((s : ℕ) → l.rule ≡ abbreviate s → IsOneOf s symbols → ⊥) → IsReached lines goal n l marks symbols
  not_reached marks symbols m none = record { from_next = m; reached = λ s e h. absurd (none s e h) }

  pub now_reached : (marks : List Bool) (symbols : List ℕ) (s : ℕ) → n < length marks → IsMarkedFrom lines goal (n + 1) marks symbols → l.rule ≡ abbreviate s → IsOneOf s symbols → IsReached lines goal n l (set marks n true) symbols
  now_reached marks symbols s o m e h = record { from_next = next; reached = λ t f k. set_marked marks n o }
    where
      w : (k : ℕ) × (j : Line) × (n + 1 ≤ k) × (is_marked marks k ≡ true) × (slice_get lines k ≡ Some j) × IsOneOf s (symbols_in_line j)
      w = m.symbols_sound s h

      rests : RestsOn lines goal n
      rests = further (m.sound w.0 w.3) (on_symbol w.1 l s w.4 g e (line_has s w.1 w.5))

      behind : (k : ℕ) → n + 1 ≤ k → is_marked (set marks n true) k ≡ true → is_marked marks k ≡ true
      behind k u f = elim (set_origin marks n k f) [ inl x ↦ absurd (omega (arith, u, x)) | inr x ↦ x ]

      next : IsMarkedFrom lines goal (n + 1) (set marks n true) symbols
      next = record {
        length_is = set_length marks n ∙ m.length_is;
        goal_marked = set_keeps marks n goal m.goal_marked;
        sound = λ k f. elim (set_origin marks n k f) [ inl x ↦ rw x rests | inr x ↦ m.sound k x ];
        named_marked = λ k p j u f q c. set_keeps marks n p (m.named_marked k p j u (behind k u f) q c);
        symbols_sound = λ t x. let v = m.symbols_sound t x in (v.0, v.1, v.2, set_keeps marks n v.0 v.3, v.4, v.5);
        symbols_known = λ k t j u f q x. m.symbols_known k t j u (behind k u f) q x;
        symbols_marked = λ k p t j i u v f q x r y. set_keeps marks n p (m.symbols_marked k p t j i u v (behind k u f) q x r y);
      }

  pub passed_by : (marks : List Bool) (symbols : List ℕ) → IsReached lines goal n l marks symbols → is_marked marks n ≡ false → IsMarkedFrom lines goal n marks symbols
  passed_by marks symbols r unset = record {
    length_is = m.length_is;
    goal_marked = m.goal_marked;
    sound = m.sound;
    named_marked = λ k p j u f q c. elim (at_or_behind n k u) [ inl x ↦ absurd (unmarked k x f) | inr x ↦ m.named_marked k p j x f q c ];
    symbols_sound = λ t x. let v = m.symbols_sound t x in (v.0, v.1, omega (arith, v.2), v.3, v.4, v.5);
    symbols_known = λ k t j u f q x. elim (at_or_behind n k u) [ inl y ↦ absurd (unmarked k y f) | inr y ↦ m.symbols_known k t j y f q x ];
    symbols_marked = λ k p t j i u v f q x h y. elim (at_or_behind n k u) [ inl z ↦ absurd (unmarked k z f) | inr z ↦ abbreviation k p t j i z v f q x h y ];
  }
    where
      m : IsMarkedFrom lines goal (n + 1) marks symbols
      m = r.from_next

      unmarked : (k : ℕ) → k ≡ n → is_marked marks k ≡ true → ⊥
      unmarked k x f = let h : is_marked marks n ≡ true = rw x at f in cc

      abbreviation : (k p t : ℕ) (j i : Line) → n + 1 ≤ k → n ≤ p → is_marked marks k ≡ true → slice_get lines k ≡ Some j → IsOneOf t (symbols_in_line j) → slice_get lines p ≡ Some i → i.rule ≡ abbreviate t → is_marked marks p ≡ true
      abbreviation k p t j i u v f q x h y = elim (at_or_behind n p v) [
        | inl z ↦ (let same = same_line lines p n l i g h z in rw z (r.reached t (rw same at y) (m.symbols_known k t j u f q x)))
        | inr z ↦ m.symbols_marked k p t j i u z f q x h y
      ]

  pub looked_at : (marks : List Bool) (symbols : List ℕ) → IsReached lines goal n l marks symbols → is_marked marks n ≡ true → AreNumbersBelow (length marks) (named l.rule) → IsMarkedFrom lines goal n (with_marks marks (named l.rule)) (firsts nat_eq symbols (symbols_in_line l))
  looked_at marks symbols r set_here fit = record {
    length_is = with_length (named l.rule) marks ∙ m.length_is;
    goal_marked = with_keeps (named l.rule) marks goal m.goal_marked;
    sound = λ k f. elim (with_origin (named l.rule) marks k f) [ inl c ↦ further (m.sound n set_here) (on_named l g c) | inr x ↦ m.sound k x ];
    named_marked = λ k p j u f q c. elim (at_or_behind n k u) [
      | inl x ↦ (let same = same_line lines k n l j g q x in with_marked (named l.rule) marks p fit (rw same at c))
      | inr x ↦ with_keeps (named l.rule) marks p (m.named_marked k p j x (behind k x f) q c)
    ];
    symbols_sound = λ t x. elim (one_of_firsts t (symbols_in_line l) symbols x) [
      | inl y ↦ (let v = m.symbols_sound t y in (v.0, v.1, omega (arith, v.2), with_keeps (named l.rule) marks v.0 v.3, v.4, v.5))
      | inr y ↦ (n, l, omega arith, with_keeps (named l.rule) marks n set_here, g, y)
    ];
    symbols_known = λ k t j u f q x. elim (at_or_behind n k u) [
      | inl y ↦ (let same = same_line lines k n l j g q y in seen_one t (firsts nat_eq symbols (symbols_in_line l)) (symbols_in_line l) (AreSeen-met (symbols_in_line l) symbols) (rw same at x))
      | inr y ↦ any-with (nat_eq t) (symbols_in_line l) symbols (m.symbols_known k t j y (behind k y f) q x)
    ];
    symbols_marked = λ k p t j i u v f q x h y. elim (at_or_behind n k u) [
      | inl z ↦ (let w = order.symbols_earlier k p j i t q x h y in let e : p ≡ n = omega (arith, w, z, v) in rw e (with_keeps (named l.rule) marks n set_here))
      | inr z ↦ with_keeps (named l.rule) marks p (abbreviation k p t j i z v (behind k z f) q x h y)
    ];
  }
    where
      m : IsMarkedFrom lines goal (n + 1) marks symbols
      m = r.from_next

      behind : (k : ℕ) → n + 1 ≤ k → is_marked (with_marks marks (named l.rule)) k ≡ true → is_marked marks k ≡ true
      behind k u f = elim (with_origin (named l.rule) marks k f) [
        | inl c ↦ absurd (let o = below_at n (named l.rule) k (order.named_earlier n l g) c in omega (arith, o, u))
        | inr x ↦ x
      ]

      abbreviation : (k p t : ℕ) (j i : Line) → n + 1 ≤ k → n ≤ p → is_marked marks k ≡ true → slice_get lines k ≡ Some j → IsOneOf t (symbols_in_line j) → slice_get lines p ≡ Some i → i.rule ≡ abbreviate t → is_marked marks p ≡ true
      abbreviation k p t j i u v f q x h y = elim (at_or_behind n p v) [
        | inl z ↦ (let same = same_line lines p n l i g h z in rw z (r.reached t (rw same at y) (m.symbols_known k t j u f q x)))
        | inr z ↦ m.symbols_marked k p t j i u z f q x h y
      ]

-- ---- from the goal on, and in the end

none_marked : (count m : ℕ) → is_marked (replicate count false) m ≡ true → ⊥
none_marked zero m e = cc
none_marked (suc n) zero e = cc
none_marked (suc n) (suc m) e = none_marked n m e

only_goal : (goal count m : ℕ) → is_marked (set (replicate count false) goal true) m ≡ true → m ≡ goal
only_goal goal count m e = elim (set_origin (replicate count false) goal m e) [ inl f ↦ f | inr f ↦ absurd (none_marked count m f) ]

replicate_length : (count : ℕ) → length (replicate count false) ≡ count
replicate_length zero = refl
replicate_length (suc n) = ap suc (replicate_length n)

-- where the goal alone is marked
pub goal_marked_first : (lines : List Line) (goal : ℕ) → goal < length lines → IsMarkedFrom lines goal (goal + 1) (set (replicate (length lines) false) goal true) []
goal_marked_first lines goal o = record {
  length_is = set_length (replicate (length lines) false) goal ∙ replicate_length (length lines);
  goal_marked = set_marked (replicate (length lines) false) goal (rw (replicate_length (length lines)) o);
  sound = λ k f. rw (only_goal goal (length lines) k f) itself;
  named_marked = λ k p j u f q c. absurd (behind k u f);
  symbols_sound = λ t x. absurd cc;
  symbols_known = λ k t j u f q x. absurd (behind k u f);
  symbols_marked = λ k p t j i u v f q x h y. absurd (behind k u f);
}
  where
    behind : (k : ℕ) → goal + 1 ≤ k → is_marked (set (replicate (length lines) false) goal true) k ≡ true → ⊥
    behind k u f = let e = only_goal goal (length lines) k f in omega (arith, u, e)

rests_marked : (lines : List Line) (goal : ℕ) (marks : List Bool) (symbols : List ℕ) → IsMarkedFrom lines goal 0 marks symbols → (n : ℕ) → RestsOn lines goal n → is_marked marks n ≡ true
rests_marked lines goal marks symbols m n itself = m.goal_marked
rests_marked lines goal marks symbols m n (further {m = k} r (on_named l g c)) = m.named_marked k n l (omega arith) (rests_marked lines goal marks symbols m k r) g c
rests_marked lines goal marks symbols m n (further {m = k} r (on_symbol l j s g h e x)) = m.symbols_marked k n s l j (omega arith) (omega arith) (rests_marked lines goal marks symbols m k r) g (line_not_lacks s l x) h e

pub all_marked : (lines : List Line) (goal : ℕ) (marks : List Bool) (symbols : List ℕ) → IsMarkedFrom lines goal 0 marks symbols → AreMarks lines goal marks
all_marked lines goal marks symbols m = record { length_is = m.length_is; exactly = λ n. (m.sound n, rests_marked lines goal marks symbols m n) }

pub no_items : {X : Type 0} (xs : List X) → length xs ≡ 0 → xs ≡ []
no_items [] e = refl
no_items (x ∷ xs) e = absurd (omega (arith, e))

pub nothing_there : (i t : ℕ) → slice_get [] i ≡ Some t → ⊥
nothing_there i t h = cc
