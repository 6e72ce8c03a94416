-- Laws of runs.
use Rattle.std.proofs.Common.{ℕ, zero, suc, ◌≡◌, ◌∙◌, ◌≤◌, ◌⊎◌, inl, inr, true, false, eqb, List, [], ◌∷◌, ◌++◌, length, slice_get, Option, Some, None, refl, sym, ap, subst, length-append, arith}
use Rattle.std.proofs.lemmas.Bool.Decides.{eqb_tells}
use Rattle.leo_clause.specs.Trees.{ClauseTree, Literal}
use Rattle.leo_passive.specs.Entries.{Entry}
use Rattle.leo_turn.specs.Turns.{State}
use Rattle.leo_core.specs.declared.event.Cause.{Cause}
use Rattle.leo_core.specs.declared.event.Cause.TheVariants.{Won, Limit, Exhausted}
use Rattle.leo_core.specs.declared.event.Event.{Event}
use Rattle.leo_core.specs.declared.event.Event.TheVariants.{Turn, Ended}
use Rattle.leo_core.specs.declared.event.Owed.{Owed}
use Rattle.leo_core.specs.declared.event.Owed.TheVariants as owed
use Rattle.leo_core.specs.Machine.{Standing, HasEmptyClause, IsRefuted, IsDue, won, at_limit, exhausted, a_turn, IsOwed, due, nothing, MayEnd, as_due, no_memory, Steps, turned, ended, started, went_on}
use Rattle.leo_core.specs.Laws.{OwesOne, OneIsOwed, events, RunsAreCounted, EndsComeLast, EndsAreEntered, Says, EndingsAreRight}

-- ---- the empty clause

pub empty_none : HasEmptyClause [] → ⊥
empty_none h = let e = h.stands in (let f : ⊥ = cc in f)

pub empty_here : (k : ClauseTree) (ks : List ClauseTree) → k.literals ≡ [] → HasEmptyClause (k ∷ ks)
empty_here k ks e = record { number = zero; clause = k; stands = refl; empty = e }

pub empty_later : (k : ClauseTree) (ks : List ClauseTree) → HasEmptyClause ks → HasEmptyClause (k ∷ ks)
empty_later k ks h = record { number = suc h.number; clause = h.clause; stands = h.stands; empty = h.empty }

pub empty_where : (k : ClauseTree) (ks : List ClauseTree) → HasEmptyClause (k ∷ ks) → (k.literals ≡ []) ⊎ HasEmptyClause ks
empty_where k ks h = by h.number h.stands
  where
    by : (n : ℕ) → slice_get (k ∷ ks) n ≡ Some h.clause → (k.literals ≡ []) ⊎ HasEmptyClause ks
    by zero e = let f : k ≡ h.clause = cc in inl (ap (λ (c : ClauseTree). c.literals) f ∙ h.empty)
    by (suc n) e = inr (record { number = n; clause = h.clause; stands = e; empty = h.empty })

empty_or : (ks : List ClauseTree) → HasEmptyClause ks ⊎ (HasEmptyClause ks → ⊥)
empty_or [] = inr empty_none
empty_or (k ∷ ks) = by (empty_or ks) k.literals refl
  where
    by : HasEmptyClause ks ⊎ (HasEmptyClause ks → ⊥) → (ls : List Literal) → k.literals ≡ ls → HasEmptyClause (k ∷ ks) ⊎ (HasEmptyClause (k ∷ ks) → ⊥)
    by (inl h) ls e = inl (empty_later k ks h)
    by (inr f) [] e = inl (empty_here k ks e)
    by (inr f) (l ∷ ls) e = inr (λ h. elim (empty_where k ks h) [ inl g ↦ (let z : ⊥ = cc in z) | inr g ↦ f g ])

-- ---- what is owed

some_due : (limit : ℕ) (s : State) → (what : Owed) × IsDue limit s what
some_due limit s = by (empty_or s.stock.clauses)
  where
    by_passive : (IsRefuted s → ⊥) → (s.turns ≡ limit → ⊥) → (es : List Entry) → s.passive ≡ es → (what : Owed) × IsDue limit s what
    by_passive f g [] e = (owed.End Exhausted, exhausted f g e)
    by_passive f g (x ∷ es) e = (owed.Turn, a_turn f g (λ h. (let z : ⊥ = cc in z)))

    by_turns : (IsRefuted s → ⊥) → ((eqb s.turns limit ≡ true) × (s.turns ≡ limit)) ⊎ ((eqb s.turns limit ≡ false) × (s.turns ≡ limit → ⊥)) → (what : Owed) × IsDue limit s what
    by_turns f (inl t) = (owed.End Limit, at_limit f t.1)
    by_turns f (inr t) = by_passive f t.1 s.passive refl

    by : IsRefuted s ⊎ (IsRefuted s → ⊥) → (what : Owed) × IsDue limit s what
    by (inl h) = (owed.End Won, won h)
    by (inr f) = by_turns f (eqb_tells s.turns limit)

one_due : {limit : ℕ} {s : State} (a b : Owed) → IsDue limit s a → IsDue limit s b → b ≡ a
one_due a b (won h) (won g) = refl
one_due a b (won h) (at_limit f t) = absurd (f h)
one_due a b (won h) (exhausted f t p) = absurd (f h)
one_due a b (won h) (a_turn f t p) = absurd (f h)
one_due a b (at_limit f t) (won h) = absurd (f h)
one_due a b (at_limit f t) (at_limit g u) = refl
one_due a b (at_limit f t) (exhausted g u p) = absurd (u t)
one_due a b (at_limit f t) (a_turn g u p) = absurd (u t)
one_due a b (exhausted f t p) (won h) = absurd (f h)
one_due a b (exhausted f t p) (at_limit g u) = absurd (t u)
one_due a b (exhausted f t p) (exhausted g u q) = refl
one_due a b (exhausted f t p) (a_turn g u q) = absurd (q p)
one_due a b (a_turn f t p) (won h) = absurd (f h)
one_due a b (a_turn f t p) (at_limit g u) = absurd (t u)
one_due a b (a_turn f t p) (exhausted g u q) = absurd (p q)
one_due a b (a_turn f t p) (a_turn g u q) = refl

one_owed : {limit : ℕ} {s : Standing} (a b : Option Owed) → IsOwed limit s a → IsOwed limit s b → b ≡ a
one_owed a b (due x e d) (due y f g) = ap (λ (o : Owed). Some o) (one_due x y d g)
one_owed a b (due x e d) (nothing c f) = (let z : ⊥ = cc in absurd z)
one_owed a b (nothing c f) (due x e d) = (let z : ⊥ = cc in absurd z)
one_owed a b (nothing c f) (nothing d g) = refl

pub one_is_owed : OneIsOwed
one_is_owed limit s = by s.ending refl
  where
    by : (ending : Option Cause) → s.ending ≡ ending → OwesOne limit s
    by (Some cause) e = record { what = None; is_owed = nothing cause e; no_other = λ other h. one_owed None other (nothing cause e) h }
    by None e =
        let d = some_due limit s.state in
        record { what = Some d.0; is_owed = due d.0 e d.1; no_other = λ other h. one_owed (Some d.0) other (due d.0 e d.1) h }

-- ---- the journal

got_last : {X : Type 0} (xs : List X) (x y : X) (n : ℕ) → slice_get (xs ++ x ∷ []) n ≡ Some y → (slice_get xs n ≡ Some y) ⊎ ((n ≡ length xs) × (y ≡ x))
got_last [] x y zero h = inr (refl, cc)
got_last [] x y (suc n) h = (let z : ⊥ = cc in absurd z)
got_last (z ∷ xs) x y zero h = inl h
got_last (z ∷ xs) x y (suc n) h = elim (got_last xs x y n h) [ inl e ↦ inl e | inr p ↦ inr (ap suc p.0, p.1) ]

one_more : {X : Type 0} (xs : List X) (x : X) → length (xs ++ x ∷ []) ≡ suc (length xs)
one_more xs x = let e = length-append xs (x ∷ []) in omega arith

below_limit : (n limit : ℕ) → n ≤ limit → (n ≡ limit → ⊥) → suc n ≤ limit
below_limit n limit l f = elim (by n limit l) [ inl g ↦ g | inr e ↦ absurd (f e) ]
  where
    by : (n limit : ℕ) → n ≤ limit → (suc n ≤ limit) ⊎ (n ≡ limit)
    by n limit l = grind arith

pub is_below : {limit : ℕ} {s : State} → IsDue limit s owed.Turn → s.turns ≤ limit → suc s.turns ≤ limit
is_below {limit} {s} (a_turn f t p) l = below_limit s.turns limit l t

pub runs_are_counted : RunsAreCounted
runs_are_counted setting limit hypotheses journal s (started state h) = let t = h.turns in (sym t, omega (arith, t))
runs_are_counted setting limit hypotheses journal s (went_on earlier old e new run step) = by e new step (runs_are_counted setting limit hypotheses earlier old run)
  where
    by : (e : Event) (new : Standing) → Steps setting limit old e new → (length earlier ≡ events old.state.turns old.ending) × (old.state.turns ≤ limit) → (length (earlier ++ e ∷ []) ≡ events new.state.turns new.ending) × (new.state.turns ≤ limit)
    by e new (turned given kept next going d turn) h =
        let count : length earlier ≡ old.state.turns = h.0 ∙ ap (events old.state.turns) going in
        let t = turn.turns in
        let below = is_below d h.1 in
        (one_more earlier (Turn given kept) ∙ ap suc count ∙ sym t, omega (arith, t, below))
    by e new (ended cause going may) h = (one_more earlier (Ended cause) ∙ ap suc (h.0 ∙ ap (events old.state.turns) going), h.1)

pub ends_come_last : EndsComeLast
ends_come_last setting limit hypotheses journal s (started state h) n cause g = (let z : ⊥ = cc in absurd z)
ends_come_last setting limit hypotheses journal s (went_on earlier old e new run step) n cause g =
    by e new step (elim (got_last earlier e (Ended cause) n g) [ inl x ↦ inl (ends_come_last setting limit hypotheses earlier old run n cause x).1 | inr p ↦ inr p ])
  where
    by : (e : Event) (new : Standing) → Steps setting limit old e new → (old.ending ≡ Some cause) ⊎ ((n ≡ length earlier) × (Ended cause ≡ e)) → (suc n ≡ length (earlier ++ e ∷ [])) × (new.ending ≡ Some cause)
    by e new (turned given kept next going d turn) (inl x) = (let z : ⊥ = cc in absurd z)
    by e new (turned given kept next going d turn) (inr p) = let q = p.1 in (let z : ⊥ = cc in absurd z)
    by e new (ended c going may) (inl x) = (let z : ⊥ = cc in absurd z)
    by e new (ended c going may) (inr p) = let q : Ended cause ≡ Ended c = p.1 in let r : c ≡ cause = cc in (ap suc p.0 ∙ sym (one_more earlier (Ended c)), ap (λ (x : Cause). Some x) r)

pub ends_are_entered : EndsAreEntered
ends_are_entered setting limit hypotheses journal s (started state h) cause g = (let z : ⊥ = cc in absurd z)
ends_are_entered setting limit hypotheses journal s (went_on earlier old e new run step) cause g = by e new step g
  where
    by : (e : Event) (new : Standing) → Steps setting limit old e new → new.ending ≡ Some cause → (front : List Event) × (earlier ++ e ∷ [] ≡ front ++ Ended cause ∷ [])
    by e new (turned given kept next going d turn) g = (let z : ⊥ = cc in absurd z)
    by e new (ended c going may) g = let r : c ≡ cause = cc in (earlier, ap (λ (x : Cause). earlier ++ Ended x ∷ []) r)

due_says : {limit : ℕ} {s : State} (cause : Cause) → IsDue limit s (owed.End cause) → Says limit s cause
due_says cause (won h) = h
due_says cause (at_limit f t) = (t, f)
due_says cause (exhausted f t p) = (p, t, f)

may_says : {limit : ℕ} {s : State} (cause : Cause) → MayEnd limit s cause → Says limit s cause
may_says cause (as_due c d) = due_says c d
may_says cause no_memory = tt

pub endings_are_right : EndingsAreRight
endings_are_right setting limit hypotheses journal s (started state h) cause g = (let z : ⊥ = cc in absurd z)
endings_are_right setting limit hypotheses journal s (went_on earlier old e new run step) cause g = by e new step g
  where
    by : (e : Event) (new : Standing) → Steps setting limit old e new → new.ending ≡ Some cause → Says limit new.state cause
    by e new (turned given kept next going d turn) g = (let z : ⊥ = cc in absurd z)
    by e new (ended c going may) g = let r : c ≡ cause = cc in subst (Says limit old.state) r (may_says c may)
