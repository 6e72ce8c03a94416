-- A clause has one outcome.
use Rattle.std.proofs.Common.{ℕ, ◌≡◌, List, Option, refl, ap, inl, inr}
use Rattle.std.proofs.lemmas.Bool.{cases_order}
use Rattle.leo_clause.specs.Trees.{ClauseTree}
use Rattle.leo_keep.specs.declared.outcomes.Outcome.{Outcome}
use Rattle.leo_keep.specs.declared.outcomes.Outcome.TheVariants as outcome
use Rattle.leo_keep.specs.Laws.{OutcomesAreUnique}
use Rattle.leo_keep.specs.Outcomes.{HoldsOfNone, IsAdmitted, IsHeavy, IsLeast, LacksRoom, OutcomeOf, tautology, room, heavy, copy, subsumed, kept}
use Rattle.leo_keep.specs.Subsumption.{Subsumes}
use Rattle.leo_keep.specs.Tautologies.{IsTautology}

least-same : (P : ClauseTree → Type 0) (clauses : List ClauseTree) (m n : ℕ) → IsLeast P clauses m → IsLeast P clauses n → m ≡ n
least-same P clauses m n h k =
    elim (cases_order m n) [
      | inl e ↦ e
      | inr (inl l) ↦ absurd (k.least m h.clause l h.stands h.holds)
      | inr (inr l) ↦ absurd (h.least n k.clause l k.stands k.holds)
    ]

module _ (clauses : List ClauseTree) (c : ClauseTree) (limit : Option ℕ) where
  none-least : (P : ClauseTree → Type 0) (n : ℕ) → HoldsOfNone P clauses → IsLeast P clauses n → ⊥
  none-least P n f h = f n h.clause h.stands h.holds

  is-tautology : IsTautology c.literals → (o : Outcome) → OutcomeOf clauses c limit o → outcome.Tautology ≡ o
  is-tautology t _ (tautology u) = refl
  is-tautology t _ (room f r) = absurd (f t)
  is-tautology t _ (heavy f g h) = absurd (f t)
  is-tautology t _ (copy a l) = absurd (a.no_tautology t)
  is-tautology t _ (subsumed a f l) = absurd (a.no_tautology t)
  is-tautology t _ (kept a f g) = absurd (a.no_tautology t)

  is-room : (IsTautology c.literals → ⊥) → LacksRoom clauses c → (o : Outcome) → OutcomeOf clauses c limit o → outcome.Room ≡ o
  is-room n r _ (tautology u) = absurd (n u)
  is-room n r _ (room f s) = refl
  is-room n r _ (heavy f g h) = absurd (g r)
  is-room n r _ (copy a l) = absurd (a.has_room r)
  is-room n r _ (subsumed a f l) = absurd (a.has_room r)
  is-room n r _ (kept a f g) = absurd (a.has_room r)

  is-heavy : (IsTautology c.literals → ⊥) → (LacksRoom clauses c → ⊥) → IsHeavy limit c → (o : Outcome) → OutcomeOf clauses c limit o → outcome.Heavy ≡ o
  is-heavy n r w _ (tautology u) = absurd (n u)
  is-heavy n r w _ (room f s) = absurd (r s)
  is-heavy n r w _ (heavy f g h) = refl
  is-heavy n r w _ (copy a l) = absurd (a.not_heavy w)
  is-heavy n r w _ (subsumed a f l) = absurd (a.not_heavy w)
  is-heavy n r w _ (kept a f g) = absurd (a.not_heavy w)

  is-copy : (m : ℕ) → IsAdmitted clauses c limit → IsLeast (λ k. k ≡ c) clauses m → (o : Outcome) → OutcomeOf clauses c limit o → outcome.Copy m ≡ o
  is-copy m b k _ (tautology u) = absurd (b.no_tautology u)
  is-copy m b k _ (room f s) = absurd (b.has_room s)
  is-copy m b k _ (heavy f g h) = absurd (b.not_heavy h)
  is-copy m b k _ (copy {n = n} a l) = ap outcome.Copy (least-same (λ k. k ≡ c) clauses m n k l)
  is-copy m b k _ (subsumed a f l) = absurd (none-least (λ k. k ≡ c) m f k)
  is-copy m b k _ (kept a f g) = absurd (none-least (λ k. k ≡ c) m f k)

  is-subsumed : (m : ℕ) → IsAdmitted clauses c limit → HoldsOfNone (λ k. k ≡ c) clauses → IsLeast (λ k. Subsumes k c) clauses m → (o : Outcome) → OutcomeOf clauses c limit o → outcome.Subsumed m ≡ o
  is-subsumed m b n k _ (tautology u) = absurd (b.no_tautology u)
  is-subsumed m b n k _ (room f s) = absurd (b.has_room s)
  is-subsumed m b n k _ (heavy f g h) = absurd (b.not_heavy h)
  is-subsumed m b n k _ (copy {n = i} a l) = absurd (none-least (λ k. k ≡ c) i n l)
  is-subsumed m b n k _ (subsumed {n = i} a f l) = ap outcome.Subsumed (least-same (λ k. Subsumes k c) clauses m i k l)
  is-subsumed m b n k _ (kept a f g) = absurd (none-least (λ k. Subsumes k c) m g k)

  is-kept : IsAdmitted clauses c limit → HoldsOfNone (λ k. k ≡ c) clauses → HoldsOfNone (λ k. Subsumes k c) clauses → (o : Outcome) → OutcomeOf clauses c limit o → outcome.Kept ≡ o
  is-kept b n s _ (tautology u) = absurd (b.no_tautology u)
  is-kept b n s _ (room f r) = absurd (b.has_room r)
  is-kept b n s _ (heavy f g h) = absurd (b.not_heavy h)
  is-kept b n s _ (copy {n = i} a l) = absurd (none-least (λ k. k ≡ c) i n l)
  is-kept b n s _ (subsumed {n = i} a f l) = absurd (none-least (λ k. Subsumes k c) i s l)
  is-kept b n s _ (kept a f g) = refl

pub unique : OutcomesAreUnique
unique clauses c limit _ p (tautology t) h = is-tautology clauses c limit t p h
unique clauses c limit _ p (room f r) h = is-room clauses c limit f r p h
unique clauses c limit _ p (heavy f g w) h = is-heavy clauses c limit f g w p h
unique clauses c limit _ p (copy {n = n} a l) h = is-copy clauses c limit n a l p h
unique clauses c limit _ p (subsumed {n = n} a f l) h = is-subsumed clauses c limit n a f l p h
unique clauses c limit _ p (kept a f g) h = is-kept clauses c limit a f g p h
