-- A clause has one outcome.
use Rattle.std.proofs.Common.{ℕ, ◌≡◌, List, refl, ap, inl, inr}
use Rattle.std.proofs.lemmas.Bool.{cases_order}
use Rattle.fo_text.specs.declared.problem.FoSym.{FoSym}
use Rattle.fo_text.specs.declared.problem.FoClause.{FoClause}
use Rattle.fo_super.specs.declared.outcomes.FoOutcome.{FoOutcome}
use Rattle.fo_super.specs.declared.outcomes.FoOutcome.TheVariants as outcome
use Rattle.fo_super.specs.Laws.{OutcomesAreUnique}
use Rattle.fo_super.specs.Outcomes.{HoldsOfNone, IsAdmitted, IsHeavy, IsIdentical, IsLeast, LacksRoom, OutcomeOf, tautology, room, heavy, copy, subsumed, kept}
use Rattle.fo_super.specs.Subsumption.{Subsumes}
use Rattle.fo_super.specs.Tautologies.{IsTautology}

least-same : (P : FoClause → Type 0) (clauses : List FoClause) (m n : ℕ) → IsLeast P clauses m → IsLeast P clauses n → m ≡ n
least-same P clauses m n h k =
    elim (cases_order m n) [
      | inl e ↦ e
      | inr (inl l) ↦ absurd (k.least m h.clause l h.stands h.holds)
      | inr (inr l) ↦ absurd (h.least n k.clause l k.stands k.holds)
    ]

module _ (syms : List FoSym) (clauses : List FoClause) (limit : ℕ) (instance c : FoClause) where
  none-least : (P : FoClause → Type 0) (n : ℕ) → HoldsOfNone P clauses → IsLeast P clauses n → ⊥
  none-least P n f h = f n h.clause h.stands h.holds

  is-tautology : IsTautology c.lits → (o : FoOutcome) → OutcomeOf syms clauses limit instance c o → outcome.Tautology ≡ o
  is-tautology t _ (tautology u) = refl
  is-tautology t _ (room f r) = absurd (f t)
  is-tautology t _ (heavy f g h) = absurd (f t)
  is-tautology t _ (copy a l) = absurd (a.no_tautology t)
  is-tautology t _ (subsumed a f l) = absurd (a.no_tautology t)
  is-tautology t _ (kept a f g) = absurd (a.no_tautology t)

  is-room : (IsTautology c.lits → ⊥) → LacksRoom clauses c → (o : FoOutcome) → OutcomeOf syms clauses limit instance c o → outcome.Room ≡ o
  is-room n r _ (tautology u) = absurd (n u)
  is-room n r _ (room f s) = refl
  is-room n r _ (heavy f g h) = absurd (g r)
  is-room n r _ (copy a l) = absurd (a.has_room r)
  is-room n r _ (subsumed a f l) = absurd (a.has_room r)
  is-room n r _ (kept a f g) = absurd (a.has_room r)

  is-heavy : (IsTautology c.lits → ⊥) → (LacksRoom clauses c → ⊥) → IsHeavy limit instance c → (o : FoOutcome) → OutcomeOf syms clauses limit instance c o → outcome.Heavy ≡ o
  is-heavy n r w _ (tautology u) = absurd (n u)
  is-heavy n r w _ (room f s) = absurd (r s)
  is-heavy n r w _ (heavy f g h) = refl
  is-heavy n r w _ (copy a l) = absurd (a.not_heavy w)
  is-heavy n r w _ (subsumed a f l) = absurd (a.not_heavy w)
  is-heavy n r w _ (kept a f g) = absurd (a.not_heavy w)

  is-copy : (m : ℕ) → IsAdmitted clauses limit instance c → IsLeast (λ k. IsIdentical k c) clauses m → (o : FoOutcome) → OutcomeOf syms clauses limit instance c o → outcome.Copy m ≡ o
  is-copy m b k _ (tautology u) = absurd (b.no_tautology u)
  is-copy m b k _ (room f s) = absurd (b.has_room s)
  is-copy m b k _ (heavy f g h) = absurd (b.not_heavy h)
  is-copy m b k _ (copy {n = n} a l) = ap outcome.Copy (least-same (λ k. IsIdentical k c) clauses m n k l)
  is-copy m b k _ (subsumed a f l) = absurd (none-least (λ k. IsIdentical k c) m f k)
  is-copy m b k _ (kept a f g) = absurd (none-least (λ k. IsIdentical k c) m f k)

  is-subsumed : (m : ℕ) → IsAdmitted clauses limit instance c → HoldsOfNone (λ k. IsIdentical k c) clauses → IsLeast (λ k. Subsumes syms k c) clauses m → (o : FoOutcome) → OutcomeOf syms clauses limit instance c o → outcome.Subsumed m ≡ o
  is-subsumed m b n k _ (tautology u) = absurd (b.no_tautology u)
  is-subsumed m b n k _ (room f s) = absurd (b.has_room s)
  is-subsumed m b n k _ (heavy f g h) = absurd (b.not_heavy h)
  is-subsumed m b n k _ (copy {n = i} a l) = absurd (none-least (λ k. IsIdentical k c) i n l)
  is-subsumed m b n k _ (subsumed {n = i} a f l) = ap outcome.Subsumed (least-same (λ k. Subsumes syms k c) clauses m i k l)
  is-subsumed m b n k _ (kept a f g) = absurd (none-least (λ k. Subsumes syms k c) m g k)

  is-kept : IsAdmitted clauses limit instance c → HoldsOfNone (λ k. IsIdentical k c) clauses → HoldsOfNone (λ k. Subsumes syms k c) clauses → (o : FoOutcome) → OutcomeOf syms clauses limit instance c o → outcome.Kept ≡ o
  is-kept b n s _ (tautology u) = absurd (b.no_tautology u)
  is-kept b n s _ (room f r) = absurd (b.has_room r)
  is-kept b n s _ (heavy f g h) = absurd (b.not_heavy h)
  is-kept b n s _ (copy {n = i} a l) = absurd (none-least (λ k. IsIdentical k c) i n l)
  is-kept b n s _ (subsumed {n = i} a f l) = absurd (none-least (λ k. Subsumes syms k c) i s l)
  is-kept b n s _ (kept a f g) = refl

pub unique : OutcomesAreUnique
unique syms clauses limit instance c _ p (tautology t) h = is-tautology syms clauses limit instance c t p h
unique syms clauses limit instance c _ p (room f r) h = is-room syms clauses limit instance c f r p h
unique syms clauses limit instance c _ p (heavy f g w) h = is-heavy syms clauses limit instance c f g w p h
unique syms clauses limit instance c _ p (copy {n = n} a l) h = is-copy syms clauses limit instance c n a l p h
unique syms clauses limit instance c _ p (subsumed {n = n} a f l) h = is-subsumed syms clauses limit instance c n a f l p h
unique syms clauses limit instance c _ p (kept a f g) h = is-kept syms clauses limit instance c a f g p h
