-- Searches that grew.
use Rattle.std.proofs.Common.{ℕ, suc, ◌≡◌, ◌∙◌, ◌+◌, ◌-◌, ◌<◌, ◌^◌, Bool, true, false, List, [], ◌∷◌, ◌++◌, length, Option, refl, sym, ap, subst, append-nil, eq-eqb, ne_eqb, ◌||◌, arith}
use Rattle.std.specs.Prelude.{nat_eq}
use Rattle.leo_clause.specs.declared.clause.Clause.{Clause}
use Rattle.leo_clause.specs.declared.record.StepRecord.{StepRecord}
use Rattle.leo_keep.specs.declared.fronts.Front.{Front}
use Rattle.leo_passive.specs.Entries.{Entry, AreBelow, without, has_number}
use Rattle.leo_turn.specs.declared.search.Search.{Search}
use Rattle.leo_turn.specs.Growth.{IsLonger, AreNext, Grows}
use Rattle.leo_turn.specs.Changing.{with_lines, with_clause, without_range, AreThere, Reaches, mark_of, cut_to}
use Rattle.std.proofs.lemmas.List.{append_assoc, length-append}
use Rattle.leo_turn.proofs.Lists.{longer-cut, longer-itself, longer-length, longer-trans}

next-added : (n : ℕ) (es fs : List Entry) → AreNext n es → AreNext (n + length es) fs → AreNext n (es ++ fs)
next-added n [] fs h k = (let e : n + 0 ≡ n = omega arith in subst (λ m. AreNext m fs) e k)
next-added n (e ∷ es) fs h k = (h.0, next-added (suc n) es fs h.1 (let f : n + suc (length es) ≡ suc n + length es = omega arith in subst (λ m. AreNext m fs) f k))

pub grows-itself : (s : Search) → Grows s s
grows-itself s = record {
  hyps = refl;
  abbr = longer-itself s.abbr.items;
  abbr_at = longer-itself s.abbr_at;
  lines = longer-itself s.lines;
  at = longer-itself s.at;
  fronts = longer-itself s.fronts;
  active = refl;
  turns = refl;
  depth = refl;
  weight = refl;
  clauses = [];
  entries = [];
  kept = sym (append-nil s.kept);
  passive = sym (append-nil s.passive);
  numbered = tt;
  as_many = refl;
  few = λ h. h;
}

pub grows-trans : {r s t : Search} → Grows r s → Grows s t → Grows r t
grows-trans {r} {s} {t} g h = record {
  hyps = h.hyps ∙ g.hyps;
  abbr = longer-trans g.abbr h.abbr;
  abbr_at = longer-trans g.abbr_at h.abbr_at;
  lines = longer-trans g.lines h.lines;
  at = longer-trans g.at h.at;
  fronts = longer-trans g.fronts h.fronts;
  active = h.active ∙ g.active;
  turns = h.turns ∙ g.turns;
  depth = h.depth ∙ g.depth;
  weight = h.weight ∙ g.weight;
  clauses = g.clauses ++ h.clauses;
  entries = g.entries ++ h.entries;
  kept = h.kept ∙ ap (λ (ks : List Clause). ks ++ h.clauses) g.kept ∙ append_assoc r.kept g.clauses h.clauses;
  passive = h.passive ∙ ap (λ (es : List Entry). es ++ h.entries) g.passive ∙ append_assoc r.passive g.entries h.entries;
  numbered = (let e : length s.kept ≡ length r.kept + length g.entries = ap length g.kept ∙ length-append r.kept g.clauses ∙ ap (λ n. length r.kept + n) (sym g.as_many) in next-added (length r.kept) g.entries h.entries g.numbered (subst (λ n. AreNext n h.entries) e h.numbered));
  as_many = length-append g.entries h.entries ∙ (let a = g.as_many in let b = h.as_many in let f : length g.entries + length h.entries ≡ length g.clauses + length h.clauses = omega arith in f) ∙ sym (length-append g.clauses h.clauses);
  few = λ l. h.few (g.few l);
}

pub grows-lines : (s : Search) (lines : List StepRecord) → IsLonger s.lines lines → Grows s (with_lines s lines)
grows-lines s lines l = record {
  hyps = refl;
  abbr = longer-itself s.abbr.items;
  abbr_at = longer-itself s.abbr_at;
  lines = l;
  at = longer-itself s.at;
  fronts = longer-itself s.fronts;
  active = refl;
  turns = refl;
  depth = refl;
  weight = refl;
  clauses = [];
  entries = [];
  kept = sym (append-nil s.kept);
  passive = sym (append-nil s.passive);
  numbered = tt;
  as_many = refl;
  few = λ h. h;
}

pub grows-at : (s : Search) (lines : List ℕ) (fronts : List (Option Front)) → IsLonger s.at lines → IsLonger s.fronts fronts → Grows s (record { hyps = s.hyps; abbr = s.abbr; abbr_at = s.abbr_at; kept = s.kept; fronts = fronts; active = s.active; passive = s.passive; lines = s.lines; at = lines; turns = s.turns; depth = s.depth; weight = s.weight })
grows-at s lines fronts l f = record {
  hyps = refl;
  abbr = longer-itself s.abbr.items;
  abbr_at = longer-itself s.abbr_at;
  lines = longer-itself s.lines;
  at = l;
  fronts = f;
  active = refl;
  turns = refl;
  depth = refl;
  weight = refl;
  clauses = [];
  entries = [];
  kept = sym (append-nil s.kept);
  passive = sym (append-nil s.passive);
  numbered = tt;
  as_many = refl;
  few = λ h. h;
}

pub grows-clause : (s : Search) (k : Clause) (f : Option Front) (n w : ℕ) → length s.kept < 200000 → Grows s (with_clause s k f n w)
grows-clause s k f n w l = record {
  hyps = refl;
  abbr = longer-itself s.abbr.items;
  abbr_at = longer-itself s.abbr_at;
  lines = longer-itself s.lines;
  at = record { more = n ∷ []; is = refl };
  fronts = record { more = f ∷ []; is = refl };
  active = refl;
  turns = refl;
  depth = refl;
  weight = refl;
  clauses = k ∷ [];
  entries = record { number = length s.kept; weight = w } ∷ [];
  kept = refl;
  passive = refl;
  numbered = (refl, tt);
  as_many = refl;
  few = λ h. (let e = length-append s.kept (k ∷ []) in omega arith);
}

-- taking out the entries that came
without-below : (n : ℕ) (es fs : List Entry) → AreBelow n es → without n (es ++ fs) ≡ es ++ without n fs
without-below n [] fs h = refl
without-below n (e ∷ es) fs h = let b = h.0 in let t : nat_eq n e.number ≡ false = ne_eqb n e.number (λ f. omega (arith, f)) in rw t (ap (λ (us : List Entry). e ∷ us) (without-below n es fs h.1))

without-above : (n m : ℕ) (es : List Entry) → n < m → AreNext m es → without n es ≡ es
without-above n m [] l h = refl
without-above n m (e ∷ es) l h = let f = h.0 in let t : nat_eq n e.number ≡ false = ne_eqb n e.number (λ g. omega (arith, g)) in rw t (ap (λ (us : List Entry). e ∷ us) (without-above n (suc m) es (omega arith) h.1))

without-first : (n : ℕ) (es : List Entry) (e : Entry) (fs : List Entry) → AreBelow n es → AreNext n (e ∷ fs) → without n (es ++ e ∷ fs) ≡ es ++ fs
without-first n es e fs b h = without-below n es (e ∷ fs) b ∙ (let t : nat_eq n e.number ≡ true = eq-eqb n e.number (sym h.0) in rw t (ap (λ (us : List Entry). es ++ us) (without-above n (suc n) fs (omega arith) h.1)))

has-first : (n : ℕ) (es : List Entry) (e : Entry) (fs : List Entry) → e.number ≡ n → has_number n (es ++ e ∷ fs) ≡ true
has-first n [] e fs h = (let t : nat_eq n e.number ≡ true = eq-eqb n e.number (sym h) in rw t refl)
has-first n (d ∷ es) e fs h = by (nat_eq n d.number) (has-first n es e fs h)
  where
    by : (b : Bool) → has_number n (es ++ e ∷ fs) ≡ true → (b || has_number n (es ++ e ∷ fs)) ≡ true
    by true k = refl
    by false k = k

below-more : (n : ℕ) (es : List Entry) → AreBelow n es → AreBelow (suc n) es
below-more n [] h = tt
below-more n (e ∷ es) h = let b = h.0 in (omega arith, below-more n es h.1)

pub next-taken_out : (n : ℕ) (es fs : List Entry) → AreBelow n es → AreNext n fs → without_range n (length fs) (es ++ fs) ≡ es
next-taken_out n es [] b h = append-nil es
next-taken_out n es (e ∷ fs) b h = ap (without_range (suc n) (length fs)) (without-first n es e fs b h) ∙ next-taken_out (suc n) es fs (below-more n es b) h.1

pub next-there : (n : ℕ) (es fs : List Entry) → AreBelow n es → AreNext n fs → AreThere n (length fs) (es ++ fs)
next-there n es [] b h = tt
next-there n es (e ∷ fs) b h = (has-first n es e fs h.0, subst (AreThere (suc n) (length fs)) (sym (without-first n es e fs b h)) (next-there (suc n) es fs (below-more n es b) h.1))

pub last-taken_out : (n w : ℕ) (es : List Entry) → AreBelow n es → without n (es ++ record { number = n; weight = w } ∷ []) ≡ es
last-taken_out n w es b = without-first n es (record { number = n; weight = w }) [] b (refl, tt) ∙ append-nil es

-- what came to a search can be dropped, and then it is as before
module _ {old new : Search} (g : Grows old new) (below : AreBelow (length old.kept) old.passive) where
  as_many-came : length new.kept - length old.kept ≡ length g.entries
  as_many-came = (let e : length new.kept ≡ length old.kept + length g.clauses = ap length g.kept ∙ length-append old.kept g.clauses in let a = g.as_many in omega arith)

  pub reaches-grown : length new.kept < 2 ^ 32 → Reaches new (mark_of old)
  reaches-grown few = record {
    lines = longer-length g.lines;
    abbr = longer-length g.abbr;
    abbr_at = longer-length g.abbr_at;
    at = longer-length g.at;
    fronts = longer-length g.fronts;
    kept = longer-length (record { more = g.clauses; is = g.kept });
    few = few;
    there = rw (as_many-came, g.passive) (next-there (length old.kept) old.passive g.entries below g.numbered);
  }

  passive-cut : without_range (length old.kept) (length new.kept - length old.kept) new.passive ≡ old.passive
  passive-cut = rw (as_many-came, g.passive) (next-taken_out (length old.kept) old.passive g.entries below g.numbered)

  pub cut-back : cut_to (mark_of old) new ≡ old
  cut-back = rw (g.hyps, longer-cut g.abbr, longer-cut g.abbr_at, longer-cut (record { more = g.clauses; is = g.kept }), longer-cut g.fronts, g.active, passive-cut, longer-cut g.lines, longer-cut g.at, g.turns, g.depth, g.weight) refl

-- one number less
pub range-next : {rest : List Entry} (n end : ℕ) (es fs : List Entry) → n < end → fs ≡ without n es → AreThere n (end - n) es → without_range n (end - n) es ≡ rest → AreThere (n + 1) (end - (n + 1)) fs × (without_range (n + 1) (end - (n + 1)) fs ≡ rest)
range-next {rest} n end es fs l e there is =
    let f : end - n ≡ suc (end - (n + 1)) = omega arith in
    let g : n + 1 ≡ suc n = omega arith in
    let t : AreThere n (suc (end - (n + 1))) es = subst (λ m. AreThere n m es) f there in
    let i : without_range n (suc (end - (n + 1))) es ≡ rest = subst (λ m. without_range n m es ≡ rest) f is in
    rw (e) (subst (λ m. AreThere m (end - (n + 1)) (without n es) × (without_range m (end - (n + 1)) (without n es) ≡ rest)) (sym g) (t.1, i))
