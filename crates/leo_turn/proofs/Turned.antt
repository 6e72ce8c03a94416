-- What one turn makes of a search.
use Rattle.std.proofs.Common.{ℕ, suc, ◌≡◌, ◌∙◌, ◌+◌, ◌-◌, ◌≤◌, Bool, true, false, List, [], ◌∷◌, ◌++◌, length, map, sym, ap, subst, eq-eqb, arith}
use Rattle.std.specs.Prelude.{nat_eq, ◌%◌, OnErr, Result, Ok, Err}
use Rattle.std.specs.List.{Contains}
use Rattle.std.proofs.lemmas.List.{map-append, length-append}
use Rattle.std.proofs.lemmas.List.Folds.{list_any_at}
use Rattle.leo_terms.specs.Contents.{Contents, Extends}
use Rattle.leo_clause.specs.Trees.{ClauseTree, clause_at}
use Rattle.leo_passive.specs.Entries.{Entry, has_number, without}
use Rattle.leo_turn.specs.declared.search.Search.{Search}
use Rattle.leo_turn.specs.Growth.{AreNext, Grows}
use Rattle.leo_turn.specs.Searches.{HaveWeights, IsSearch, kept_of}
use Rattle.leo_turn.specs.Starting.{with_given}
use Rattle.leo_turn.specs.Turns.{ArePartners, Infers, IsFirst, IsFixed, IsTurn, entries, setting_of, state_of, stock_of}
use Rattle.leo_turn.proofs.Lists.{length-map}
use Rattle.leo_turn.proofs.Passives.{entries-came, has-front, shared-given, weights-back, weights-without}
use Rattle.leo_turn.proofs.Valid.{kept-same}

pub on-err : {A E : Type 0} {P : Type 0} (r : Result A E) → P → OnErr r P
on-err (Ok a) p = tt
on-err (Err e) p = p

pub search-given : (c : Contents) (s : Search) (given : ℕ) → IsSearch c s → has_number given s.passive ≡ true → IsSearch c (with_given s given)
search-given c s given h has = record {
  hypotheses = h.hypotheses;
  steps = h.steps;
  accepted = h.accepted;
  origin = h.origin;
  choices = h.choices;
  choice_lines = h.choice_lines;
  rising = h.rising;
  typed = h.typed;
  fronts = h.fronts;
  normal = h.normal;
  few = h.few;
  clause_lines = h.clause_lines;
  plain = h.plain;
  shared = shared-given (length s.kept) given s.active s.passive h.shared has;
  weights = weights-without (kept_of c s) given s.passive h.weights;
}

-- the given clause is passive
lightest-has : (n : ℕ) (es : List Entry) (e : Entry) → Contains es e → e.number ≡ n → has_number n es ≡ true
lightest-has n es e h k = list_any_at (λ (d : Entry). nat_eq n d.number) es h.0 e h.1 (rw h.2 (eq-eqb n e.number (sym k)))

pub first-has : (b : Bool) (es : List Entry) (n : ℕ) → IsFirst b es n → has_number n es ≡ true
first-has true es n h = h.0
first-has false es n h = lightest-has n es h.0 h.1 h.2

module _ {b d : Contents} (e : Extends b d) (old s : Search) (h : IsSearch b old) (valid : IsSearch d s) (g : Grows old s) (given : ℕ) (first : IsFirst (nat_eq (suc old.turns % 5) 0) old.passive given) where
  pub given-has : has_number given s.passive ≡ true
  given-has = rw g.passive (has-front given old.passive g.entries (first-has (nat_eq (suc old.turns % 5) 0) old.passive given first))

  clauses-came : kept_of d s ≡ kept_of b old ++ map (clause_at d) g.clauses
  clauses-came = ap (map (clause_at d)) g.kept ∙ map-append (clause_at d) old.kept g.clauses ∙ ap (λ (ks : List ClauseTree). ks ++ map (clause_at d) g.clauses) (kept-same e old h)

  passive-came : s.passive ≡ old.passive ++ entries (length (kept_of b old)) (map (clause_at d) g.clauses)
  passive-came =
      let weights : HaveWeights (kept_of b old ++ map (clause_at d) g.clauses) g.entries = weights-back (kept_of b old ++ map (clause_at d) g.clauses) old.passive g.entries
      (subst (λ (ks : List ClauseTree). HaveWeights ks (old.passive ++ g.entries)) clauses-came (subst (HaveWeights (kept_of d s)) g.passive valid.weights)) in
      let next : AreNext (length (kept_of b old)) g.entries = subst (λ n. AreNext n g.entries) (sym (length-map (clause_at b) old.kept)) g.numbered in
      g.passive ∙ ap (λ (es : List Entry). old.passive ++ es) (entries-came (kept_of b old) (map (clause_at d) g.clauses) g.entries next (g.as_many ∙ sym (length-map (clause_at d) g.clauses)) weights)

  pub turned : (partners : List ℕ) → ArePartners old.active given partners
      → ((symbols : ℕ) → symbols ≤ length b.symbols → Infers (setting_of symbols old) given partners (stock_of b old) (stock_of d s))
      → (symbols : ℕ) → symbols ≤ length b.symbols → IsTurn (setting_of symbols old) (state_of b old) (state_of d (with_given s given)) given (length s.kept - length old.kept)
  turned partners are infers symbols l = record {
    is_given = first;
    partners = partners;
    are_partners = are;
    infers = infers symbols l;
    clauses = map (clause_at d) g.clauses;
    grown = clauses-came;
    count = (let k : length s.kept ≡ length old.kept + length g.clauses = ap length g.kept ∙ length-append old.kept g.clauses in let m = length-map (clause_at d) g.clauses in omega (arith, k, m));
    active = ap (λ (ns : List ℕ). ns ++ given ∷ []) g.active;
    passive = ap (without given) passive-came;
    turns = (let t = g.turns in omega (arith, t));
  }

  pub turn-fixed : IsFixed old.hyps old.depth old.weight (with_given s given)
  turn-fixed = record { hyps_are = g.hyps; depth_is = g.depth; weight_is = g.weight }
