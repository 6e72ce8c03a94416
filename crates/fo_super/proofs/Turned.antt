-- The state at the start, and after a turn.
use Rattle.std.proofs.Common.{ℕ, zero, suc, ◌≡◌, ◌∙◌, ◌+◌, ◌-◌, ◌<◌, ◌≤◌, Bool, List, [], ◌∷◌, ◌++◌, length, map, take, nat_eq, not, slice_get, Some, refl, sym, ap, subst, arith, append_assoc}
use Rattle.std.specs.Prelude.{filter, flat_map}
use Rattle.std.specs.List.{AllByRecursion}
use Rattle.fo_text.specs.declared.problem.FoSym.{FoSym}
use Rattle.fo_text.specs.declared.problem.FoClause.{FoClause}
use Rattle.fo_text.specs.declared.problem.FoProblem.{FoProblem}
use Rattle.fo_text.specs.Problems.{IsClause, IsProblem}
use Rattle.fo_text.specs.Words.{most_number}
use Rattle.fo_super.specs.declared.notes.FoNotes.{FoNotes}
use Rattle.fo_super.specs.declared.state.FoOrigin.{FoOrigin}
use Rattle.fo_super.specs.declared.state.FoState.{FoState}
use Rattle.fo_super.specs.Members.{Member, actives, factorings, meetings, members, numbered_from, resolutions}
use Rattle.fo_super.specs.Notes.{AreNotes}
use Rattle.fo_super.specs.Passives.{others_from, without, ArePartners, IsFirst, IsFrontOf, IsRisingFrom}
use Rattle.fo_super.specs.Runs.{origin_of, search_after, search_of, started, turned, IsFit, IsGrown, IsRunOf, IsState}
use Rattle.fo_super.specs.Sifting.{alone}
use Rattle.fo_super.specs.Turns.{Origin, Search, given, numbers_from, start, IsByNumber, IsGiven, IsTurn, Works}
use Rattle.fo_super.proofs.Choosing.{active-partners, all-numbers, numbers-below, rising-numbers, turned-named, turned-rising}
use Rattle.fo_super.proofs.Fronts.{front-cut}
use Rattle.fo_super.proofs.Noted.{notes-cut}
use Rattle.fo_super.proofs.Works.{works-few, works-fit}

-- the clause that is given
pub chosen : (s : FoState) (b : Bool) (g : ℕ) → IsFirst b s.clauses s.passive g → IsByNumber (suc s.turns) b → (c : FoClause) × IsGiven (search_of s) g c
chosen s b g h k = (h.clause, record { by_number = b; kind = k; place = h.place; stands = h.stands; clause_at = h.clause_at; first = h.first })

-- a turn
pub turn-made : (old new : FoState) (g count more : ℕ) (partners ns : List ℕ) → (chosen : (c : FoClause) × IsGiven (search_of old) g c) → IsGrown old new → count ≡ length old.clauses → partners ≡ others_from 0 count (without g old.passive) →
    ((c : FoClause) (ps : List (ℕ × FoClause)) → slice_get old.clauses g ≡ Some c → ArePartners old.clauses partners ps →
    Works old.problem (alone g c.lits ++ flat_map (meetings g c.lits) ps) old.clauses (map origin_of old.origins) new.clauses (map origin_of new.origins)) →
    ns ≡ without g old.passive ++ numbers_from count more → length new.clauses ≡ count + more → IsTurn old.problem (search_of old) (search_after new ns)
turn-made old new g count more partners ns chosen grown e f works h k = record {
  given = g;
  clause = chosen.0;
  more = more;
  chosen = chosen.1;
  worked = subst (λ (ms : List Member). Works old.problem ms old.clauses (map origin_of old.origins) new.clauses (map origin_of new.origins))
      (append_assoc (resolutions g chosen.0.lits) (factorings g chosen.0.lits) (flat_map (meetings g chosen.0.lits) (actives old.clauses (without g old.passive))))
      (works chosen.0 (actives old.clauses (without g old.passive)) chosen.1.clause_at
      (subst (λ (x : List ℕ). ArePartners old.clauses x (actives old.clauses (without g old.passive))) (sym (f ∙ ap (λ n. others_from 0 n (without g old.passive)) e)) (active-partners old.clauses (without g old.passive))));
  passive = h ∙ ap (λ n. without g old.passive ++ numbers_from n more) e;
  counted = k ∙ ap (λ n. n + more) e;
  turns = (let t = grown.turns in let u : new.turns + 1 ≡ suc old.turns = omega arith in u);
}

-- keeps the state valid
pub state-turned : (old new : FoState) → IsState old → new.problem ≡ old.problem → AreNotes new.notes new.clauses → IsTurn old.problem (search_of old) (search_of new) → IsState new
state-turned old new h e noted t = record {
  notes = noted;
  run = subst (λ (p : FoProblem). IsRunOf p (search_of new)) (sym e) (turned h.run t);
  count = works-few old.problem t.worked h.count;
  fit = subst (λ (p : FoProblem). AllByRecursion (IsFit p.syms) new.clauses) (sym e) (works-fit old.problem t.worked h.fit);
  rising = subst (IsRisingFrom 0) (sym t.passive) (turned-rising t.given t.more (length old.clauses) old.passive h.rising h.named);
  named = subst (λ (ns : List ℕ). AllByRecursion (λ (n : ℕ). n < length new.clauses) ns) (sym t.passive)
      (subst (λ (m : ℕ). AllByRecursion (λ (n : ℕ). n < m) (without t.given old.passive ++ numbers_from (length old.clauses) t.more)) (sym t.counted) (turned-named t.given t.more (length old.clauses) old.passive h.named));
}

-- cut back
abbrev make : FoProblem → List FoClause → List FoOrigin → FoNotes → List ℕ → ℕ → FoState
make p cs os xs ns t = record { problem = p; clauses = cs; origins = os; notes = xs; passive = ns; turns = t }

pub cut-back : (old new : FoState) (m n : ℕ) (cs : List FoClause) (os : List FoOrigin) (xs : FoNotes) → IsState old → IsGrown old new → m ≡ length old.clauses → n ≡ length old.origins → cs ≡ take m new.clauses → os ≡ take n new.origins →
    xs.masks ≡ take m new.notes.masks → xs.weights ≡ take m new.notes.weights → make new.problem cs os xs new.passive new.turns ≡ old
cut-back old new m n cs os xs state h e f a b c d =
    ap (λ (x : FoProblem). make x cs os xs new.passive new.turns) h.problem
    ∙ ap (λ (x : List FoClause). make old.problem x os xs new.passive new.turns) (a ∙ front-cut old.clauses new.clauses m h.clauses e)
    ∙ ap (λ (x : List FoOrigin). make old.problem old.clauses x xs new.passive new.turns) (b ∙ front-cut old.origins new.origins n h.origins f)
    ∙ ap (λ (x : FoNotes). make old.problem old.clauses old.origins x new.passive new.turns) (notes-cut xs old.notes new.notes old.clauses m state.notes h.notes e c d)
    ∙ ap (λ (x : List ℕ). make old.problem old.clauses old.origins old.notes x new.turns) h.passive
    ∙ ap (make old.problem old.clauses old.origins old.notes old.passive) h.turns

-- the start
pub fit-all : (sorts : ℕ) (syms : List FoSym) (cs : List FoClause) → AllByRecursion (IsClause sorts syms) cs → AllByRecursion (IsFit syms) cs
fit-all sorts syms [] h = tt
fit-all sorts syms (c ∷ cs) h = (record { few = h.0.lits_count; sorted = h.0.lits }, fit-all sorts syms cs h.1)

abbrev place : List Origin → List ℕ → FoProblem → Search
place os ns p = record { clauses = p.clauses; origins = os; passive = ns; turns = 0 }

pub search-started : (p : FoProblem) (cs : List FoClause) (os : List FoOrigin) (xs : FoNotes) (ns : List ℕ) → cs ≡ p.clauses → map origin_of os ≡ map (λ c. given) p.clauses → ns ≡ numbers_from 0 (length p.clauses) → search_of (make p cs os xs ns 0) ≡ start p
search-started p cs os xs ns d e f =
    ap (λ (x : List FoClause). search_of (make p x os xs ns 0)) d ∙ ap (λ (x : List Origin). place x ns p) e ∙ ap (λ (x : List ℕ). place (map (λ c. given) p.clauses) x p) (f ∙ all-numbers 0 p.clauses)

pub state-started : (p : FoProblem) (cs : List FoClause) (os : List FoOrigin) (xs : FoNotes) (ns : List ℕ) → IsProblem p → AreNotes xs cs → cs ≡ p.clauses → map origin_of os ≡ map (λ c. given) p.clauses → ns ≡ numbers_from 0 (length p.clauses) → IsState (make p cs os xs ns 0)
state-started p cs os xs ns h noted d e f = record {
  notes = noted;
  run = subst (IsRunOf p) (sym (search-started p cs os xs ns d e f)) started;
  count = subst (λ (x : List FoClause). length x ≤ most_number) (sym d) h.clauses_count;
  fit = subst (AllByRecursion (IsFit p.syms)) (sym d) (fit-all p.sorts p.syms p.clauses h.clauses);
  rising = subst (IsRisingFrom 0) (sym f) (rising-numbers 0 (length p.clauses));
  named = subst (λ (x : List FoClause). AllByRecursion (λ (n : ℕ). n < length x) ns) (sym d) (subst (λ (x : List ℕ). AllByRecursion (λ (n : ℕ). n < length p.clauses) x) (sym f) (numbers-below 0 (length p.clauses) (length p.clauses) (let a : 0 + length p.clauses ≤ length p.clauses = omega arith in a)));
}

-- as many clauses as a number counts
pub few-kept : (old : FoState) (cs : List FoClause) (os : List FoOrigin) (g count : ℕ) (partners : List ℕ) → (c : FoClause) × IsGiven (search_of old) g c → length old.clauses ≤ most_number → count ≡ length old.clauses → partners ≡ others_from 0 count (without g old.passive) →
    ((c : FoClause) (ps : List (ℕ × FoClause)) → slice_get old.clauses g ≡ Some c → ArePartners old.clauses partners ps →
    Works old.problem (alone g c.lits ++ flat_map (meetings g c.lits) ps) old.clauses (map origin_of old.origins) cs (map origin_of os)) → length cs ≤ most_number
few-kept old cs os g count partners chosen l e f works =
    works-few old.problem (works chosen.0 (actives old.clauses (without g old.passive)) chosen.1.clause_at
    (subst (λ (x : List ℕ). ArePartners old.clauses x (actives old.clauses (without g old.passive))) (sym (f ∙ ap (λ n. others_from 0 n (without g old.passive)) e)) (active-partners old.clauses (without g old.passive)))) l
