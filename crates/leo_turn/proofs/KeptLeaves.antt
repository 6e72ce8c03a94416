-- Leaves that are kept.
use Rattle.std.proofs.Common.{ℕ, zero, suc, ◌≡◌, ◌∙◌, ◌+◌, ◌-◌, ◌<◌, List, [], ◌∷◌, ◌++◌, length, map, take, slice_get, Option, Some, refl, sym, ap, subst, arith}
use Rattle.std.specs.Prelude.{slice_index_or}
use Rattle.std.proofs.lemmas.List.{map-append}
use Rattle.leo_terms.specs.Contents.{Contents}
use Rattle.leo_clause.specs.declared.record.StepRecord.{StepRecord}
use Rattle.leo_clause.specs.Choices.{choices_at}
use Rattle.leo_clause.specs.declared.choices.Abbr.{Abbr}
use Rattle.leo_clause.specs.Trees.{ClauseTree, clause_at}
use Rattle.leo_kernel.specs.Steps.{Line, line_at}
use Rattle.leo_kernel.specs.Symbols.{abbreviation_at}
use Rattle.leo_clausify.specs.declared.leaves.Leaf.{Leaf}
use Rattle.leo_clausify.specs.Leaves.{IsLeafOf, leaf_clause}
use Rattle.leo_clausify.specs.Origins.{AreLinesFrom}
use Rattle.leo_keep.specs.declared.outcomes.Outcome.TheVariants as outcome
use Rattle.leo_keep.specs.declared.fronts.Front.{Front}
use Rattle.leo_keep.specs.Fronts.{IsFront}
use Rattle.leo_keep.specs.Outcomes.{OutcomeOf}
use Rattle.leo_turn.specs.declared.search.Search.{Search}
use Rattle.leo_turn.specs.Changing.{AreAllFrom, AreAppended, AreLeavesOf, AreReady, IsKept, IsLeafAt, HasSameSymbols, with_clause, with_lines}
use Rattle.leo_turn.specs.Growth.{Grows, IsLonger}
use Rattle.leo_turn.specs.Intakes.{Takes, added, TakesAll, none_left, next}
use Rattle.leo_turn.specs.Searches.{HasClause, IsSearch, choices_of, hypotheses_of, kept_of, lines_of, passive_weight}
use Rattle.leo_turn.proofs.Growing.{grows-itself, grows-trans}
use Rattle.leo_turn.proofs.Lists.{stands-at, take-next, get-front_same, get-within, longer-itself, longer-map, longer-trans}
use Rattle.leo_turn.proofs.Origins.{all-from, choices-there, clause-from}
use Rattle.leo_turn.proofs.Valid.{clause-longer, search-clause, search-lines}

pub leaf-ready : (c : Contents) (s : Search) (n : ℕ) (leaf : Leaf) → IsSearch c s → IsLeafAt c s n leaf → AreReady c s.lines (s.abbr_at ++ n ∷ []) leaf.records
leaf-ready c s n leaf h l = record {
  choices = choices_of c s;
  clauses = l.start ∷ [];
  some = omega arith;
  first = record { symbols = s.abbr_at; parents = n ∷ []; numbers_are = refl; choice_lines = h.choice_lines; clause_lines = (l.clause, tt); plain = (l.plain, tt) };
  steps = l.leaf_of.steps;
  accepted = l.leaf_of.accepted;
}

-- each base type in the records is `$o` or stands in the lines, and each symbol stands there
leaf-from : (c : Contents) (s : Search) (n : ℕ) (leaf : Leaf) → IsSearch c s → IsLeafAt c s n leaf → AreAllFrom (hypotheses_of c s) (lines_of c s) (map (line_at c) leaf.records)
leaf-from c s n leaf h l o g =
    let all : AreLinesFrom o (lines_of c s) = all-from (lines_of c s) h.origin g in
    l.leaf_of.origin o g.truth (clause-from o (lines_of c s) n l.start all l.clause) (choices-there o (lines_of c s) s.abbr_at (choices_of c s) all h.choice_lines)

pub kept-leaf : (c : Contents) (s : Search) (n w : ℕ) (leaf : Leaf) (f : Option Front) (lines : List StepRecord) → IsSearch c s → IsFront c leaf.clause f → length s.kept < 200000 → IsLeafAt c s n leaf → AreAppended c leaf.records s.lines lines → IsLonger s.lines lines → w ≡ passive_weight (clause_at c leaf.clause) → IsKept c s (with_clause (with_lines s lines) leaf.clause f (length lines - 1) w) leaf
kept-leaf c s n w leaf f lines h front few l a longer weight =
    let valid : IsSearch c (with_lines s lines) = search-lines c s lines h longer (a.steps h.steps) (a.accepted (hypotheses_of c s) h.accepted) (a.origin (hypotheses_of c s) h.origin (leaf-from c s n leaf h l)) in
    let line : HasClause (map (line_at c) lines) (length lines - 1) (clause_at c leaf.clause) = subst (HasClause (map (line_at c) lines) (length lines - 1)) l.leaf_of.ends (a.ends l.start l.leaf_of.some) in
    record {
      search = search-clause c (with_lines s lines) leaf.clause f (length lines - 1) w valid few l.leaf_of.typed front l.leaf_of.normal line (a.plain l.leaf_of.some) weight;
      start = record { abbr = refl; lines = longer-map (line_at c) longer };
      kept = refl;
    }

-- what becomes of one leaf
pub taken-kept : (c : Contents) (limit : Option ℕ) (old new : Search) (leaf : Leaf) → OutcomeOf (kept_of c old) (leaf_clause c leaf) limit outcome.Kept → IsKept c old new leaf → Takes limit (kept_of c old) (leaf_clause c leaf) (kept_of c new)
taken-kept c limit old new leaf o k =
    let e : kept_of c new ≡ kept_of c old ++ leaf_clause c leaf ∷ [] = ap (map (clause_at c)) k.kept ∙ map-append (clause_at c) old.kept (leaf.clause ∷ []) in
    subst (Takes limit (kept_of c old) (leaf_clause c leaf)) (sym e) (added o)

pub start-itself : (c : Contents) (s : Search) → HasSameSymbols c s s
start-itself c s = record { abbr = refl; lines = longer-itself (lines_of c s) }

start-trans : (c : Contents) (r s t : Search) → HasSameSymbols c r s → HasSameSymbols c s t → HasSameSymbols c r t
start-trans c r s t g h = record { abbr = h.abbr ∙ g.abbr; lines = longer-trans g.lines h.lines }

leaf-later : (c : Contents) (old s : Search) (n : ℕ) (leaf : Leaf) → HasSameSymbols c old s → IsLeafAt c old n leaf → IsLeafAt c s n leaf
leaf-later c old s n leaf g l =
    let same : slice_get (lines_of c s) n ≡ slice_get (lines_of c old) n = ap (λ (ls : List Line). slice_get ls n) g.lines.is ∙ get-front_same (lines_of c old) g.lines.more n (get-within (lines_of c old) n l.clause.line l.clause.stands) in
    record {
      start = l.start;
      clause = clause-longer g.lines n l.start l.clause;
      plain = ap abbreviation_at same ∙ l.plain;
      leaf_of = subst (λ (a : Abbr). IsLeafOf c (choices_at c a) l.start leaf) (sym g.abbr) l.leaf_of;
    }

leaf-at : (c : Contents) (s : Search) (n : ℕ) (leaves : List Leaf) (i : ℕ) (leaf : Leaf) → AreLeavesOf c s n leaves → slice_get leaves i ≡ Some leaf → IsLeafAt c s n leaf
leaf-at c s n [] i leaf h e = absurd cc
leaf-at c s n (l ∷ leaves) zero leaf h e = let f : l ≡ leaf = cc in subst (IsLeafAt c s n) f h.0
leaf-at c s n (l ∷ leaves) (suc i) leaf h e = leaf-at c s n leaves i leaf h.1 e

-- the first i of the leaves were taken
pub record AreTaken (c : Contents) (limit : Option ℕ) (old s : Search) (leaves : List Leaf) (i : ℕ) : Type 0 where
  pub search : IsSearch c s
  pub takes : TakesAll limit (kept_of c old) (map (leaf_clause c) (take i leaves)) (kept_of c s)
  pub start : HasSameSymbols c old s
  pub grows : Grows old s

pub taken-first : (c : Contents) (limit : Option ℕ) (s : Search) (leaves : List Leaf) → IsSearch c s → AreTaken c limit s s leaves 0
taken-first c limit s leaves h = record { search = h; takes = none_left (kept_of c s); start = start-itself c s; grows = grows-itself s }

all-added : (limit : Option ℕ) (old middle later : List ClauseTree) (leaves : List ClauseTree) (leaf : ClauseTree) → TakesAll limit old leaves middle → Takes limit middle leaf later → TakesAll limit old (leaves ++ leaf ∷ []) later
all-added limit old middle later leaves leaf (none_left k) t = next k later later leaf [] t (none_left later)
all-added limit old middle later leaves leaf (next a b d l ls s r) t = next a b later l (ls ++ leaf ∷ []) s (all-added limit b middle later ls leaf r t)

module _ (c : Contents) (limit : Option ℕ) (old s : Search) (n : ℕ) (leaves : List Leaf) (i : ℕ) (leaf : Leaf) (h : AreTaken c limit old s leaves i) (of : AreLeavesOf c old n leaves) (l : i < length leaves) (is : leaf ≡ slice_index_or leaves i leaf) where
  pub taken-leaf : IsLeafAt c s n leaf
  taken-leaf = leaf-later c old s n leaf h.start (leaf-at c old n leaves i leaf of (stands-at leaves i leaf l is))

  pub taken-next : (new : Search) → IsSearch c new → Takes limit (kept_of c s) (leaf_clause c leaf) (kept_of c new) → HasSameSymbols c s new → Grows s new → AreTaken c limit old new leaves (i + 1)
  taken-next new v t g grows =
      let e : map (leaf_clause c) (take (i + 1) leaves) ≡ map (leaf_clause c) (take i leaves) ++ leaf_clause c leaf ∷ [] = ap (map (leaf_clause c)) (take-next leaves i leaf (stands-at leaves i leaf l is)) ∙ map-append (leaf_clause c) (take i leaves) (leaf ∷ []) in
      record {
        search = v;
        takes = subst (λ (ls : List ClauseTree). TakesAll limit (kept_of c old) ls (kept_of c new)) (sym e) (all-added limit (kept_of c old) (kept_of c s) (kept_of c new) (map (leaf_clause c) (take i leaves)) (leaf_clause c leaf) h.takes t);
        start = start-trans c old s new h.start g;
        grows = grows-trans h.grows grows;
      }
