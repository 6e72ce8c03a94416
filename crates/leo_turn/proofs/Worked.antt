-- Inferences that are worked, and conclusions that are taken in.
use Rattle.std.proofs.Common.{ℕ, zero, suc, ◌≡◌, ◌∙◌, ◌+◌, ◌-◌, ◌<◌, ◌≤◌, List, [], ◌∷◌, ◌++◌, length, map, take, slice_get, Option, Some, None, refl, sym, ap, subst, arith}
use Rattle.std.specs.Prelude.{slice_index_or}
use Rattle.std.proofs.lemmas.List.{map-append}
use Rattle.leo_terms.specs.Contents.{Contents, IsBank, Extends}
use Rattle.leo_terms.proofs.CallerLemmas.{extends-itself, extends-trans}
use Rattle.leo_clause.specs.declared.clause.Lit.{Lit}
use Rattle.leo_clause.specs.declared.record.StepRecord.{StepRecord}
use Rattle.leo_clause.specs.Choices.{AreChoicesOf, choice_at}
use Rattle.leo_clause.specs.Trees.{ClauseTree, clause_at, literal_at}
use Rattle.leo_clause.specs.Typed.{IsTypedIn}
use Rattle.leo_kernel.specs.Acceptance.{AreAcceptedAfter}
use Rattle.leo_kernel.specs.Steps.{Line, clause_in, clause_of, line_at}
use Rattle.leo_kernel.specs.Symbols.{abbreviation_at, abbreviation_of}
use Rattle.leo_kernel.proofs.Growing.{clause-kept}
use Rattle.leo_kernel.proofs.LinesGrowing.{lines-grow, lines-kept}
use Rattle.leo_clausify.specs.Origins.{AreLinesFrom}
use Rattle.leo_conclude.specs.declared.concluding.Conclusion.{Conclusion}
use Rattle.leo_conclude.specs.Conclusions.{AreConclusions}
use Rattle.leo_conclude.specs.Leaving.{AreConstraints, AreNumbersOf}
use Rattle.leo_conclude.specs.Results.{AreConclusionsOf, conclusion_clause}
use Rattle.leo_conclude.proofs.Concluded.{conclusion-grows}
use Rattle.leo_para.specs.declared.member.Due.{Due}
use Rattle.leo_turn.specs.declared.search.Search.{Search}
use Rattle.leo_turn.specs.Changing.{AreAllFrom, AreAppended, AreReady, lines_before, with_lines}
use Rattle.leo_turn.specs.Growth.{Grows, IsLonger}
use Rattle.leo_turn.specs.Intakes.{Intakes}
use Rattle.leo_turn.specs.Searches.{HasClause, IsSearch, choices_of, hypotheses_of, kept_of, lines_of}
use Rattle.leo_turn.specs.Turns.{AreChoicesBelow, Constrained, Setting, Stock, TakesEach, TakesIn, Works, WorksEach, next, none_left, setting_of, stock_of}
use Rattle.leo_turn.specs.Working.{AreConclusionsAt, AreDueAt, IsConclusionAt, IsDueAt, Makes, constrained_at, no_clause}
use Rattle.leo_turn.proofs.Growing.{grows-itself, grows-trans}
use Rattle.leo_turn.proofs.Lists.{get-map, get-within, length-map, longer-get, longer-map, stands-at, take-all, take-next}
use Rattle.leo_turn.proofs.Origins.{all-from, clause-from, lines-shorter}
use Rattle.leo_turn.proofs.SameOrigins.{clause-to, lines-of, tests}
use Rattle.leo_turn.proofs.Valid.{choices-longer, choices-same, clause-longer, clauses-longer, kept-same, lines-same, plain-longer, search-lines}

-- the lines of a search that went on, in a bank that grew
pub lines-later : {c d : Contents} → Extends c d → (old s : Search) → IsSearch c old → Grows old s → IsLonger (lines_of c old) (lines_of d s)
lines-later {c} {d} e old s h g = subst (λ (ls : List Line). IsLonger ls (lines_of d s)) (lines-same e old h) (longer-map (line_at d) g.lines)

pub plain-later : {lines later : List Line} → IsLonger lines later → (n : ℕ) (k : ClauseTree) → HasClause lines n k → abbreviation_of lines n ≡ None → abbreviation_of later n ≡ None
plain-later {lines} {later} l n k h p = (let same : slice_get later n ≡ slice_get lines n = longer-get l n h.line h.stands ∙ sym h.stands in ap abbreviation_at same ∙ p)

pub stock-same : {c d : Contents} → Extends c d → (s : Search) → IsSearch c s → stock_of d s ≡ stock_of c s
stock-same {c} {d} e s h = rw (choices-same e s h, kept-same e s h) refl

pub setting-same : {old s : Search} (symbols : ℕ) → Grows old s → setting_of symbols s ≡ setting_of symbols old
setting-same {old} {s} symbols g = rw (g.depth, g.weight) refl

-- records were appended
pub search-appended : (c : Contents) (s : Search) (records lines : List StepRecord) → IsSearch c s → AreAppended c records s.lines lines → IsLonger s.lines lines → AreAllFrom (hypotheses_of c s) (lines_of c s) (map (line_at c) records) → IsSearch c (with_lines s lines)
search-appended c s records lines h a longer from = search-lines c s lines h longer (a.steps h.steps) (a.accepted (hypotheses_of c s) h.accepted) (a.origin (hypotheses_of c s) h.origin from)

pub last-there : (c : Contents) (records old lines : List StepRecord) → AreAppended c records old lines → 0 < length records → length lines - 1 < length lines
last-there c records old lines a some =
    let e = a.ends no_clause some in
    let w : length lines - 1 < length (map (line_at c) lines) = get-within (map (line_at c) lines) (length lines - 1) e.line e.stands in
    subst (λ n. length lines - 1 < n) (length-map (line_at c) lines) w

-- a clause is taken in
choices-below : (c : Contents) (items : List (ℕ × ℕ)) → AreChoicesOf c items → AreChoicesBelow (length c.symbols) (map (choice_at c) items)
choices-below c [] h = tt
choices-below c (k ∷ items) h = ((h zero k refl).symbol_within, choices-below c items (λ n j e. h (suc n) j e))

pub known-choices : (c : Contents) (s : Search) → IsSearch c s → AreChoicesBelow (length c.symbols) (choices_of c s)
known-choices c s h = choices-below c s.abbr.items h.choices.of_bank

pub conclusion-taken : (c d : Contents) (s new : Search) (line : ℕ) (r : Conclusion) (lines : List StepRecord) → IsSearch c s → IsConclusionAt c s line r → AreAppended c r.records s.lines lines → Intakes (length c.symbols) (Some s.weight) (kept_of c s) (choices_of c s) (clause_of (map (line_at c) lines) (length lines - 1)) (kept_of d new) (choices_of d new) → Makes c d s new (λ setting. TakesIn setting (Some setting.weight) (conclusion_clause c r))
conclusion-taken c d s new line r lines h at a i symbols l =
    let e = a.ends at.start at.conclusion.some in
    let is : clause_of (map (line_at c) lines) (length lines - 1) ≡ conclusion_clause c r = ap clause_in e.stands ∙ e.clause_is ∙ at.conclusion.ends in
    record {
      known = length c.symbols;
      are_known = record { problem = l; choices_below = known-choices c s h };
      intakes = subst (λ (k : ClauseTree). Intakes (length c.symbols) (Some s.weight) (kept_of c s) (choices_of c s) k (kept_of d new) (choices_of d new)) is i;
    }

pub conclusion-ready : (c : Contents) (s : Search) (line : ℕ) (r : Conclusion) → IsConclusionAt c s line r → AreReady c s.lines (line ∷ []) r.records
conclusion-ready c s line r at = record {
  choices = [];
  clauses = at.start ∷ [];
  some = omega arith;
  first = record { symbols = []; parents = line ∷ []; numbers_are = refl; choice_lines = tt; clause_lines = (at.clause, tt); plain = (at.plain, tt) };
  steps = at.conclusion.steps;
  accepted = at.conclusion.accepted;
}

pub conclusion-from : (c : Contents) (s : Search) (line : ℕ) (r : Conclusion) → IsSearch c s → IsConclusionAt c s line r → AreAllFrom (hypotheses_of c s) (lines_of c s) (map (line_at c) r.records)
conclusion-from c s line r h at o g = lines-of o (map (line_at c) r.records) (at.conclusion.origin (tests o) g.truth (clause-to o at.start (clause-from o (lines_of c s) line at.start (all-from (lines_of c s) h.origin g) at.clause)))

conclusion-later : {c d : Contents} → Extends c d → (old s : Search) (line : ℕ) (r : Conclusion) → IsSearch c old → Grows old s → IsConclusionAt c old line r → IsConclusionAt d s line r
conclusion-later {c} {d} e old s line r h g at = record {
  start = at.start;
  clause = clause-longer (lines-later e old s h g) line at.start at.clause;
  plain = plain-later (lines-later e old s h g) line at.start at.clause at.plain;
  conclusion = conclusion-grows e at.start r at.conclusion;
}

-- the first i of the conclusions were taken in
pub record AreTakenTo (b c : Contents) (old s : Search) (rs : List Conclusion) (i : ℕ) : Type 0 where
  pub search : IsSearch c s
  pub extends : Extends b c
  pub grows : Grows old s
  pub takes : Makes b c old s (λ setting. TakesEach setting (Some setting.weight) (map (conclusion_clause b) (take i rs)))

pub taken_to-first : (c : Contents) (s : Search) (rs : List Conclusion) → IsBank c → IsSearch c s → AreTakenTo c c s s rs 0
taken_to-first c s rs b h = record { search = h; extends = extends-itself b; grows = grows-itself s; takes = λ symbols l. none_left (stock_of c s) }

pub each-added : (setting : Setting) (limit : Option ℕ) (ks : List ClauseTree) (old middle new : Stock) (k : ClauseTree) → TakesEach setting limit ks old middle → TakesIn setting limit k middle new → TakesEach setting limit (ks ++ k ∷ []) old new
each-added setting limit ks old middle new k (none_left s) t = next k [] s new new t (none_left new)
each-added setting limit ks old middle new k (next j js a b c u rest) t = next j (js ++ k ∷ []) a b new u (each-added setting limit js b c new k rest t)

module _ {b c : Contents} (old s : Search) (line : ℕ) (rs : List Conclusion) (i : ℕ) (r : Conclusion) (begin : IsSearch b old) (h : AreTakenTo b c old s rs i) (all : AreConclusionsAt b old line rs) (l : i < length rs) (is : r ≡ slice_index_or rs i r) where
  stands : slice_get rs i ≡ Some r
  stands = stands-at rs i r l is

  pub taken_to-at : IsConclusionAt c s line r
  taken_to-at = conclusion-later h.extends old s line r begin h.grows (all i r stands)

  pub taken_to-next : {d : Contents} → Extends c d → (t : Search) → IsSearch d t → Grows s t → Makes c d s t (λ setting. TakesIn setting (Some setting.weight) (conclusion_clause c r)) → AreTakenTo b d old t rs (i + 1)
  taken_to-next {d} e t valid g makes =
      let clause : conclusion_clause c r ≡ conclusion_clause b r = clause-kept h.extends r.clause (all i r stands).conclusion.typed.of_bank in
      let more : map (conclusion_clause b) (take (i + 1) rs) ≡ map (conclusion_clause b) (take i rs) ++ conclusion_clause b r ∷ [] = ap (map (conclusion_clause b)) (take-next rs i r stands) ∙ map-append (conclusion_clause b) (take i rs) (r ∷ []) in
      record {
        search = valid;
        extends = extends-trans h.extends e;
        grows = grows-trans h.grows g;
        takes = λ symbols low.
            let x = h.extends.symbols_more in
            let one : TakesIn (setting_of symbols s) (Some s.weight) (conclusion_clause c r) (stock_of c s) (stock_of d t) = makes symbols (omega arith) in
            let same : TakesIn (setting_of symbols old) (Some old.weight) (conclusion_clause b r) (stock_of c s) (stock_of d t) = subst (λ (k : ClauseTree). TakesIn (setting_of symbols old) (Some old.weight) k (stock_of c s) (stock_of d t)) clause (subst (λ (v : Setting). TakesIn v (Some v.weight) (conclusion_clause c r) (stock_of c s) (stock_of d t)) (setting-same symbols h.grows) one) in
            subst (λ (ks : List ClauseTree). TakesEach (setting_of symbols old) (Some old.weight) ks (stock_of b old) (stock_of d t)) (sym more) (each-added (setting_of symbols old) (Some old.weight) (map (conclusion_clause b) (take i rs)) (stock_of b old) (stock_of c s) (stock_of d t) (conclusion_clause b r) (h.takes symbols low) same);
      }

pub taken_to-last : {b c : Contents} (old s : Search) (rs : List Conclusion) (i : ℕ) → AreTakenTo b c old s rs i → length rs ≤ i → Makes b c old s (λ setting. TakesEach setting (Some setting.weight) (map (conclusion_clause b) rs))
taken_to-last {b} {c} old s rs i h e symbols low = subst (λ (us : List Conclusion). TakesEach (setting_of symbols old) (Some old.weight) (map (conclusion_clause b) us) (stock_of b old) (stock_of c s)) (take-all i rs e) (h.takes symbols low)

-- an inference is worked
numbers-read : (c : Contents) (lits : List Lit) (ns : List ℕ) → AreNumbersOf (map (literal_at c) lits) ns → AreNumbersOf lits ns
numbers-read c lits [] h = tt
numbers-read c lits (n ∷ ns) h = (subst (λ m. n < m) (length-map (literal_at c) lits) h.0, numbers-read c lits ns h.1)

pub due-from : (c : Contents) (s : Search) (first : List ℕ) (due : Due) → IsSearch c s → IsDueAt c s.lines first due → AreAllFrom (hypotheses_of c s) (lines_of c s) (map (line_at c) due.records)
due-from c s first due h at o g = at.origin o g.truth (all-from (lines_of c s) h.origin g)

module _ (c : Contents) (s : Search) (first : List ℕ) (due : Due) (lines : List StepRecord) (r : StepRecord) (h : IsSearch c s) (at : IsDueAt c s.lines first due) (a : AreAppended c due.records s.lines lines) (longer : IsLonger s.lines lines) (get : slice_get lines (length lines - 1) ≡ Some r) where
  valid : IsSearch c (with_lines s lines)
  valid = search-appended c s due.records lines h a longer (due-from c s first due h at)

  read : slice_get (map (line_at c) lines) (length lines - 1) ≡ Some (line_at c r)
  read = get-map (line_at c) lines (length lines - 1) r get

  pub due-clause : clause_at c r.clause ≡ (constrained_at c due).clause
  due-clause = (let e = a.ends no_clause at.some in sym (ap clause_in read) ∙ ap clause_in e.stands ∙ e.clause_is)

  pub due-typed : IsTypedIn c r.clause
  due-typed = record { of_bank = (valid.steps (length lines - 1) r get).clause_of; typed = (valid.accepted (length lines - 1) (line_at c r) read).types.clause_typed }

  pub due-numbers : AreNumbersOf r.clause.lits due.pairs
  due-numbers = numbers-read c r.clause.lits due.pairs (subst (λ (k : ClauseTree). AreNumbersOf k.literals due.pairs) (sym due-clause) at.numbers)

  pub due-constraints : AreConstraints (clause_at c r.clause).literals due.pairs
  due-constraints = subst (λ (k : ClauseTree). AreConstraints k.literals due.pairs) (sym due-clause) at.constraints

  module _ {d : Contents} (e : Extends c d) (rs : List Conclusion) where
    pub due-conclusions : AreConclusionsOf d (clause_at c r.clause) rs → AreConclusionsAt d (with_lines s lines) (length lines - 1) rs
    due-conclusions all n q g =
        let same : map (line_at d) lines ≡ map (line_at c) lines = lines-same e (with_lines s lines) valid in
        record {
          start = clause_at c r.clause;
          clause = record { line = line_at c r; stands = rw same read; clause_is = refl };
          plain = rw same (a.plain at.some);
          conclusion = all n q g;
        }

    pub due-worked : (f : Contents) (t : Search) → AreConclusions (clause_at c r.clause) s.depth due.pairs (map (conclusion_clause d) rs) → Makes d f (with_lines s lines) t (λ setting. TakesEach setting (Some setting.weight) (map (conclusion_clause d) rs)) → Makes c f s t (λ setting. Works setting (constrained_at c due))
    due-worked f t are makes symbols low =
        let x = e.symbols_more in
        let taken : TakesEach (setting_of symbols s) (Some s.weight) (map (conclusion_clause d) rs) (stock_of d s) (stock_of f t) = makes symbols (omega arith) in
        record {
          conclusions = map (conclusion_clause d) rs;
          are = subst (λ (k : ClauseTree). AreConclusions k s.depth due.pairs (map (conclusion_clause d) rs)) due-clause are;
          taken = subst (λ (u : Stock). TakesEach (setting_of symbols s) (Some s.weight) (map (conclusion_clause d) rs) u (stock_of f t)) (stock-same e s h) taken;
        }

-- an inference in a search that went on
pub constrained-kept : {c d : Contents} → Extends c d → (lines : List StepRecord) (first : List ℕ) (due : Due) → IsDueAt c lines first due → constrained_at d due ≡ constrained_at c due
constrained-kept {c} {d} e lines first due at = rw (lines-kept e due.records at.ready.steps) refl

due-later : {c d : Contents} → Extends c d → (old s : Search) (first : List ℕ) (due : Due) → IsSearch c old → Grows old s → IsDueAt c old.lines first due → IsDueAt d s.lines first due
due-later {c} {d} e old s first due h g at =
    let longer : IsLonger (lines_of c old) (lines_of d s) = lines-later e old s h g in
    let f = at.ready.first in
    let same = constrained-kept e old.lines first due at in
    record {
      ready = record {
        choices = at.ready.choices;
        clauses = at.ready.clauses;
        some = at.ready.some;
        first = record {
          symbols = f.symbols;
          parents = f.parents;
          numbers_are = f.numbers_are;
          choice_lines = choices-longer longer f.symbols at.ready.choices f.choice_lines;
          clause_lines = clauses-longer longer f.parents at.ready.clauses f.clause_lines;
          plain = plain-longer longer f.parents at.ready.clauses f.clause_lines f.plain;
        };
        steps = lines-grow e due.records at.ready.steps;
        accepted = λ rule. subst (AreAcceptedAfter (lines_before at.ready.choices at.ready.clauses rule)) (sym (lines-kept e due.records at.ready.steps)) (at.ready.accepted rule);
      };
      origin = λ o z from. subst (AreLinesFrom o) (sym (lines-kept e due.records at.ready.steps)) (at.origin o z (lines-shorter o longer from));
      some = at.some;
      numbers = subst (λ (i : Constrained). AreNumbersOf i.clause.literals due.pairs) (sym same) at.numbers;
      constraints = subst (λ (i : Constrained). AreConstraints i.clause.literals due.pairs) (sym same) at.constraints;
    }

-- the first i of the inferences were worked
pub record AreWorkedTo (b c : Contents) (old s : Search) (dues : List Due) (i : ℕ) : Type 0 where
  pub search : IsSearch c s
  pub extends : Extends b c
  pub grows : Grows old s
  pub worked : Makes b c old s (λ setting. WorksEach setting (map (constrained_at b) (take i dues)))

pub worked_to-first : (c : Contents) (s : Search) (dues : List Due) → IsBank c → IsSearch c s → AreWorkedTo c c s s dues 0
worked_to-first c s dues b h = record { search = h; extends = extends-itself b; grows = grows-itself s; worked = λ symbols l. none_left (stock_of c s) }

works-added : (setting : Setting) (is : List Constrained) (old middle new : Stock) (i : Constrained) → WorksEach setting is old middle → Works setting i middle new → WorksEach setting (is ++ i ∷ []) old new
works-added setting is old middle new i (none_left s) t = next i [] s new new t (none_left new)
works-added setting is old middle new i (next j js a b d u us) t = next j (js ++ i ∷ []) a b new u (works-added setting js b middle new i us t)

module _ {b c : Contents} (old s : Search) (first : List ℕ) (dues : List Due) (i : ℕ) (due : Due) (begin : IsSearch b old) (h : AreWorkedTo b c old s dues i) (all : AreDueAt b old.lines first dues) (l : i < length dues) (is : due ≡ slice_index_or dues i due) where
  here : slice_get dues i ≡ Some due
  here = stands-at dues i due l is

  pub worked_to-at : IsDueAt c s.lines first due
  worked_to-at = due-later h.extends old s first due begin h.grows (all i due here)

  pub worked_to-next : {d : Contents} → Extends c d → (t : Search) → IsSearch d t → Grows s t → Makes c d s t (λ setting. Works setting (constrained_at c due)) → AreWorkedTo b d old t dues (i + 1)
  worked_to-next {d} e t valid g makes =
      let more : map (constrained_at b) (take (i + 1) dues) ≡ map (constrained_at b) (take i dues) ++ constrained_at b due ∷ [] = ap (map (constrained_at b)) (take-next dues i due here) ∙ map-append (constrained_at b) (take i dues) (due ∷ []) in
      record {
        search = valid;
        extends = extends-trans h.extends e;
        grows = grows-trans h.grows g;
        worked = λ symbols low.
            let x = h.extends.symbols_more in
            let one : Works (setting_of symbols s) (constrained_at c due) (stock_of c s) (stock_of d t) = makes symbols (omega arith) in
            let same : Works (setting_of symbols old) (constrained_at b due) (stock_of c s) (stock_of d t) = subst (λ (k : Constrained). Works (setting_of symbols old) k (stock_of c s) (stock_of d t)) (constrained-kept h.extends old.lines first due (all i due here)) (subst (λ (v : Setting). Works v (constrained_at c due) (stock_of c s) (stock_of d t)) (setting-same symbols h.grows) one) in
            subst (λ (ks : List Constrained). WorksEach (setting_of symbols old) ks (stock_of b old) (stock_of d t)) (sym more) (works-added (setting_of symbols old) (map (constrained_at b) (take i dues)) (stock_of b old) (stock_of c s) (stock_of d t) (constrained_at b due) (h.worked symbols low) same);
      }

pub worked_to-last : {b c : Contents} (old s : Search) (dues : List Due) (i : ℕ) → AreWorkedTo b c old s dues i → length dues ≤ i → Makes b c old s (λ setting. WorksEach setting (map (constrained_at b) dues))
worked_to-last {b} {c} old s dues i h e symbols low = subst (λ (us : List Due). WorksEach (setting_of symbols old) (map (constrained_at b) us) (stock_of b old) (stock_of c s)) (take-all i dues e) (h.worked symbols low)
