-- The records of a leaf among the lines of a journal.
use Rattle.std.proofs.Common.{ℕ, zero, suc, ◌≡◌, ◌∙◌, ◌+◌, ◌-◌, ◌<◌, ◌⊎◌, inl, inr, List, [], ◌∷◌, ◌++◌, length, map, take, get_or, slice_get, Option, Some, None, refl, sym, ap, subst, append-nil, arith}
use Rattle.std.specs.Prelude.{slice_index_or}
use Rattle.std.specs.List.{Contains}
use Rattle.std.proofs.lemmas.List.{append_assoc, get_or_append_left, length-append, map-append}
use Rattle.std.proofs.Math.Seq.{get_or-append_seam}
use Rattle.leo_terms.specs.Tree.{Tree, symbol, truth_type}
use Rattle.leo_terms.specs.Contents.{Contents}
use Rattle.leo_clause.specs.declared.record.StepRecord.{StepRecord}
use Rattle.leo_clause.specs.Choices.{Choice}
use Rattle.leo_clause.specs.Trees.{Literal, ClauseTree}
use Rattle.leo_kernel.specs.Acceptance.{Accepts, AreAccepted, AreAcceptedAfter}
use Rattle.leo_kernel.specs.Conclusions.{HasShape}
use Rattle.leo_kernel.specs.Conditions.{HasParents, IsLineIfNamed}
use Rattle.leo_kernel.specs.Records.{IsStepOf, AreStepsOf}
use Rattle.leo_kernel.specs.Steps.{StepRule, assume, convert, inst, para, arrange, drop_literal, take_apart, bool_ext, func_ext, decompose, reflexivity, choose, factor, abbreviate, Line, line_at, rule_at, clause_in}
use Rattle.leo_kernel.specs.Symbols.{HasSymbol, LackSymbol, LinesLackSymbol, LiteralsLackSymbol, RuleLacksSymbol, abbreviation_at, abbreviation_in, abbreviation_of}
use Rattle.leo_clausify.specs.Leaves.{choice_line, last_clause}
use Rattle.leo_clausify.specs.Origins.{Origin, IsLineFrom}
use Rattle.leo_derive.specs.Marking.{AreNumbersBelow}
use Rattle.leo_derive.specs.Pruning.{numbered_line}
use Rattle.leo_derive.specs.Resting.{if_named, named}
use Rattle.leo_derive.proofs.Renumbered.{IsSameLine, same_line, numbered_accepted}
use Rattle.leo_turn.specs.Changing.{AreAllFrom, AreReady, AreSame, IsAppended, IsSame, lines_before}
use Rattle.leo_turn.specs.Growth.{IsLonger}
use Rattle.leo_turn.specs.Origins.{AreFrom, IsOriginOf}
use Rattle.leo_turn.specs.Searches.{ArePlain, HasClause, HaveChoices, HaveClauses}
use Rattle.leo_turn.proofs.Lists.{below-last, get-map, get-within, stands-at, take-next, get-front_same, get-last, length-map, longer-itself, longer-map, longer-trans}
use Rattle.leo_turn.proofs.Origins.{from-next, line-numbered, origin-shorter}
use Rattle.leo_turn.proofs.Origins as origins
use Rattle.leo_turn.proofs.Valid.{accepted-added, steps-added}

-- the lines that a rule names are there
if_named-below : (lines : List Line) (a : Option ℕ) → IsLineIfNamed lines a → AreNumbersBelow (length lines) (if_named a)
if_named-below lines None h = tt
if_named-below lines (Some a) h = (h, tt)

pub named-below : (hypotheses : List Tree) (lines : List Line) (r : StepRule) → HasParents hypotheses lines r → AreNumbersBelow (length lines) (named r)
named-below hypotheses lines (assume h) p = tt
named-below hypotheses lines (convert n) p = (p, tt)
named-below hypotheses lines (inst n sigma) p = (p, tt)
named-below hypotheses lines (para n i s q j r path) p = (p.0, (p.1, tt))
named-below hypotheses lines (arrange n) p = (p, tt)
named-below hypotheses lines (drop_literal n i) p = (p, tt)
named-below hypotheses lines (take_apart n i kind a) p = (p.0, if_named-below lines a p.1)
named-below hypotheses lines (bool_ext n i half) p = (p, tt)
named-below hypotheses lines (func_ext n i a) p = (p.0, if_named-below lines a p.1)
named-below hypotheses lines (decompose n i) p = (p, tt)
named-below hypotheses lines reflexivity p = tt
named-below hypotheses lines choose p = tt
named-below hypotheses lines (factor n i j) p = (p, tt)
named-below hypotheses lines (abbreviate s) p = tt

below-one : (n : ℕ) (ms : List ℕ) (k m : ℕ) → AreNumbersBelow n ms → k < length ms → slice_index_or ms k m ≡ m → m < n
below-one n [] k m h l e = absurd (let f : ⊥ = omega arith in f)
below-one n (i ∷ ms) zero m h l e = subst (λ j. j < n) e h.0
below-one n (i ∷ ms) (suc k) m h l e = below-one n ms k m h.1 (omega arith) e

-- all terms of lines
literal_terms : List Literal → List Tree
literal_terms [] = []
literal_terms (l ∷ ls) = l.left ∷ l.right ∷ literal_terms ls

rule_terms : StepRule → List Tree
rule_terms (inst p sigma) = sigma
rule_terms _ = []

line_terms : List Line → List Tree
line_terms [] = []
line_terms (l ∷ ls) = literal_terms l.clause.literals ++ (rule_terms l.rule ++ line_terms ls)

lack-parts : (s : ℕ) (xs ys : List Tree) → LackSymbol s (xs ++ ys) → LackSymbol s xs × LackSymbol s ys
lack-parts s [] ys h = (tt, h)
lack-parts s (x ∷ xs) ys h = let p = lack-parts s xs ys h.1 in ((h.0, p.0), p.1)

literals-lack : (s : ℕ) (ls : List Literal) → LackSymbol s (literal_terms ls) → LiteralsLackSymbol s ls
unfolding literal_terms
literals-lack s [] h = tt
literals-lack s (l ∷ ls) h = (h.0, h.1.0, literals-lack s ls h.1.1)

rule-lacks : (s : ℕ) (r : StepRule) → LackSymbol s (rule_terms r) → RuleLacksSymbol s r
unfolding rule_terms
rule-lacks s (assume h) p = tt
rule-lacks s (convert n) p = tt
rule-lacks s (inst n sigma) p = p
rule-lacks s (para n i a q j r path) p = tt
rule-lacks s (arrange n) p = tt
rule-lacks s (drop_literal n i) p = tt
rule-lacks s (take_apart n i kind a) p = tt
rule-lacks s (bool_ext n i half) p = tt
rule-lacks s (func_ext n i a) p = tt
rule-lacks s (decompose n i) p = tt
rule-lacks s reflexivity p = tt
rule-lacks s choose p = tt
rule-lacks s (factor n i j) p = tt
rule-lacks s (abbreviate n) p = tt

lines-lack : (s : ℕ) (ls : List Line) → LackSymbol s (line_terms ls) → LinesLackSymbol s ls
unfolding line_terms
lines-lack s [] h = tt
lines-lack s (l ∷ ls) h =
    let p = lack-parts s (literal_terms l.clause.literals) (rule_terms l.rule ++ line_terms ls) h in
    let q = lack-parts s (rule_terms l.rule) (line_terms ls) p.1 in
    (literals-lack s l.clause.literals p.0, rule-lacks s l.rule q.0, lines-lack s ls q.1)

lack-first : (s : ℕ) (choices : List Choice) (clauses : List ClauseTree) (sigma : List Tree) (rest : List Line) → 0 < length clauses → LinesLackSymbol s (lines_before choices clauses (inst 0 sigma) ++ rest) → LackSymbol s sigma
lack-first s [] [] sigma rest l h = absurd (let f : ⊥ = omega arith in f)
lack-first s [] (k ∷ clauses) sigma rest l h = h.1
lack-first s (k ∷ choices) clauses sigma rest l h = lack-first s choices clauses sigma rest l h.2

-- a rule that is accepted whatever terms are there introduces no symbol
never-new : (lines : List Tree → List Line) (clause : ClauseTree) (r : StepRule) → ((s : ℕ) (sigma : List Tree) → LinesLackSymbol s (lines sigma) → LackSymbol s sigma) → ((sigma : List Tree) → HasSymbol [] (lines sigma) clause r) → abbreviation_in r clause.literals ≡ None
never-new lines clause (abbreviate s) f h = absurd ((f s (symbol s truth_type ∷ []) (h (symbol s truth_type ∷ [])).lines_lack).0 refl)
never-new lines clause (assume n) f h = refl
never-new lines clause (convert n) f h = refl
never-new lines clause (inst n sigma) f h = refl
never-new lines clause (para n i a q j r path) f h = refl
never-new lines clause (arrange n) f h = refl
never-new lines clause (drop_literal n i) f h = refl
never-new lines clause (take_apart n i kind a) f h = refl
never-new lines clause (bool_ext n i half) f h = refl
never-new lines clause (func_ext n i a) f h = refl
never-new lines clause (decompose n i) f h = refl
never-new lines clause reflexivity f h = refl
never-new lines clause choose f h = refl
never-new lines clause (factor n i j) f h = refl

-- what is accepted from no hypotheses is accepted from any, if a new symbol is new to these
module _ (hypotheses : List Tree) (lines : List Line) where
  more-parents : (r : StepRule) → HasParents [] lines r → HasParents hypotheses lines r
  more-parents (assume h) p = absurd (let f : ⊥ = omega arith in f)
  more-parents (convert n) p = p
  more-parents (inst n sigma) p = p
  more-parents (para n i s q j r path) p = p
  more-parents (arrange n) p = p
  more-parents (drop_literal n i) p = p
  more-parents (take_apart n i kind a) p = p
  more-parents (bool_ext n i half) p = p
  more-parents (func_ext n i a) p = p
  more-parents (decompose n i) p = p
  more-parents reflexivity p = p
  more-parents choose p = p
  more-parents (factor n i j) p = p
  more-parents (abbreviate s) p = p

  more-symbols : (clause : ClauseTree) (r : StepRule) → ((s : ℕ) → LinesLackSymbol s lines → LackSymbol s hypotheses) → HasSymbol [] lines clause r → HasSymbol hypotheses lines clause r
  more-symbols clause (abbreviate s) f p = record { hypotheses_lack = f s p.lines_lack; lines_lack = p.lines_lack; no_variable = p.no_variable; term_lacks = p.term_lacks }
  more-symbols clause (assume h) f p = p
  more-symbols clause (convert n) f p = p
  more-symbols clause (inst n sigma) f p = p
  more-symbols clause (para n i s q j r path) f p = p
  more-symbols clause (arrange n) f p = p
  more-symbols clause (drop_literal n i) f p = p
  more-symbols clause (take_apart n i kind a) f p = p
  more-symbols clause (bool_ext n i half) f p = p
  more-symbols clause (func_ext n i a) f p = p
  more-symbols clause (decompose n i) f p = p
  more-symbols clause reflexivity f p = p
  more-symbols clause choose f p = p
  more-symbols clause (factor n i j) f p = p

  more-shape : (clause : ClauseTree) (r : StepRule) → HasShape [] lines clause r → HasShape hypotheses lines clause r
  more-shape clause (assume h) p = absurd p
  more-shape clause (convert n) p = p
  more-shape clause (inst n sigma) p = p
  more-shape clause (para n i s q j r path) p = p
  more-shape clause (arrange n) p = p
  more-shape clause (drop_literal n i) p = p
  more-shape clause (take_apart n i kind a) p = p
  more-shape clause (bool_ext n i half) p = p
  more-shape clause (func_ext n i a) p = p
  more-shape clause (decompose n i) p = p
  more-shape clause reflexivity p = p
  more-shape clause choose p = p
  more-shape clause (factor n i j) p = p
  more-shape clause (abbreviate s) p = p

  more-hypotheses : (step : Line) → ((s : ℕ) → LinesLackSymbol s lines → LackSymbol s hypotheses) → Accepts [] lines step → Accepts hypotheses lines step
  more-hypotheses step f a = record {
    parents = more-parents step.rule a.parents;
    literals = a.literals;
    place = a.place;
    types = a.types;
    symbols = more-symbols step.clause step.rule f a.symbols;
    shape = more-shape step.clause step.rule a.shape;
  }

-- a line more on both sides
same-longer : (earlier later : List Line) (x y : Line) (p q : ℕ) → p < length earlier → IsSame earlier later p q → IsSame (earlier ++ x ∷ []) (later ++ y ∷ []) p q
same-longer earlier later x y p q l s =
    let w = s.within in
    let e : slice_get (later ++ y ∷ []) q ≡ slice_get later q = get-front_same later (y ∷ []) q w in
    let f : slice_get (earlier ++ x ∷ []) p ≡ slice_get earlier p = get-front_same earlier (x ∷ []) p l in
    let n = length-append later (y ∷ []) in
    record {
      within = omega arith;
      clause_same = ap clause_in e ∙ s.clause_same ∙ sym (ap clause_in f);
      abbreviation_same = ap abbreviation_at e ∙ s.abbreviation_same ∙ sym (ap abbreviation_at f);
    }

same-next : (earlier later : List Line) (numbers : List ℕ) (number : ℕ → ℕ) (x : Line) → AreSame earlier later numbers → AreSame (earlier ++ x ∷ []) (later ++ numbered_line number x ∷ []) (numbers ++ length later ∷ [])
same-next earlier later numbers number x s = record {
  as_many = length-append numbers (length later ∷ []) ∙ ap (λ n. n + 1) s.as_many ∙ sym (length-append earlier (x ∷ []));
  same = λ p l. by p (below-last p (length earlier) (let n = length-append earlier (x ∷ []) in omega arith));
}
  where
    y : Line
    y = numbered_line number x

    last : IsSame (earlier ++ x ∷ []) (later ++ numbered_line number x ∷ []) (length earlier) (length later)
    last = let i = same_line number (earlier ++ x ∷ []) (later ++ numbered_line number x ∷ []) (length earlier) (length later) x (get-last earlier x) (get-last later (numbered_line number x)) in record { within = i.within; clause_same = i.clause_same; abbreviation_same = i.abbreviation_same }

    by : (p : ℕ) → (p < length earlier) ⊎ (p ≡ length earlier) → IsSame (earlier ++ x ∷ []) (later ++ numbered_line number x ∷ []) p (get_or (numbers ++ length later ∷ []) p 0)
    by p (inl l) = (let n = s.as_many in rw (get_or_append_left numbers (length later ∷ []) 0 p (omega arith)) (same-longer earlier later x (numbered_line number x) p (get_or numbers p 0) l (s.same p l)))
    by p (inr e) =
        let f : get_or (numbers ++ length later ∷ []) (length earlier) 0 ≡ length later = subst (λ n. get_or (numbers ++ length later ∷ []) n 0 ≡ length later) s.as_many (get_or-append_seam numbers (length later) [] 0) in
        subst (λ n. IsSame (earlier ++ x ∷ []) (later ++ numbered_line number x ∷ []) n (get_or (numbers ++ length later ∷ []) n 0)) (sym e) (rw f last)

-- the lines of the choice symbols and of the clauses
module _ (later : List Line) (sigma : List Tree) where
  clauses-many : (parents : List ℕ) (clauses : List ClauseTree) → HaveClauses later parents clauses → length parents ≡ length (lines_before [] clauses (inst 0 sigma))
  clauses-many [] [] g = refl
  clauses-many [] (k ∷ clauses) g = absurd g
  clauses-many (n ∷ parents) [] g = absurd g
  clauses-many (n ∷ parents) (k ∷ clauses) g = ap suc (clauses-many parents clauses g.1)

  clauses-same : (parents : List ℕ) (clauses : List ClauseTree) → HaveClauses later parents clauses → ArePlain later parents → (p : ℕ) → p < length (lines_before [] clauses (inst 0 sigma)) → IsSame (lines_before [] clauses (inst 0 sigma)) later p (get_or parents p 0)
  clauses-same [] [] g h p l = absurd (let f : ⊥ = omega arith in f)
  clauses-same [] (k ∷ clauses) g h p l = absurd g
  clauses-same (n ∷ parents) [] g h p l = absurd g
  clauses-same (n ∷ parents) (k ∷ clauses) g h zero l = record { within = get-within later n g.0.line g.0.stands; clause_same = ap clause_in g.0.stands ∙ g.0.clause_is; abbreviation_same = h.0 }
  clauses-same (n ∷ parents) (k ∷ clauses) g h (suc p) l = let s = clauses-same parents clauses g.1 h.1 p (omega arith) in record { within = s.within; clause_same = s.clause_same; abbreviation_same = s.abbreviation_same }

  module _ (parents : List ℕ) (clauses : List ClauseTree) (h : HaveClauses later parents clauses) (plain : ArePlain later parents) where
    first-many : (symbols : List ℕ) (choices : List Choice) → HaveChoices later symbols choices → length (symbols ++ parents) ≡ length (lines_before choices clauses (inst 0 sigma))
    first-many [] [] g = clauses-many parents clauses h
    first-many [] (k ∷ choices) g = absurd g
    first-many (m ∷ symbols) [] g = absurd g
    first-many (m ∷ symbols) (k ∷ choices) g = ap suc (first-many symbols choices g.1)

    first-same : (symbols : List ℕ) (choices : List Choice) → HaveChoices later symbols choices → (p : ℕ) → p < length (lines_before choices clauses (inst 0 sigma)) → IsSame (lines_before choices clauses (inst 0 sigma)) later p (get_or (symbols ++ parents) p 0)
    first-same [] [] g p l = clauses-same parents clauses h plain p l
    first-same [] (k ∷ choices) g p l = absurd g
    first-same (m ∷ symbols) [] g p l = absurd g
    first-same (m ∷ symbols) (k ∷ choices) g zero l = record { within = get-within later m (choice_line k) g.0; clause_same = ap clause_in g.0; abbreviation_same = ap abbreviation_at g.0 }
    first-same (m ∷ symbols) (k ∷ choices) g (suc p) l = let s = first-same symbols choices g.1 p (omega arith) in record { within = s.within; clause_same = s.clause_same; abbreviation_same = s.abbreviation_same }

-- some of the records were appended
pub record IsOnWay (c : Contents) (old lines : List StepRecord) (numbers : List ℕ) (records : List StepRecord) (i : ℕ) : Type 0 where
  pub choices : List Choice
  pub clauses : List ClauseTree
  pub some : 0 < length clauses
  pub of_bank : AreStepsOf c records
  pub follow : (rule : StepRule) → AreAcceptedAfter (lines_before choices clauses rule) (map (line_at c) records)
  pub longer : IsLonger old lines
  pub steps : AreStepsOf c old → AreStepsOf c lines
  pub accepted : (hypotheses : List Tree) → AreAccepted hypotheses (map (line_at c) old) → AreAccepted hypotheses (map (line_at c) lines)
  pub origin : (hypotheses : List Tree) → AreFrom hypotheses (map (line_at c) old) → AreAllFrom hypotheses (map (line_at c) old) (map (line_at c) records) → AreFrom hypotheses (map (line_at c) lines)
  pub same : (sigma : List Tree) → AreSame (lines_before choices clauses (inst 0 sigma) ++ take i (map (line_at c) records)) (map (line_at c) lines) numbers
  pub ends : (k : ClauseTree) → 0 < i → HasClause (map (line_at c) lines) (length lines - 1) (last_clause k (take i (map (line_at c) records)))
  pub plain : 0 < i → abbreviation_of (map (line_at c) lines) (length lines - 1) ≡ None

pub way-first : (c : Contents) (old : List StepRecord) (numbers : List ℕ) (records : List StepRecord) → AreReady c old numbers records → IsOnWay c old old numbers records 0
way-first c old numbers records r = record {
  choices = r.choices;
  clauses = r.clauses;
  some = r.some;
  of_bank = r.steps;
  follow = r.accepted;
  longer = longer-itself old;
  steps = λ h. h;
  accepted = λ hs h. h;
  origin = λ hs h from. h;
  same = λ sigma. subst (λ ls. AreSame ls (map (line_at c) old) numbers) (sym (append-nil (lines_before r.choices r.clauses (inst 0 sigma)))) (subst (AreSame (lines_before r.choices r.clauses (inst 0 sigma)) (map (line_at c) old)) (sym r.first.numbers_are) (record {
    as_many = first-many (map (line_at c) old) sigma r.first.parents r.clauses r.first.clause_lines r.first.plain r.first.symbols r.choices r.first.choice_lines;
    same = first-same (map (line_at c) old) sigma r.first.parents r.clauses r.first.clause_lines r.first.plain r.first.symbols r.choices r.first.choice_lines;
  }));
  ends = λ k l. absurd (let f : ⊥ = omega arith in f);
  plain = λ l. absurd (let f : ⊥ = omega arith in f);
}

last-added : (k : ClauseTree) (ls : List Line) (l : Line) → last_clause k (ls ++ l ∷ []) ≡ l.clause
last-added k [] l = refl
last-added k (j ∷ ls) l = last-added j.clause ls l

module _ (c : Contents) (old lines : List StepRecord) (numbers : List ℕ) (records : List StepRecord) (i : ℕ) (r : StepRecord) (w : IsOnWay c old lines numbers records i) (l : i < length records) (is : r ≡ slice_index_or records i r) where
  abbrev before : List Tree → List Line
  before sigma = lines_before w.choices w.clauses (inst 0 sigma) ++ take i (map (line_at c) records)

  pub way-step : IsStepOf c r
  way-step = w.of_bank i r (stands-at records i r l is)

  follows : (sigma : List Tree) → Accepts [] (before sigma) (line_at c r)
  follows sigma = w.follow (inst 0 sigma) i (line_at c r) (get-map (line_at c) records i r (stands-at records i r l is))

  plain-step : abbreviation_in (rule_at c r.rule) (line_at c r).clause.literals ≡ None
  plain-step = never-new before (line_at c r).clause (rule_at c r.rule) (λ s sigma h. lack-first s w.choices w.clauses sigma (take i (map (line_at c) records)) w.some h) (λ sigma. (follows sigma).symbols)

  pub way-named : AreNumbersBelow (length numbers) (named (rule_at c r.rule))
  way-named = rw ((w.same []).as_many) (named-below [] (before []) (rule_at c r.rule) (follows []).parents)

  known : (sigma : List Tree) (p : ℕ) → Contains (named (rule_at c r.rule)) p → IsSameLine (before sigma) (map (line_at c) lines) p (get_or numbers p 0)
  known sigma p g =
      let b = below-one (length (before sigma)) (named (rule_at c r.rule)) g.0 p (named-below [] (before sigma) (rule_at c r.rule) (follows sigma).parents) g.1 g.2 in
      let s = (w.same sigma).same p b in
      record { within = s.within; clause_same = s.clause_same; abbreviation_same = s.abbreviation_same }

  numbered : (hypotheses : List Tree) → Accepts hypotheses (map (line_at c) lines) (numbered_line (λ n. get_or numbers n 0) (line_at c r))
  numbered hypotheses =
      let sigma : List Tree = hypotheses ++ line_terms (map (line_at c) lines) in
      let lack : (s : ℕ) → LinesLackSymbol s (before sigma) → LackSymbol s hypotheses × LackSymbol s (line_terms (map (line_at c) lines)) = λ s h. lack-parts s hypotheses (line_terms (map (line_at c) lines)) (lack-first s w.choices w.clauses sigma (take i (map (line_at c) records)) w.some h) in
      numbered_accepted hypotheses (before sigma) (map (line_at c) lines) (λ n. get_or numbers n 0) (line_at c r) (known sigma)
      (λ s h. lines-lack s (map (line_at c) lines) (lack s h).1)
      (more-hypotheses hypotheses (before sigma) (line_at c r) (λ s h. (lack s h).0) (follows sigma))

  pub way-next : (later : List StepRecord) (more : List ℕ) → IsAppended c r lines later numbers more → IsOnWay c old later more records (i + 1)
  way-next later more a =
      let count : length (map (line_at c) lines) ≡ length lines = length-map (line_at c) lines in
      let read : map (line_at c) later ≡ map (line_at c) lines ++ numbered_line (λ n. get_or numbers n 0) (line_at c r) ∷ [] = ap (map (line_at c)) a.appended ∙ map-append (line_at c) lines (a.record_of ∷ []) ∙ ap (λ (k : Line). map (line_at c) lines ++ k ∷ []) a.line in
      let get : slice_get (map (line_at c) records) i ≡ Some (line_at c r) = get-map (line_at c) records i r (stands-at records i r l is) in
      let done : take (i + 1) (map (line_at c) records) ≡ take i (map (line_at c) records) ++ line_at c r ∷ [] = take-next (map (line_at c) records) i (line_at c r) get in
      record {
        choices = w.choices;
        clauses = w.clauses;
        some = w.some;
        of_bank = w.of_bank;
        follow = w.follow;
        longer = longer-trans w.longer (record { more = a.record_of ∷ []; is = a.appended });
        steps = λ h. subst (AreStepsOf c) (sym a.appended) (steps-added c lines a.record_of (w.steps h) a.step);
        accepted = λ hs h. subst (AreAccepted hs) (sym read) (accepted-added hs (map (line_at c) lines) (numbered_line (λ n. get_or numbers n 0) (line_at c r)) (w.accepted hs h) (numbered hs));
        origin = λ hs h from.
            let new : Line = numbered_line (λ n. get_or numbers n 0) (line_at c r) in
            let its : (o : Origin) → IsOriginOf hs (map (line_at c) lines) o → IsLineFrom o new = λ o g. line-numbered o (λ n. get_or numbers n 0) (line_at c r) (origins.line-at o (map (line_at c) records) i (line_at c r) (from o (origin-shorter (longer-map (line_at c) w.longer) g)) get) in
            subst (AreFrom hs) (sym read) (from-next hs (map (line_at c) lines) new (w.origin hs h from) its);
        same = λ sigma.
            let n = same-next (before sigma) (map (line_at c) lines) numbers (λ n. get_or numbers n 0) (line_at c r) (w.same sigma) in
            let e : before sigma ++ line_at c r ∷ [] ≡ lines_before w.choices w.clauses (inst 0 sigma) ++ take (i + 1) (map (line_at c) records) = append_assoc (lines_before w.choices w.clauses (inst 0 sigma)) (take i (map (line_at c) records)) (line_at c r ∷ []) ∙ ap (λ (ls : List Line). lines_before w.choices w.clauses (inst 0 sigma) ++ ls) (sym done) in
            let f : numbers ++ length (map (line_at c) lines) ∷ [] ≡ more = ap (λ m. numbers ++ m ∷ []) count ∙ sym a.number in
            subst (λ (ns : List ℕ). AreSame (lines_before w.choices w.clauses (inst 0 sigma) ++ take (i + 1) (map (line_at c) records)) (map (line_at c) later) ns) f
            (subst (λ (ls : List Line). AreSame (lines_before w.choices w.clauses (inst 0 sigma) ++ take (i + 1) (map (line_at c) records)) ls (numbers ++ length (map (line_at c) lines) ∷ [])) (sym read)
            (subst (λ (ls : List Line). AreSame ls (map (line_at c) lines ++ numbered_line (λ n. get_or numbers n 0) (line_at c r) ∷ []) (numbers ++ length (map (line_at c) lines) ∷ [])) e n));
        ends = λ k z.
            let m : length later - 1 ≡ length (map (line_at c) lines) = (let x : length later ≡ length lines + 1 = ap length a.appended ∙ length-append lines (a.record_of ∷ []) in omega arith) in
            record {
              line = numbered_line (λ n. get_or numbers n 0) (line_at c r);
              stands = rw (read, m) (get-last (map (line_at c) lines) (numbered_line (λ n. get_or numbers n 0) (line_at c r)));
              clause_is = sym (ap (last_clause k) done ∙ last-added k (take i (map (line_at c) records)) (line_at c r));
            };
        plain = λ z.
            let m : length later - 1 ≡ length (map (line_at c) lines) = (let x : length later ≡ length lines + 1 = ap length a.appended ∙ length-append lines (a.record_of ∷ []) in omega arith) in
            let stands : slice_get (map (line_at c) later) (length later - 1) ≡ Some (numbered_line (λ n. get_or numbers n 0) (line_at c r)) = rw (read, m) (get-last (map (line_at c) lines) (numbered_line (λ n. get_or numbers n 0) (line_at c r))) in
            ap abbreviation_at stands ∙ (same_line (λ n. get_or numbers n 0) (line_at c r ∷ []) (numbered_line (λ n. get_or numbers n 0) (line_at c r) ∷ []) 0 0 (line_at c r) refl refl).abbreviation_same ∙ plain-step;
      }
