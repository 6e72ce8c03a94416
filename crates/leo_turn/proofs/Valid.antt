-- Valid searches stay valid.
use Rattle.std.proofs.Common.{ℕ, zero, suc, ◌≡◌, ◌∙◌, ◌+◌, ◌<◌, ◌⊎◌, inl, inr, false, List, [], ◌∷◌, ◌++◌, length, map, take, slice_get, Option, Some, None, refl, sym, ap, subst, eq-eqb, ne_eqb, arith}
use Rattle.std.specs.Prelude.{nat_eq}
use Rattle.leo_terms.specs.Tree.{Tree}
use Rattle.leo_terms.specs.Contents.{Contents, Extends, tree_at}
use Rattle.leo_terms.proofs.CallerLemmas.{trees-kept, are_terms-kept}
use Rattle.leo_clause.specs.declared.clause.Clause.{Clause}
use Rattle.leo_clause.specs.declared.record.StepRecord.{StepRecord}
use Rattle.leo_clause.specs.Choices.{Choice, choice_at}
use Rattle.leo_clause.specs.Trees.{ClauseTree, clause_at}
use Rattle.leo_clause.specs.Typed.{IsTyped, IsTypedIn}
use Rattle.leo_kernel.specs.Acceptance.{Accepts, AreAccepted}
use Rattle.leo_kernel.specs.Records.{IsStepOf, AreStepsOf}
use Rattle.leo_kernel.specs.Steps.{Line, line_at}
use Rattle.leo_kernel.specs.Symbols.{abbreviation_at, abbreviation_of}
use Rattle.leo_kernel.proofs.Growing.{clause-grow, clause-kept}
use Rattle.leo_kernel.proofs.LinesGrowing.{lines-kept, lines-grow}
use Rattle.leo_clausify.specs.Choosing.{AreInOrder, AreChoices}
use Rattle.leo_clausify.specs.Leaves.{choice_line}
use Rattle.leo_clausify.specs.Splitting.{AreNormal}
use Rattle.leo_clausify.proofs.Picks.{items-kept, items-grow}
use Rattle.leo_keep.specs.declared.fronts.Front.{Front}
use Rattle.leo_keep.specs.Fronts.{IsFront}
use Rattle.leo_keep.specs.Outcomes.{AreTypedIn}
use Rattle.leo_keep.proofs.CallerLemmas.{fronts-added, fronts-grow}
use Rattle.leo_passive.specs.Entries.{Entry, AreBelow}
use Rattle.leo_turn.specs.declared.search.Search.{Search}
use Rattle.leo_turn.specs.Changing.{IsAllFrom, with_lines, with_choice, with_clause}
use Rattle.leo_turn.specs.Growth.{IsLonger}
use Rattle.leo_turn.specs.Origins.{AreFrom}
use Rattle.leo_turn.specs.Searches.{AreAbove, AreAllBelow, AreNormalIn, ArePlain, AreShared, HasClause, HaveChoices, HaveClauses, HaveWeights, IsRising, IsSearch, choices_of, hypotheses_of, kept_of, lines_of, numbers_of, passive_weight, times}
use Rattle.std.proofs.lemmas.List.{length-append, map-append, take-append-le}
use Rattle.std.proofs.Math.Seq.{take-append_seam}
use Rattle.leo_turn.proofs.Origins.{from-choice}
use Rattle.leo_turn.proofs.Lists.{below-last, get-added, get-last, get-within, length-map, longer-get, longer-map, some-same}

-- lines more
pub clause-longer : {lines later : List Line} → IsLonger lines later → (n : ℕ) (k : ClauseTree) → HasClause lines n k → HasClause later n k
clause-longer l n k h = record { line = h.line; stands = longer-get l n h.line h.stands; clause_is = h.clause_is }

pub clauses-longer : {lines later : List Line} → IsLonger lines later → (ns : List ℕ) (ks : List ClauseTree) → HaveClauses lines ns ks → HaveClauses later ns ks
clauses-longer l [] [] h = tt
clauses-longer l [] (k ∷ ks) h = absurd h
clauses-longer l (n ∷ ns) [] h = absurd h
clauses-longer l (n ∷ ns) (k ∷ ks) h = (clause-longer l n k h.0, clauses-longer l ns ks h.1)

pub plain-longer : {lines later : List Line} → IsLonger lines later → (ns : List ℕ) (ks : List ClauseTree) → HaveClauses lines ns ks → ArePlain lines ns → ArePlain later ns
plain-longer l [] [] h p = tt
plain-longer l [] (k ∷ ks) h p = absurd h
plain-longer l (n ∷ ns) [] h p = absurd h
plain-longer {lines} {later} l (n ∷ ns) (k ∷ ks) h p =
    let same : slice_get later n ≡ slice_get lines n = longer-get l n h.0.line h.0.stands ∙ sym h.0.stands in
    (ap abbreviation_at same ∙ p.0, plain-longer l ns ks h.1 p.1)

plain-added : (lines : List Line) (ns : List ℕ) (n : ℕ) → ArePlain lines ns → abbreviation_of lines n ≡ None → ArePlain lines (ns ++ n ∷ [])
plain-added lines [] n h p = (p, tt)
plain-added lines (m ∷ ns) n h p = (h.0, plain-added lines ns n h.1 p)

pub choices-longer : {lines later : List Line} → IsLonger lines later → (ns : List ℕ) (ks : List Choice) → HaveChoices lines ns ks → HaveChoices later ns ks
choices-longer l [] [] h = tt
choices-longer l [] (k ∷ ks) h = absurd h
choices-longer l (n ∷ ns) [] h = absurd h
choices-longer l (n ∷ ns) (k ∷ ks) h = (longer-get l n (choice_line k) h.0, choices-longer l ns ks h.1)

clauses-added : (lines : List Line) (ns : List ℕ) (ks : List ClauseTree) (n : ℕ) (k : ClauseTree) → HaveClauses lines ns ks → HasClause lines n k → HaveClauses lines (ns ++ n ∷ []) (ks ++ k ∷ [])
clauses-added lines [] [] n k h g = (g, tt)
clauses-added lines [] (i ∷ ks) n k h g = absurd h
clauses-added lines (m ∷ ns) [] n k h g = absurd h
clauses-added lines (m ∷ ns) (i ∷ ks) n k h g = (h.0, clauses-added lines ns ks n k h.1 g)

choices-added : (lines : List Line) (ns : List ℕ) (ks : List Choice) (n : ℕ) (k : Choice) → HaveChoices lines ns ks → slice_get lines n ≡ Some (choice_line k) → HaveChoices lines (ns ++ n ∷ []) (ks ++ k ∷ [])
choices-added lines [] [] n k h g = (g, tt)
choices-added lines [] (i ∷ ks) n k h g = absurd h
choices-added lines (m ∷ ns) [] n k h g = absurd h
choices-added lines (m ∷ ns) (i ∷ ks) n k h g = (h.0, choices-added lines ns ks n k h.1 g)

pub steps-added : (c : Contents) (lines : List StepRecord) (r : StepRecord) → AreStepsOf c lines → IsStepOf c r → AreStepsOf c (lines ++ r ∷ [])
steps-added c lines r h g n s e = get-added (λ n s. IsStepOf c s) lines r h g n s e

pub accepted-added : (hypotheses : List Tree) (lines : List Line) (l : Line) → AreAccepted hypotheses lines → Accepts hypotheses lines l → AreAccepted hypotheses (lines ++ l ∷ [])
accepted-added hypotheses lines l h a n step e = get-added (λ n s. Accepts hypotheses (take n (lines ++ l ∷ [])) s) lines l
    (λ m s g. (let w = get-within lines m s g in subst (λ ls. Accepts hypotheses ls s) (sym (take-append-le m lines (l ∷ []) (omega arith))) (h m s g)))
    (subst (λ ls. Accepts hypotheses ls l) (sym (take-append_seam lines (l ∷ []))) a)
    n step e

pub search-lines : (c : Contents) (s : Search) (ls : List StepRecord) → IsSearch c s → IsLonger s.lines ls → AreStepsOf c ls → AreAccepted (hypotheses_of c s) (map (line_at c) ls) → AreFrom (hypotheses_of c s) (map (line_at c) ls) → IsSearch c (with_lines s ls)
search-lines c s ls h l steps a from = record {
  hypotheses = h.hypotheses;
  steps = steps;
  accepted = a;
  origin = from;
  choices = h.choices;
  choice_lines = choices-longer (longer-map (line_at c) l) s.abbr_at (choices_of c s) h.choice_lines;
  rising = h.rising;
  typed = h.typed;
  fronts = h.fronts;
  normal = h.normal;
  few = h.few;
  clause_lines = clauses-longer (longer-map (line_at c) l) s.at (kept_of c s) h.clause_lines;
  plain = plain-longer (longer-map (line_at c) l) s.at (kept_of c s) h.clause_lines h.plain;
  shared = h.shared;
  weights = h.weights;
}

-- a bank that grew
module _ {c d : Contents} (e : Extends c d) where
  pub typed-grow : (k : Clause) → IsTypedIn c k → IsTypedIn d k
  typed-grow k h = record { of_bank = clause-grow e k h.of_bank; typed = subst IsTyped (sym (clause-kept e k h.of_bank)) h.typed }

  all_typed-grow : (ks : List Clause) → AreTypedIn c ks → AreTypedIn d ks
  all_typed-grow [] h = tt
  all_typed-grow (k ∷ ks) h = (typed-grow k h.0, all_typed-grow ks h.1)

  pub clauses-kept : (ks : List Clause) → AreTypedIn c ks → map (clause_at d) ks ≡ map (clause_at c) ks
  clauses-kept [] h = refl
  clauses-kept (k ∷ ks) h = rw (clause-kept e k h.0.of_bank, clauses-kept ks h.1) refl

  normal-grow : (ks : List Clause) → AreTypedIn c ks → AreNormalIn c ks → AreNormalIn d ks
  normal-grow [] t h = tt
  normal-grow (k ∷ ks) t h = (subst (λ (j : ClauseTree). AreNormal j.literals) (sym (clause-kept e k t.0.of_bank)) h.0, normal-grow ks t.1 h.1)

  pub order-grow : (items : List (ℕ × ℕ)) → AreInOrder c items → AreInOrder d items
  order-grow items h = record { of_bank = items-grow e items h.of_bank; choices = subst AreChoices (sym (items-kept e items h.of_bank)) h.choices }

  module _ (s : Search) (h : IsSearch c s) where
    pub hypotheses-same : hypotheses_of d s ≡ hypotheses_of c s
    hypotheses-same = trees-kept e s.hyps h.hypotheses

    pub lines-same : lines_of d s ≡ lines_of c s
    lines-same = lines-kept e s.lines h.steps

    pub choices-same : choices_of d s ≡ choices_of c s
    choices-same = items-kept e s.abbr.items h.choices.of_bank

    pub kept-same : kept_of d s ≡ kept_of c s
    kept-same = clauses-kept s.kept h.typed

    pub search-grow : IsSearch d s
    search-grow = record {
      hypotheses = are_terms-kept e s.hyps h.hypotheses;
      steps = lines-grow e s.lines h.steps;
      accepted = rw (hypotheses-same, lines-same) h.accepted;
      origin = rw (hypotheses-same, lines-same) h.origin;
      choices = order-grow s.abbr.items h.choices;
      choice_lines = rw (lines-same, choices-same) h.choice_lines;
      rising = h.rising;
      typed = all_typed-grow s.kept h.typed;
      fronts = fronts-grow e s.kept s.fronts h.typed h.fronts;
      normal = normal-grow s.kept h.typed h.normal;
      few = h.few;
      clause_lines = rw (lines-same, kept-same) h.clause_lines;
      plain = rw lines-same h.plain;
      shared = h.shared;
      weights = rw kept-same h.weights;
    }

-- a choice symbol more
choice-within : (lines : List Line) (ns : List ℕ) (ks : List Choice) → HaveChoices lines ns ks → AreAllBelow (length lines) ns
choice-within lines [] [] h = tt
choice-within lines [] (k ∷ ks) h = absurd h
choice-within lines (n ∷ ns) [] h = absurd h
choice-within lines (n ∷ ns) (k ∷ ks) h = (get-within lines n (choice_line k) h.0, choice-within lines ns ks h.1)

above-added : (m n : ℕ) (ns : List ℕ) → AreAbove m ns → m < n → AreAbove m (ns ++ n ∷ [])
above-added m n [] h l = (l, tt)
above-added m n (k ∷ ns) h l = (h.0, above-added m n ns h.1 l)

rising-added : (n : ℕ) (ns : List ℕ) → IsRising ns → AreAllBelow n ns → IsRising (ns ++ n ∷ [])
rising-added n [] h b = (tt, tt)
rising-added n (m ∷ ns) h b = (above-added m n ns h.0 b.0, rising-added n ns h.1 b.1)

pub search-choice : (c : Contents) (s : Search) (line : StepRecord) (item : ℕ × ℕ) → IsSearch c s → AreInOrder c (s.abbr.items ++ item ∷ []) → IsStepOf c line → line_at c line ≡ choice_line (choice_at c item) → Accepts (hypotheses_of c s) (lines_of c s) (choice_line (choice_at c item)) → IsAllFrom (hypotheses_of c s) (lines_of c s) (tree_at c item.1) → IsSearch c (with_choice s line item)
search-choice c s line item h order step is a from =
    let more : map (line_at c) (s.lines ++ line ∷ []) ≡ lines_of c s ++ choice_line (choice_at c item) ∷ [] = map-append (line_at c) s.lines (line ∷ []) ∙ rw is refl in
    let longer : IsLonger (lines_of c s) (map (line_at c) (s.lines ++ line ∷ [])) = record { more = choice_line (choice_at c item) ∷ []; is = more } in
    let count : length (lines_of c s) ≡ length s.lines = length-map (line_at c) s.lines in
    let stands : slice_get (map (line_at c) (s.lines ++ line ∷ [])) (length s.lines) ≡ Some (choice_line (choice_at c item)) = rw more (subst (λ n. slice_get (lines_of c s ++ choice_line (choice_at c item) ∷ []) n ≡ Some (choice_line (choice_at c item))) count (get-last (lines_of c s) (choice_line (choice_at c item)))) in
    record {
      hypotheses = h.hypotheses;
      steps = steps-added c s.lines line h.steps step;
      accepted = rw more (accepted-added (hypotheses_of c s) (lines_of c s) (choice_line (choice_at c item)) h.accepted a);
      origin = rw more (from-choice (hypotheses_of c s) (lines_of c s) (choice_at c item) h.origin from);
      choices = order;
      choice_lines = rw (map-append (choice_at c) s.abbr.items (item ∷ [])) (choices-added (map (line_at c) (s.lines ++ line ∷ [])) s.abbr_at (choices_of c s) (length s.lines) (choice_at c item) (choices-longer longer s.abbr_at (choices_of c s) h.choice_lines) stands);
      rising = rising-added (length s.lines) s.abbr_at h.rising (subst (λ n. AreAllBelow n s.abbr_at) count (choice-within (lines_of c s) s.abbr_at (choices_of c s) h.choice_lines));
      typed = h.typed;
      fronts = h.fronts;
      normal = h.normal;
      few = h.few;
      clause_lines = clauses-longer longer s.at (kept_of c s) h.clause_lines;
      plain = plain-longer longer s.at (kept_of c s) h.clause_lines h.plain;
      shared = h.shared;
      weights = h.weights;
    }

-- a kept clause more
typed-added : (c : Contents) (ks : List Clause) (k : Clause) → AreTypedIn c ks → IsTypedIn c k → AreTypedIn c (ks ++ k ∷ [])
typed-added c [] k h g = (g, tt)
typed-added c (j ∷ ks) k h g = (h.0, typed-added c ks k h.1 g)

normal-added : (c : Contents) (ks : List Clause) (k : Clause) → AreNormalIn c ks → AreNormal (clause_at c k).literals → AreNormalIn c (ks ++ k ∷ [])
normal-added c [] k h g = (g, tt)
normal-added c (j ∷ ks) k h g = (h.0, normal-added c ks k h.1 g)

below-next : (n : ℕ) (ns : List ℕ) → AreAllBelow n ns → AreAllBelow (suc n) ns
below-next n [] h = tt
below-next n (m ∷ ns) h = let l = h.0 in (omega arith, below-next n ns h.1)

entries-next : (n w : ℕ) (es : List Entry) → AreBelow n es → AreBelow (suc n) (es ++ record { number = n; weight = w } ∷ [])
entries-next n w [] h = (omega arith, tt)
entries-next n w (e ∷ es) h = let l = h.0 in (omega arith, entries-next n w es h.1)

times-none : (n : ℕ) (ns : List ℕ) → AreAllBelow n ns → times n ns ≡ 0
times-none n [] h = refl
times-none n (m ∷ ns) h = let l = h.0 in let t : nat_eq n m ≡ false = ne_eqb n m (λ e. omega (arith, e)) in rw t (times-none n ns h.1)

numbers-below : (n : ℕ) (es : List Entry) → AreBelow n es → AreAllBelow n (numbers_of es)
numbers-below n [] h = tt
numbers-below n (e ∷ es) h = (h.0, numbers-below n es h.1)

times-old : (n m w : ℕ) (es : List Entry) → (n ≡ m → ⊥) → times n (numbers_of (es ++ record { number = m; weight = w } ∷ [])) ≡ times n (numbers_of es)
times-old n m w [] h = rw (ne_eqb n m h) refl
times-old n m w (e ∷ es) h = rw (times-old n m w es h) refl

times-new : (n w : ℕ) (es : List Entry) → AreBelow n es → times n (numbers_of (es ++ record { number = n; weight = w } ∷ [])) ≡ 1
times-new n w [] h = rw (eq-eqb n n refl) refl
times-new n w (e ∷ es) h = let l = h.0 in let t : nat_eq n e.number ≡ false = ne_eqb n e.number (λ g. omega (arith, g)) in rw t (times-new n w es h.1)

shared-next : (n w : ℕ) (active : List ℕ) (es : List Entry) → AreShared n active es → AreShared (suc n) active (es ++ record { number = n; weight = w } ∷ [])
shared-next n w active es h = record {
  active_below = below-next n active h.active_below;
  passive_below = entries-next n w es h.passive_below;
  once = λ m l. by m (below-last m n l);
}
  where
    by : (m : ℕ) → (m < n) ⊎ (m ≡ n) → times m active + times m (numbers_of (es ++ record { number = n; weight = w } ∷ [])) ≡ 1
    by m (inl l) = rw (times-old m n w es (λ e. (let f : ⊥ = omega arith in f))) (h.once m l)
    by m (inr e) = rw (e, times-none n active h.active_below, times-new n w es h.passive_below) refl

weights-longer : (ks js : List ClauseTree) (es : List Entry) → AreBelow (length ks) es → HaveWeights ks es → HaveWeights (ks ++ js) es
weights-longer ks js [] b h = tt
weights-longer ks js (e ∷ es) b h = (λ k g. h.0 k (front ks js e.number k b.0 g), weights-longer ks js es b.1 h.1)
  where
    front : (ks js : List ClauseTree) (n : ℕ) (k : ClauseTree) → n < length ks → slice_get (ks ++ js) n ≡ Some k → slice_get ks n ≡ Some k
    front [] js n k l g = absurd (let f : ⊥ = omega arith in f)
    front (i ∷ ks) js zero k l g = g
    front (i ∷ ks) js (suc n) k l g = front ks js n k (omega arith) g

weights-added : (ks : List ClauseTree) (es : List Entry) (e : Entry) → HaveWeights ks es → ((k : ClauseTree) → slice_get ks e.number ≡ Some k → e.weight ≡ passive_weight k) → HaveWeights ks (es ++ e ∷ [])
weights-added ks [] e h g = (g, tt)
weights-added ks (d ∷ es) e h g = (h.0, weights-added ks es e h.1 g)

pub search-clause : (c : Contents) (s : Search) (k : Clause) (f : Option Front) (n w : ℕ) → IsSearch c s → length s.kept < 200000 → IsTypedIn c k → IsFront c k f → AreNormal (clause_at c k).literals → HasClause (lines_of c s) n (clause_at c k) → abbreviation_of (lines_of c s) n ≡ None → w ≡ passive_weight (clause_at c k) → IsSearch c (with_clause s k f n w)
search-clause c s k f n w h few typed front normal line plain weight =
    let more : map (clause_at c) (s.kept ++ k ∷ []) ≡ kept_of c s ++ clause_at c k ∷ [] = map-append (clause_at c) s.kept (k ∷ []) in
    let count : length (s.kept ++ k ∷ []) ≡ length s.kept + 1 = length-append s.kept (k ∷ []) in
    let same : length (kept_of c s) ≡ length s.kept = length-map (clause_at c) s.kept in
    let last : slice_get (kept_of c s ++ clause_at c k ∷ []) (length s.kept) ≡ Some (clause_at c k) = subst (λ n. slice_get (kept_of c s ++ clause_at c k ∷ []) n ≡ Some (clause_at c k)) same (get-last (kept_of c s) (clause_at c k)) in
    let below : AreBelow (length (kept_of c s)) s.passive = rw same h.shared.passive_below in
    record {
      hypotheses = h.hypotheses;
      steps = h.steps;
      accepted = h.accepted;
      origin = h.origin;
      choices = h.choices;
      choice_lines = h.choice_lines;
      rising = h.rising;
      typed = typed-added c s.kept k h.typed typed;
      fronts = fronts-added c s.kept s.fronts k f h.fronts front;
      normal = normal-added c s.kept k h.normal normal;
      few = omega arith;
      clause_lines = rw more (clauses-added (lines_of c s) s.at (kept_of c s) n (clause_at c k) h.clause_lines line);
      plain = plain-added (lines_of c s) s.at n h.plain plain;
      shared = (let e : length (s.kept ++ k ∷ []) ≡ suc (length s.kept) = omega arith in rw e (shared-next (length s.kept) w s.active s.passive h.shared));
      weights = rw more (weights-added (kept_of c s ++ clause_at c k ∷ []) s.passive (record { number = length s.kept; weight = w }) (weights-longer (kept_of c s) (clause_at c k ∷ []) s.passive below h.weights) (λ j g. weight ∙ ap passive_weight (some-same (clause_at c k) j (sym last ∙ g))));
    }
