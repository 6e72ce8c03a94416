-- A problem has one answer.
use Rattle.std.proofs.Common.{ℕ, ◌≡◌, ◌∙◌, ◌<◌, inl, inr, List, [], ◌∷◌, ◌++◌, length, Option, refl, sym, ap, subst, arith}
use Rattle.std.specs.Prelude.{slice_index}
use Rattle.std.specs.Option.{option_map}
use Rattle.std.proofs.lemmas.Bool.{cases_eq, cases_order}
use Rattle.fo_text.specs.declared.problem.FoClause.{FoClause}
use Rattle.fo_text.specs.declared.problem.FoProblem.{FoProblem}
use Rattle.fo_text.specs.declared.answer.FoAnswer.{FoAnswer}
use Rattle.fo_text.specs.declared.answer.FoEnd.TheVariants as end
use Rattle.fo_text.specs.declared.answer.FoStep.{FoStep}
use Rattle.fo_text.specs.declared.answer.FoStep.TheVariants.{Inst}
use Rattle.fo_text.specs.AnswerSpellings.{answer_text}
use Rattle.fo_text.specs.Problems.{IsProblem}
use Rattle.fo_replay.specs.Replays.{instance_words}
use Rattle.fo_super.specs.Conclusions.{lines}
use Rattle.fo_super.specs.Outcomes.{HoldsOfNone, IsLeast}
use Rattle.fo_super.specs.Runs.{started, IsRunOf}
use Rattle.fo_super.specs.Runs.{turned as turned_so}
use Rattle.fo_super.specs.Turns.{Origin, Search, IsTurn}
use Rattle.fo_super.specs.Unique.{TurnsAreUnique}
use Rattle.fo_prove.specs.declared.status.FoStatus.{FoStatus}
use Rattle.fo_prove.specs.declared.status.FoStatus.TheVariants as status
use Rattle.fo_prove.specs.Answers.{beats_of, begun, refuted, spent, too_long, turned, with_beats, without_room, IsChildRun, IsEmptyClause, IsEnding, IsGoing, IsRun, IsWithin}
use Rattle.fo_prove.specs.Proving.{answered, cut_answer, cut_beats, no_memory, status_of, IsWorked}
use Rattle.fo_prove.specs.Refutations.{left_out, no_more, of_lines, of_text, own_variables, written, AreLines, IsRefutation}
use Rattle.fo_prove.specs.Refutations.AreLines.{of_text as line_of_text}
use Rattle.fo_prove.specs.Unique.{AnswersAreUnique, IsWhole, WholeAnswersAreUnique}

no-fault : IsWhole status.WriteFault → ⊥
no-fault (inl e) = cc
no-fault (inr e) = cc

no-want : IsWhole status.NoMemory → ⊥
no-want (inl e) = cc
no-want (inr e) = cc

-- the lines of clauses
lines-same : {N : ℕ → Type 0} {literals : ℕ → ℕ} {next : ℕ} {last : List ℕ} {os : List Origin} {steps others : List FoStep} → AreLines N literals next last os steps → AreLines N literals next last os others → steps ≡ others
lines-same no_more no_more = refl
lines-same (line_of_text h) (line_of_text k) = lines-same h k
lines-same (left_out n h) (left_out m k) = lines-same h k
lines-same (left_out n h) (written needed k) = absurd (n needed)
lines-same (written needed h) (left_out n k) = absurd (n needed)
lines-same {literals = literals} {next = next} {last = last} (written {m = m} {vars = vars} {terms = terms} needed h) (written other k) = ap (λ (x : List FoStep). lines (slice_index last) literals next m vars terms ++ x) (lines-same h k)

refutation-same : (p : FoProblem) (s : Search) (e : ℕ) (steps others : List FoStep) → IsRefutation p s e steps → IsRefutation p s e others → steps ≡ others
refutation-same p s e _ _ (of_text c a h) (of_text d b k) =
    let same : c ≡ d = cc in
    ap (λ (x : FoClause). Inst e (instance_words x.vars (own_variables (length x.vars))) ∷ []) same
refutation-same p s e _ _ (of_text c a h) (of_lines m vars terms b k) = absurd (let f : ⊥ = cc in f)
refutation-same p s e _ _ (of_lines m vars terms a h) (of_text d b k) = absurd (let f : ⊥ = cc in f)
refutation-same p s e _ _ (of_lines m vars terms a h) (of_lines n wars others b k) = lines-same h k

least-same : (P : FoClause → Type 0) (clauses : List FoClause) (m n : ℕ) → IsLeast P clauses m → IsLeast P clauses n → m ≡ n
least-same P clauses m n h k =
    elim (cases_order m n) [
      | inl e ↦ e
      | inr (inl l) ↦ absurd (k.least m h.clause l h.stands h.holds)
      | inr (inr l) ↦ absurd (h.least n k.clause l k.stands k.holds)
    ]

none-least : (P : FoClause → Type 0) (clauses : List FoClause) (n : ℕ) → HoldsOfNone P clauses → IsLeast P clauses n → ⊥
none-least P clauses n f h = f n h.clause h.stands h.holds

module _ (p : FoProblem) where
  -- a run goes on only where it does not end
  ended-stays : {s : Search} {a : FoAnswer} → IsEnding p s a → IsGoing p s → ⊥
  ended-stays (without_room f) g = f g.room
  ended-stays (spent room none (inl e)) g = (let l = g.turns_left in omega (arith, e, l))
  ended-stays (spent room none (inr e)) g = g.passive_left e
  ended-stays {s} (too_long {e} room least r f) g = none-least IsEmptyClause s.clauses e g.no_empty least
  ended-stays {s} (refuted {e} room least r f) g = none-least IsEmptyClause s.clauses e g.no_empty least

  -- the same end
  steps-same : {s : Search} {e d : ℕ} {steps others : List FoStep} → IsLeast IsEmptyClause s.clauses e → IsRefutation p s e steps → IsLeast IsEmptyClause s.clauses d → IsRefutation p s d others → steps ≡ others
  steps-same {s} {e} {d} {steps} {others} l r m q =
      refutation-same p s e steps others r (subst (λ n. IsRefutation p s n others) (sym (least-same IsEmptyClause s.clauses e d l m)) q)

  ending-same : {s : Search} {a b : FoAnswer} → IsEnding p s a → IsEnding p s b → a ≡ b
  ending-same (without_room f) (without_room g) = refl
  ending-same (without_room f) (spent room none over) = absurd (f room)
  ending-same (without_room f) (too_long room least r n) = absurd (f room)
  ending-same (without_room f) (refuted room least r w) = absurd (f room)
  ending-same (spent room none over) (without_room g) = absurd (g room)
  ending-same (spent room none over) (spent space nothing done) = refl
  ending-same (spent room none over) (too_long space least r n) = refl
  ending-same {s} (spent room none over) (refuted {e} space least r w) = absurd (none-least IsEmptyClause s.clauses e none least)
  ending-same (too_long room least r n) (without_room g) = absurd (g room)
  ending-same (too_long room least r n) (spent space nothing done) = refl
  ending-same (too_long room least r n) (too_long space first q m) = refl
  ending-same {s} (too_long room least r n) (refuted space first q w) = absurd (n (subst (λ x. IsWithin (with_beats (beats_of s) (end.Refuted x))) (sym (steps-same least r first q)) w))
  ending-same (refuted room least r w) (without_room g) = absurd (g room)
  ending-same {s} (refuted {e} room least r w) (spent space nothing done) = absurd (none-least IsEmptyClause s.clauses e nothing least)
  ending-same {s} (refuted room least r w) (too_long space first q m) = absurd (m (subst (λ x. IsWithin (with_beats (beats_of s) (end.Refuted x))) (steps-same least r first q) w))
  ending-same {s} (refuted room least r w) (refuted space first q v) = ap (λ x. with_beats (beats_of s) (end.Refuted x)) (steps-same least r first q)

  run-so : {s : Search} → IsRun p s → IsRunOf p s
  run-so begun = started
  run-so (turned r g t) = turned_so (run-so r) t

  -- a run went on from a search at each earlier number of turns
  record WentOn (n : ℕ) : Type 0 where
    search : Search
    run : IsRun p search
    turns : search.turns ≡ n
    going : IsGoing p search

  went-on : (n : ℕ) {s : Search} → IsRun p s → n < s.turns → WentOn n
  went-on n begun l = absurd (omega (arith, l))
  went-on n (turned {old} r g t) l =
      elim (cases_eq old.turns n) [
        | inl e ↦ record { search = old; run = r; turns = e; going = g }
        | inr f ↦ went-on n r (let u = t.turns in omega (arith, l, u, f))
      ]

  module _ (turns : TurnsAreUnique) (problem : IsProblem p) where
    runs-meet : {s u : Search} → IsRun p s → IsRun p u → s.turns ≡ u.turns → s ≡ u
    runs-meet begun begun e = refl
    runs-meet begun (turned r g t) e = absurd (let n = t.turns in let f : ⊥ = omega (arith, e, n) in f)
    runs-meet (turned r g t) begun e = absurd (let n = t.turns in let f : ⊥ = omega (arith, e, n) in f)
    runs-meet (turned {old} {new} r g t) (turned {old = before} {new = now} q h u) e =
        let same : old ≡ before = runs-meet r q (let m = t.turns in let n = u.turns in omega (arith, e, m, n)) in
        turns p old new now problem (run-so r) t (subst (λ x. IsTurn p x now) (sym same) u)

    not-before : {s u : Search} {a : FoAnswer} → IsRun p s → IsEnding p s a → IsRun p u → s.turns < u.turns → ⊥
    not-before {s} {u} r e q l =
        let w = went-on s.turns q l in
        ended-stays e (subst (IsGoing p) (runs-meet w.run r w.turns) w.going)

    pub answer-same : (a b : FoAnswer) → IsChildRun p a → IsChildRun p b → a ≡ b
    answer-same a b x y =
        elim (cases_order x.last.turns y.last.turns) [
          | inl e ↦ ending-same x.ending (subst (λ s. IsEnding p s b) (sym (runs-meet x.run y.run e)) y.ending)
          | inr (inl l) ↦ absurd (not-before x.run x.ending y.run l)
          | inr (inr l) ↦ absurd (not-before y.run y.ending x.run l)
        ]

    whole-same : {before now other : Option (List ℕ)} {Failed Fails : Type 0} {s t : FoStatus} → IsWorked p before now Failed s → IsWorked p before other Fails t → IsWhole s → IsWhole t → (s ≡ t) × (now ≡ other)
    whole-same {before} (answered a r h) (answered b q k) v w =
        let same = answer-same a b r q in
        (ap (λ (x : FoAnswer). status_of x.end) same, h ∙ ap (λ (x : FoAnswer). option_map (λ bytes. bytes ++ answer_text x) before) same ∙ sym k)
    whole-same (answered a r h) (cut_answer b q c f) v w = absurd (no-fault w)
    whole-same (answered a r h) (cut_beats s q room c f) v w = absurd (no-fault w)
    whole-same (answered a r h) (no_memory s q room k) v w = absurd (no-want w)
    whole-same (cut_answer b q c f) k v w = absurd (no-fault v)
    whole-same (cut_beats s q room c f) k v w = absurd (no-fault v)
    whole-same (no_memory s q room h) k v w = absurd (no-want v)

pub answers-same : TurnsAreUnique → AnswersAreUnique
answers-same turns p a b problem r q = answer-same p turns problem a b r q

pub wholes-same : TurnsAreUnique → WholeAnswersAreUnique
wholes-same turns p before now other f g h k s t problem r q v w = whole-same p turns problem r q v w
