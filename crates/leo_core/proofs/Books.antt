-- Books stay books.
use Rattle.std.proofs.Common.{ℕ, zero, suc, ◌≡◌, ◌∙◌, ◌<◌, ◌≤◌, ◌↔◌, ◌⊎◌, inl, inr, Bool, true, false, List, [], ◌∷◌, ◌++◌, length, map, drop, Option, Some, None, refl, sym, ap, subst, arith}
use Rattle.std.specs.Bool.{Decides, IsTrue}
use Rattle.std.specs.List.{drop-map}
use Rattle.std.specs.Prelude.{vec_len, vec_capacity, Result, Ok, Err, OnErr}
use Rattle.leo_terms.specs.Tree.{Tree}
use Rattle.leo_terms.specs.Contents.{Contents, Extends, tree_at}
use Rattle.leo_terms.proofs.CallerLemmas.{old_bank}
use Rattle.leo_clause.specs.declared.clause.Clause.{Clause}
use Rattle.leo_clause.specs.Trees.{ClauseTree, clause_at}
use Rattle.leo_kernel.specs.Symbols.{LackSymbol}
use Rattle.leo_kernel.proofs.Growing.{clause-kept}
use Rattle.leo_clausify.proofs.Picks.{items-kept, lacks-new}
use Rattle.leo_elab.specs.Table.{AreConstantsIn}
use Rattle.leo_keep.specs.Outcomes.{AreTypedIn}
use Rattle.leo_passive.specs.Entries.{Entry, has_number}
use Rattle.leo_problem.specs.declared.loaded.Hyp.{Hyp}
use Rattle.leo_problem.specs.declared.loaded.Problem.{Problem}
use Rattle.leo_problem.specs.Loading.{AreClosedFormulas, IsProblem}
use Rattle.leo_derive.specs.Verdicts.{hypotheses_of}
use Rattle.leo_derive.proofs.CallerLemmas.{in_bank, problem-kept, hypotheses-kept}
use Rattle.leo_turn.specs.declared.search.Search.{Search}
use Rattle.leo_turn.specs.Searches.{IsSearch, choices_of, kept_of}
use Rattle.leo_turn.specs.Turns.{IsFixed, IsStart, IsTurn, Setting, State, setting_of, state_of}
use Rattle.leo_core.specs.declared.event.Cause.{Cause}
use Rattle.leo_core.specs.declared.event.Event.{Event}
use Rattle.leo_core.specs.declared.event.Event.TheVariants.{Turn, Ended}
use Rattle.leo_core.specs.declared.event.Owed.{Owed}
use Rattle.leo_core.specs.declared.event.Owed.TheVariants as owed
use Rattle.leo_core.specs.declared.settings.Settings.{Settings}
use Rattle.leo_core.specs.declared.book.Book.TheInside.{Inside}
use Rattle.leo_core.specs.Inside.{IsWhole, pages_of}
use Rattle.leo_core.specs.Limits.{AreSettings}
use Rattle.leo_core.specs.Machine.{Standing, HasEmptyClause, IsRefuted, IsDue, a_turn, IsOwed, due, MayEnd, Steps, turned, ended, IsRun, started, went_on}
use Rattle.leo_core.specs.Books.{Pages, standing_of, AreNumbersBelow, HasSymbolsBelow, setting_with, IsBook, IsNew, HasTurned, IsUnchanged}
use Rattle.leo_core.specs.Laws.{events}
use Rattle.leo_core.proofs.Runs.{runs_are_counted, empty_where, empty_later}

abbrev pub pages : Problem → Settings → Search → List Event → Option Cause → Pages
pages p settings s journal ending = record { problem = p; settings = settings; search = s; journal = journal; ending = ending }

-- ---- a state in a bank that grew

clauses_same : {c d : Contents} → Extends c d → (ks : List Clause) → AreTypedIn c ks → map (clause_at d) ks ≡ map (clause_at c) ks
clauses_same e [] h = refl
clauses_same e (k ∷ ks) h = rw (clause-kept e k h.0.of_bank, clauses_same e ks h.1) refl

pub state_same : {c d : Contents} → Extends c d → (s : Search) → IsSearch c s → state_of d s ≡ state_of c s
state_same {c} {d} e s h =
    let k : kept_of d s ≡ kept_of c s = clauses_same e s.kept h.typed in
    let j : choices_of d s ≡ choices_of c s = items-kept e s.abbr.items h.choices.of_bank in
    rw (k, j) refl

-- ---- the symbols of a problem

below_kept : {p : Problem} {d : Contents} (n : ℕ) → Extends p.bank d → IsProblem p → HasSymbolsBelow n p → HasSymbolsBelow n (in_bank p d)
below_kept {p} {d} n e h b = record {
  names = b.names;
  hypotheses = λ s l. subst (LackSymbol s) (sym (hypotheses-kept {p = p} {q = in_bank p d} e refl h)) (b.hypotheses s l);
}

names_below : (c : Contents) (ps : List (List ℕ × ℕ)) → AreConstantsIn c ps → AreNumbersBelow (length c.symbols) ps
names_below c [] h = tt
names_below c (p ∷ ps) h = (h.0, names_below c ps h.1)

hypotheses_lack : {c d : Contents} → Extends c d → (s : ℕ) → length c.symbols ≤ s → (hs : List Hyp) → AreClosedFormulas c hs → LackSymbol s (map (λ (h : Hyp). tree_at c h.term) hs)
hypotheses_lack e s l [] h = tt
hypotheses_lack {c} e s l (x ∷ hs) h = (lacks-new c (old_bank e) s x.term l h.0.within, hypotheses_lack e s l hs h.1)

symbols_below : {p : Problem} {d : Contents} → Extends p.bank d → IsProblem p → HasSymbolsBelow (length p.bank.symbols) p
symbols_below {p} e h = record {
  names = names_below p.bank p.names.constants h.names.constants;
  hypotheses = λ s l. hypotheses_lack e s l p.hyps h.closed;
}

pub terms_at : (c : Contents) (hs : List Hyp) → map (tree_at c) (map (λ (h : Hyp). h.term) hs) ≡ map (λ (h : Hyp). tree_at c h.term) hs
terms_at c [] = refl
terms_at c (x ∷ hs) = ap (λ (ts : List Tree). tree_at c x.term ∷ ts) (terms_at c hs)

-- ---- the start

module _ {p : Problem} {settings : Settings} {d : Contents} {s : Search} {hyps : List ℕ} (e : Extends p.bank d) (h : IsProblem p) (range : AreSettings settings)
    (are : hyps ≡ map (λ (x : Hyp). x.term) p.hyps) (search : IsSearch d s) (fixed : IsFixed hyps settings.depth settings.weight s)
    (start : (symbols : ℕ) → symbols ≤ length p.bank.symbols → IsStart (record { symbols = symbols; depth = settings.depth; weight = settings.weight }) (map (tree_at p.bank) hyps) (state_of d s)) where
  hypotheses_are : map (tree_at p.bank) hyps ≡ hypotheses_of (in_bank p d)
  hypotheses_are = ap (map (tree_at p.bank)) are ∙ terms_at p.bank p.hyps ∙ sym (hypotheses-kept {p = p} {q = in_bank p d} e refl h)

  pub book_started : IsBook (pages (in_bank p d) settings s [] None)
  book_started = record {
    problem = problem-kept {p = p} {q = in_bank p d} e refl h;
    settings = range;
    search = search;
    fixed = record { hyps_are = fixed.hyps_are ∙ are; depth_is = fixed.depth_is; weight_is = fixed.weight_is };
    run = record {
      symbols = length p.bank.symbols;
      below = below_kept (length p.bank.symbols) e h (symbols_below e h);
      within = e.symbols_more;
      run = started (state_of d s) (subst (λ (ts : List Tree). IsStart (setting_with (length p.bank.symbols) settings) ts (state_of d s)) hypotheses_are (start (length p.bank.symbols) (omega arith)));
    };
  }

  pub is_new : IsNew p settings (pages (in_bank p d) settings s [] None)
  is_new = record { problem_grew = record { bank = e; rest = refl }; settings_are = refl; journal_is = refl; ending_is = refl }

-- ---- what is owed

pub owed_is_due : {limit : ℕ} {s : Standing} (what : Owed) → IsOwed limit s (Some what) → (s.ending ≡ None) × IsDue limit s.state what
owed_is_due what (due x e d) = (e, d)

pub turn_not_refuted : {limit : ℕ} {s : State} → IsDue limit s owed.Turn → IsRefuted s → ⊥
turn_not_refuted (a_turn f t p) = f

pub some_passive : (es : List Entry) (n : ℕ) → has_number n es ≡ true → es ≡ [] → ⊥
some_passive [] n h e = (let z : ⊥ = cc in z)
some_passive (x ∷ es) n h e = (let z : ⊥ = cc in z)

pub turn_has_passive : {limit : ℕ} {s : State} → IsDue limit s owed.Turn → s.passive ≡ [] → ⊥
turn_has_passive (a_turn f t p) = p

-- how many events there are while a run goes on
pub events_before_end : {p : Pages} → IsBook p → p.ending ≡ None → (length p.journal ≤ p.settings.turns) × (p.search.turns ≤ p.settings.turns)
events_before_end {p} h going =
    let r = runs_are_counted (setting_with h.run.symbols p.settings) p.settings.turns (hypotheses_of p.problem) p.journal (standing_of p) h.run.run in
    let n = r.0 in
    let l = r.1 in
    let m : length p.journal ≡ p.search.turns = subst (λ (e : Option Cause). length p.journal ≡ events p.search.turns e) going n in
    (omega (arith, l, m), l)

pub turns_fit : {p : Pages} → IsBook p → p.ending ≡ None → p.search.turns < 4294967295
turns_fit {p} h going = let l = (events_before_end h going).1 in let t = h.settings.turns in omega (arith, l, t)

-- ---- nothing happened but that the bank grew

module _ {p : Problem} {settings : Settings} {s : Search} {journal : List Event} {ending : Option Cause} (h : IsBook (pages p settings s journal ending)) {d : Contents} (e : Extends p.bank d) where
  pub book_kept : IsSearch d s → IsBook (pages (in_bank p d) settings s journal ending)
  book_kept search = record {
    problem = problem-kept {p = p} {q = in_bank p d} e refl h.problem;
    settings = h.settings;
    search = search;
    fixed = h.fixed;
    run = record {
      symbols = h.run.symbols;
      below = below_kept h.run.symbols e h.problem h.run.below;
      within = (let w = h.run.within in let m = e.symbols_more in omega (arith, w, m));
      run = subst (λ (ts : List Tree). IsRun (setting_with h.run.symbols settings) settings.turns ts journal (record { state = state_of d s; ending = ending })) (sym (hypotheses-kept {p = p} {q = in_bank p d} e refl h.problem))
          (subst (λ (x : State). IsRun (setting_with h.run.symbols settings) settings.turns (hypotheses_of p) journal (record { state = x; ending = ending })) (sym (state_same e s h.search)) h.run.run);
    };
  }

  pub is_unchanged : IsUnchanged (pages p settings s journal ending) (pages (in_bank p d) settings s journal ending)
  is_unchanged = record {
    problem_grew = record { bank = e; rest = refl };
    settings_are = refl;
    search_is = refl;
    journal_is = refl;
    standing_is = ap (λ (x : State). record { state = x; ending = ending }) (state_same e s h.search);
  }

  -- ---- a turn
  module _ {t : Search} {given kept : ℕ} (search : IsSearch d t) (fixed : IsFixed s.hyps s.depth s.weight t) (going : ending ≡ None)
      (is_due : IsDue settings.turns (state_of p.bank s) owed.Turn)
      (turn : (symbols : ℕ) → symbols ≤ length p.bank.symbols → IsTurn (setting_of symbols s) (state_of p.bank s) (state_of d t) given kept) where
    setting_is : (n : ℕ) → setting_of n s ≡ setting_with n settings
    setting_is n = rw (h.fixed.depth_is, h.fixed.weight_is) refl

    step_turned : Steps (setting_with h.run.symbols settings) settings.turns (record { state = state_of p.bank s; ending = ending }) (Turn given kept) (record { state = state_of d t; ending = ending })
    step_turned =
        subst (λ (x : Option Cause). Steps (setting_with h.run.symbols settings) settings.turns (record { state = state_of p.bank s; ending = ending }) (Turn given kept) (record { state = state_of d t; ending = x })) (sym going)
        (turned given kept (state_of d t) going is_due (subst (λ (x : Setting). IsTurn x (state_of p.bank s) (state_of d t) given kept) (setting_is h.run.symbols) (turn h.run.symbols h.run.within)))

    pub book_turned : IsBook (pages (in_bank p d) settings t (journal ++ Turn given kept ∷ []) ending)
    book_turned = record {
      problem = problem-kept {p = p} {q = in_bank p d} e refl h.problem;
      settings = h.settings;
      search = search;
      fixed = record { hyps_are = fixed.hyps_are ∙ h.fixed.hyps_are; depth_is = fixed.depth_is ∙ h.fixed.depth_is; weight_is = fixed.weight_is ∙ h.fixed.weight_is };
      run = record {
        symbols = h.run.symbols;
        below = below_kept h.run.symbols e h.problem h.run.below;
        within = (let w = h.run.within in let m = e.symbols_more in omega (arith, w, m));
        run = subst (λ (ts : List Tree). IsRun (setting_with h.run.symbols settings) settings.turns ts (journal ++ Turn given kept ∷ []) (record { state = state_of d t; ending = ending })) (sym (hypotheses-kept {p = p} {q = in_bank p d} e refl h.problem))
            (went_on journal (record { state = state_of p.bank s; ending = ending }) (Turn given kept) (record { state = state_of d t; ending = ending }) h.run.run step_turned);
      };
    }

    pub has_turned : HasTurned (pages p settings s journal ending) (pages (in_bank p d) settings t (journal ++ Turn given kept ∷ []) ending)
    has_turned = record {
      problem_grew = record { bank = e; rest = refl };
      settings_are = refl;
      ending_is = going;
      given = given;
      kept = kept;
      journal_is = refl;
      symbols = h.run.symbols;
      below = below_kept h.run.symbols e h.problem h.run.below;
      step = step_turned;
    }

-- ---- the end

module _ {p : Problem} {settings : Settings} {s : Search} {journal : List Event} {ending : Option Cause} (h : IsBook (pages p settings s journal ending)) where
  pub book_ended : (cause : Cause) → ending ≡ None → MayEnd settings.turns (state_of p.bank s) cause → IsBook (pages p settings s (journal ++ Ended cause ∷ []) (Some cause))
  book_ended cause going may = record {
    problem = h.problem;
    settings = h.settings;
    search = h.search;
    fixed = h.fixed;
    run = record {
      symbols = h.run.symbols;
      below = h.run.below;
      within = h.run.within;
      run = went_on journal (record { state = state_of p.bank s; ending = ending }) (Ended cause) (record { state = state_of p.bank s; ending = Some cause }) h.run.run (ended cause going may);
    };
  }

-- ---- whether the empty clause is kept

empty_parts : (xs ys : List ClauseTree) → HasEmptyClause (xs ++ ys) → HasEmptyClause xs ⊎ HasEmptyClause ys
empty_parts [] ys h = inr h
empty_parts (x ∷ xs) ys h = elim (empty_where x (xs ++ ys) h) [ inl e ↦ inl (record { number = zero; clause = x; stands = refl; empty = e }) | inr g ↦ elim (empty_parts xs ys g) [ inl k ↦ inl (empty_later x xs k) | inr k ↦ inr k ] ]

empty_back : (xs ys : List ClauseTree) → HasEmptyClause ys → HasEmptyClause (xs ++ ys)
empty_back [] ys h = h
empty_back (x ∷ xs) ys h = empty_later x (xs ++ ys) (empty_back xs ys h)

drop_front : {X : Type 0} (xs ys : List X) → drop (length xs) (xs ++ ys) ≡ ys
drop_front [] ys = refl
drop_front (x ∷ xs) ys = drop_front xs ys

map_length : {X Y : Type 0} (f : X → Y) (xs : List X) → length (map f xs) ≡ length xs
map_length f [] = refl
map_length f (x ∷ xs) = ap suc (map_length f xs)

pub refuted_now : (c d : Contents) (s t : Search) (r : Bool) → (IsRefuted (state_of c s) → ⊥) → (clauses : List ClauseTree) → kept_of d t ≡ kept_of c s ++ clauses
    → Decides r (HasEmptyClause (map (clause_at d) (drop (length s.kept) t.kept))) → IsTrue r ↔ IsRefuted (state_of d t)
refuted_now c d s t r none clauses grown decides =
    let n : length (kept_of c s) ≡ length s.kept = map_length (clause_at c) s.kept in
    let new : map (clause_at d) (drop (length s.kept) t.kept) ≡ clauses =
    sym (drop-map (clause_at d) (length s.kept) t.kept) ∙ ap (drop (length s.kept)) grown ∙ ap (λ m. drop m (kept_of c s ++ clauses)) (sym n) ∙ drop_front (kept_of c s) clauses in (
      λ e. subst HasEmptyClause (sym grown) (empty_back (kept_of c s) clauses (subst HasEmptyClause new (decides.0 e))),
      λ h. decides.1 (subst HasEmptyClause (sym new) (elim (empty_parts (kept_of c s) clauses (subst HasEmptyClause grown h)) [ inl k ↦ absurd (none k) | inr k ↦ k ])),
    )

-- ---- the fields of a book

pub not_refuted : (r : Bool) (s : State) → IsTrue r ↔ IsRefuted s → r ≡ false → IsRefuted s → ⊥
not_refuted r s h e f = let g = h.1 f in (let z : ⊥ = cc in z)

-- there is room for one more event while the run goes on
pub room_left : {b : Inside} → IsWhole b → b.ending ≡ None → vec_len b.journal < vec_capacity b.journal
room_left {b} h going =
    let n = (events_before_end h.book going).0 in
    let room = h.room in
    let count = b.journal.ok.0 in
    omega (arith, n, room, count)

module _ {b : Inside} (h : IsWhole b) {d : Contents} (e : Extends b.problem.bank d) {t : Search} where
  module _ (search : IsSearch d t) (same : t ≡ b.search) where
    pub whole_kept : IsWhole (record { problem = in_bank b.problem d; settings = b.settings; search = t; refuted = b.refuted; journal = b.journal; ending = b.ending })
    whole_kept = subst (λ (s : Search). IsWhole (record { problem = in_bank b.problem d; settings = b.settings; search = s; refuted = b.refuted; journal = b.journal; ending = b.ending })) (sym same) (record {
      book = book_kept h.book e (subst (λ (s : Search). IsSearch d s) same search);
      refuted = subst (λ (x : State). IsTrue b.refuted ↔ IsRefuted x) (sym (state_same e b.search h.book.search)) h.refuted;
      room = h.room;
    })

    pub book_unchanged : IsUnchanged (pages_of b) (pages (in_bank b.problem d) b.settings t b.journal.items b.ending)
    book_unchanged = subst (λ (s : Search). IsUnchanged (pages_of b) (pages (in_bank b.problem d) b.settings s b.journal.items b.ending)) (sym same) (is_unchanged h.book e)

-- whether the empty clause is kept after a turn before which it was not, where the clauses that came were looked through
pub refuted_after : (c d : Contents) (s t : Search) (r : Bool) {given kept : ℕ} → (IsRefuted (state_of c s) → ⊥)
    → ((symbols : ℕ) → symbols ≤ length c.symbols → IsTurn (setting_of symbols s) (state_of c s) (state_of d t) given kept)
    → (n : ℕ) (ks : List Clause) → n ≡ length s.kept → ks ≡ t.kept → ((b : Contents) → Decides r (HasEmptyClause (map (clause_at b) (drop n ks)))) → IsTrue r ↔ IsRefuted (state_of d t)
refuted_after c d s t r none turn n ks e f decides =
    let one = turn zero (omega arith) in
    let looked : Decides r (HasEmptyClause (map (clause_at d) (drop (length s.kept) t.kept))) = rw (← e, ← f) (decides d) in
    refuted_now c d s t r none one.clauses one.grown looked

pub on_err : {A E : Type 0} (r : Result A E) (P : Type 0) → P → OnErr r P
on_err (Ok a) P p = tt
on_err (Err e) P p = p

-- the same at the start, where all clauses were looked through
pub refuted_first : (d : Contents) (s : Search) (r : Bool) (ks : List Clause) → ks ≡ s.kept → ((b : Contents) → Decides r (HasEmptyClause (map (clause_at b) (drop zero ks)))) → IsTrue r ↔ IsRefuted (state_of d s)
refuted_first d s r ks f decides = subst (λ (js : List Clause). IsTrue r ↔ HasEmptyClause (map (clause_at d) js)) f (decides d)
