-- Each refutation that is answered replays.
use Rattle.std.proofs.Common.{ℕ, zero, suc, ◌≡◌, ◌+◌, ◌-◌, ◌<◌, inl, inr, List, [], ◌∷◌, ◌++◌, length, map, take, drop, Some, refl, sym, ap, subst, ◌∙◌, length-append, arith}
use Rattle.std.specs.Prelude.{slice_index}
use Rattle.std.specs.List.{slice_get, AllByRecursion}
use Rattle.std.proofs.lemmas.List.{length-drop}
use Rattle.std.proofs.lemmas.Option.{slice_get_within}
use Rattle.fo_terms.specs.Terms.{variable}
use Rattle.fo_text.specs.declared.problem.FoClause.{FoClause}
use Rattle.fo_text.specs.declared.problem.FoSym.{FoSym}
use Rattle.fo_text.specs.declared.problem.FoProblem.{FoProblem}
use Rattle.fo_text.specs.declared.answer.FoAnswer.{FoAnswer}
use Rattle.fo_text.specs.declared.answer.FoStep.{FoStep}
use Rattle.fo_text.specs.declared.answer.FoStep.TheVariants.{Inst}
use Rattle.fo_text.specs.declared.answer.FoEnd.TheVariants.{Refuted}
use Rattle.fo_text.specs.Problems.{IsLiteral, IsProblem, IsClause, HaveSorts}
use Rattle.fo_replay.specs.Replays.{Replays, IsLight, instance_words, applied_literal, images}
use Rattle.fo_super.specs.Conclusions.{images_from, line_count, lines}
use Rattle.fo_super.specs.Outcomes.{IsLeast}
use Rattle.fo_super.specs.Turns.{Origin, given, concluded, Search}
use Rattle.fo_super.specs.Replaying.{ReplayInTurn, no_steps, one_step, MembersReplay, MembersSort}
use Rattle.fo_prove.specs.Refutations.{AreLines, no_more, of_text, left_out, written, RestsOn, itself, on_parent, IsParent, literals_of, IsRefutation, own_variables}
use Rattle.fo_prove.specs.Refutations as refutation
use Rattle.fo_prove.specs.Derived.{Derived}
use Rattle.fo_prove.specs.Answers.{IsEmptyClause, IsEnding, without_room, spent, too_long, refuted}
use Rattle.fo_prove.specs.Replayed.{IsReplayed, RefutationsReplay}
use Rattle.fo_prove.proofs.Closing.{or_more}
use Rattle.fo_prove.proofs.Deriving.{counted, run_derived}
use Rattle.fo_prove.proofs.Origins.{comes, names_sorted, sorted, get_take, literals_at, stand_on, all_at}
use Rattle.fo_prove.proofs.Replaying.{replay_more, replay_length, lines_length, at_front, at_back, drop_next, Placed, placed_more, IsDone, behind_one}

there : {X : Type 0} (n : ℕ) (xs : List X) → n < length xs → (x : X) × (slice_get xs n ≡ Some x)
there n [] less = absurd (omega (arith, less))
there zero (x ∷ xs) less = (x, refl)
there (suc n) (x ∷ xs) less = there n xs (omega (arith, less))

next_drop : (os origins : List Origin) (last : List ℕ) (x : ℕ) → os ≡ drop (suc (length last)) origins → os ≡ drop (length (last ++ x ∷ [])) origins
next_drop os origins last x e =
    let len : length (last ++ x ∷ []) ≡ suc (length last) = length-append last (x ∷ []) ∙ (omega arith) in
    subst (λ n. os ≡ drop n origins) (sym len) e

last_of_lines : (all before : List FoClause) (i c : FoClause) (next count place : ℕ) → next ≡ length all → length (before ++ i ∷ c ∷ []) ≡ count → place ≡ next + count - 1 → slice_get (all ++ (before ++ i ∷ c ∷ [])) place ≡ Some c
last_of_lines all before i c next count place e f g =
    let len = length-append before (i ∷ c ∷ []) in
    let p : place ≡ length all + (length before + 1) = omega (arith, e, f, g, len) in
    subst (λ k. slice_get (all ++ (before ++ i ∷ c ∷ [])) k ≡ Some c) (sym p) (at_back all (before ++ i ∷ c ∷ []) (length before + 1) ∙ at_back before (i ∷ c ∷ []) 1)

pub lines_replay : (members : MembersReplay) (p : FoProblem) (s : Search) (e : ℕ) → Derived p s.clauses s.origins → ((n : ℕ) (c : FoClause) → slice_get s.clauses n ≡ Some c → AllByRecursion (IsLiteral c.vars p.syms) c.lits) →
    {next : ℕ} {last : List ℕ} {os : List Origin} {steps : List FoStep} → AreLines (RestsOn s.origins e) (literals_of s.clauses) next last os steps →
    (all : List FoClause) → next ≡ length all → os ≡ drop (length last) s.origins → Placed (RestsOn s.origins e) s.clauses all last →
    ((k : ℕ) (d : FoClause) → slice_get p.clauses k ≡ Some d → slice_get all k ≡ Some d) → IsDone p s e all last steps
lines_replay members p s e derived fit {next} {last} no_more all counts rest placed text = record {
  clauses = [];
  replay = no_steps;
  found = λ k c m vars terms le needed at stands.
      (let w = slice_get_within s.origins k (concluded m vars terms) at in let l = ap length rest ∙ length-drop (length last) s.origins in absurd (omega (arith, w, l, le)));
}
lines_replay members p s e derived fit {next} {last} {steps} (of_text {os = os} ls) all counts rest placed text =
    let n = drop_next given os s.origins (length last) rest in
    let more = placed_more (RestsOn s.origins e) s.clauses all all last (length last) placed (λ k d h. h) (λ d needed stands. text (length last) d (comes derived (length last) given d n.0 stands)) in
    let done = lines_replay members p s e derived fit ls all counts (next_drop os s.origins last (length last) n.1) more text in
    behind_one p s e all last (length last) steps done (λ m vars terms needed at. (let h : slice_get s.origins (length last) ≡ Some given = n.0 in cc))
lines_replay members p s e derived fit {next} {last} {steps} (left_out {os = os} {m = m} {vars = vars} {terms = terms} none ls) all counts rest placed text =
    let n = drop_next (concluded m vars terms) os s.origins (length last) rest in
    let more = placed_more (RestsOn s.origins e) s.clauses all all last 0 placed (λ k d h. h) (λ d needed stands. absurd (none needed)) in
    let done = lines_replay members p s e derived fit ls all counts (next_drop os s.origins last 0 n.1) more text in
    behind_one p s e all last 0 steps done (λ m vars terms needed at. none needed)
lines_replay members p s e derived fit {next} {last} (written {os = os} {steps = others} {m = m} {vars = vars} {terms = terms} needed ls) all counts rest placed text =
    let n = drop_next (concluded m vars terms) os s.origins (length last) rest in
    let size = length last in
    let inside : size < length s.clauses = (let w = slice_get_within s.origins size (concluded m vars terms) n.0 in let same = counted derived in omega (arith, w, same)) in
    let here = there size s.clauses inside in
    let c = here.0 in
    let due = comes derived size (concluded m vars terms) c n.0 here.1 in
    let front = take size s.clauses in
    let parents : (k : ℕ) (x : FoClause) → IsParent (concluded m vars terms) k → slice_get front k ≡ Some x → (slice_get all (slice_index last k) ≡ Some x) × (literals_of s.clauses k ≡ length x.lits) =
    λ k x par h. (let g = get_take size s.clauses k x h in (placed k x g.1 (on_parent needed n.0 par) g.0, literals_at s.clauses k x g.0)) in
    let r = members p.sorts p.syms front all (slice_index last) (literals_of s.clauses) m vars terms due.0 c (names_sorted p.syms front m (λ a x h. fit a x (get_take size s.clauses a x h).0))
    (stand_on (slice_index last) (literals_of s.clauses) front all m vars terms parents) due.1 in
    let ours = r.0 ++ due.0 ∷ c ∷ [] in
    let len : length ours ≡ line_count m = replay_length r.1 ∙ lines_length (slice_index last) (literals_of s.clauses) (length all) m vars terms in
    let end : slice_get (all ++ ours) (next + line_count m - 1) ≡ Some c = last_of_lines all r.0 due.0 c next (line_count m) (next + line_count m - 1) counts len refl in
    let one : (d : FoClause) → slice_get s.clauses size ≡ Some d → d ≡ c = λ d h. (let g : slice_get s.clauses size ≡ Some c = here.1 in cc) in
    let more = placed_more (RestsOn s.origins e) s.clauses all (all ++ ours) last (next + line_count m - 1) placed (λ k d h. at_front all ours k d h)
    (λ d need stands. subst (λ z. slice_get (all ++ ours) (next + line_count m - 1) ≡ Some z) (sym (one d stands)) end) in
    let grown : next + line_count m ≡ length (all ++ ours) = (let l = length-append all ours in omega (arith, l, counts, len)) in
    let done = lines_replay members p s e derived fit ls (all ++ ours) grown (next_drop os s.origins last (next + line_count m - 1) n.1) more (λ k d h. at_front all ours k d (text k d h)) in
    let mine : ReplayInTurn p.sorts p.syms all (lines (slice_index last) (literals_of s.clauses) next m vars terms) ours =
    subst (λ z. ReplayInTurn p.sorts p.syms all (lines (slice_index last) (literals_of s.clauses) z m vars terms) ours) (sym counts) r.1 in
    record {
      clauses = ours ++ done.clauses;
      replay = replay_more others done.clauses mine done.replay;
      found = λ k d m' vars' terms' le need at stands. (elim (or_more size k le) [
        | inl q ↦ (
            let same : d ≡ c = one d (subst (λ j. slice_get s.clauses j ≡ Some d) q stands) in
            (length r.0 + 1, subst (λ z. slice_get (ours ++ done.clauses) (length r.0 + 1) ≡ Some z) (sym same) (at_front ours done.clauses (length r.0 + 1) c (at_back r.0 (due.0 ∷ c ∷ []) 1))))
        | inr h ↦ (
            let l = length-append last ((next + line_count m - 1) ∷ []) in
            let g = done.found k d m' vars' terms' (omega (arith, h, l)) need at stands in
            (length ours + g.0, at_back ours done.clauses g.0 ∙ g.1))
      ]);
    }

own_typed : (vars : List ℕ) (syms : List FoSym) (k : ℕ) (rest : List ℕ) → rest ≡ drop k vars → HaveSorts vars syms (images_from (λ v. variable v) k (length rest)) rest
own_typed vars syms k [] e = tt
own_typed vars syms k (s ∷ ss) e = (let n = drop_next s ss vars k e in (n.0, own_typed vars syms (suc k) ss n.1))

text_replays : (p : FoProblem) (e : ℕ) (clause : FoClause) → IsProblem p → slice_get p.clauses e ≡ Some clause → IsEmptyClause clause →
    IsReplayed p (Inst e (instance_words clause.vars (own_variables (length clause.vars))) ∷ [])
text_replays p e clause is at none =
    let is_clause = all_at (IsClause p.sorts p.syms) p.clauses e clause is.clauses at in
    let terms = own_variables (length clause.vars) in
    let given_one : FoClause = record { vars = clause.vars; lits = map (applied_literal (images terms)) clause.lits } in
    let no_lits : given_one.lits ≡ [] = ap (map (applied_literal (images terms))) none in
    let light : IsLight given_one = rw none (record { literals = omega arith; weight = omega arith }) in
    let step : Replays p.sorts p.syms p.clauses (Inst e (instance_words clause.vars terms)) given_one = record {
      gives = record { clause = clause; vars = clause.vars; terms = terms; clause_at = at; words_are = refl; sorts_exist = is_clause.vars; typed = own_typed clause.vars p.syms 0 clause.vars refl; is = refl };
      light = light;
    } in
    record { clauses = given_one ∷ []; replay = one_step step no_steps; place = 0; empty = given_one; stands = refl; is_empty = no_lits }

ending_of : {p : FoProblem} {s : Search} {a : FoAnswer} → IsEnding p s a → (steps : List FoStep) → a.end ≡ Refuted steps → (e : ℕ) × IsLeast IsEmptyClause s.clauses e × IsRefutation p s e steps
ending_of (without_room none) steps h = absurd cc
ending_of (spent room none over) steps h = absurd cc
ending_of (too_long room least r long) steps h = absurd cc
ending_of {p} {s} (refuted {e = e} {steps = others} room least r short) steps h = (let q : others ≡ steps = cc in (e, least, subst (λ z. IsRefutation p s e z) q r))

pub refutations_replay : MembersReplay → MembersSort → RefutationsReplay
refutations_replay members sorts p beats steps is run =
    let s = run.last in
    let derived = run_derived run.run in
    let w = ending_of run.ending steps refl in
    go s derived w.0 steps w.1 w.2
  where
    go : (s : Search) → Derived p s.clauses s.origins → (e : ℕ) (steps : List FoStep) → IsLeast IsEmptyClause s.clauses e → IsRefutation p s e steps → IsReplayed p steps
    go s derived e steps least (refutation.of_text clause at stands) =
        let same : clause ≡ least.clause = (let a : slice_get s.clauses e ≡ Some clause = stands in let b : slice_get s.clauses e ≡ Some least.clause = least.stands in cc) in
        text_replays p e clause is (comes derived e given clause at stands) (subst (λ z. IsEmptyClause z) (sym same) least.holds)
    go s derived e steps least (refutation.of_lines m vars terms at ls) =
        let done = lines_replay members p s e derived (sorted sorts is derived) ls p.clauses refl refl (λ k d less need stands. absurd (omega (arith, less))) (λ k d h. h) in
        let found = done.found e least.clause m vars terms (omega arith) itself at least.stands in
        record { clauses = done.clauses; replay = done.replay; place = found.0; empty = least.clause; stands = found.1; is_empty = least.holds }
