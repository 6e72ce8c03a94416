-- The lines of a refutation replay.
use Rattle.std.proofs.Common.{ℕ, zero, suc, ◌≡◌, ◌+◌, ◌<◌, ◌≤◌, inl, inr, List, [], ◌∷◌, ◌++◌, length, drop, Some, refl, sym, ap, subst, ◌∙◌, append_assoc, length-append, arith}
use Rattle.std.specs.Prelude.{slice_index}
use Rattle.std.specs.List.{slice_get}
use Rattle.std.proofs.lemmas.List.{append-nil}
use Rattle.std.proofs.Math.ListN.{get_or-append}
use Rattle.fo_terms.specs.Terms.{Terms}
use Rattle.fo_text.specs.declared.problem.FoClause.{FoClause}
use Rattle.fo_text.specs.declared.problem.FoSym.{FoSym}
use Rattle.fo_text.specs.declared.problem.FoProblem.{FoProblem}
use Rattle.fo_text.specs.declared.answer.FoStep.{FoStep}
use Rattle.fo_super.specs.Members.{Member, resolve, factor, superpose}
use Rattle.fo_super.specs.Conclusions.{line_count, lines}
use Rattle.fo_super.specs.Turns.{concluded, Search}
use Rattle.fo_super.specs.Replaying.{ReplayInTurn, no_steps, one_step}
use Rattle.fo_prove.specs.Refutations.{RestsOn}
use Rattle.fo_prove.proofs.Closing.{or_more}

pub replay_more : {sorts : ℕ} {syms : List FoSym} {all : List FoClause} {one : List FoStep} {cs : List FoClause} (other : List FoStep) (ds : List FoClause) →
    ReplayInTurn sorts syms all one cs → ReplayInTurn sorts syms (all ++ cs) other ds → ReplayInTurn sorts syms all (one ++ other) (cs ++ ds)
replay_more {sorts} {syms} {all} other ds no_steps r = subst (λ q. ReplayInTurn sorts syms q other ds) (append-nil all) r
replay_more {sorts} {syms} {all} other ds (one_step {cs = cs} {c = c} s rest) r =
    one_step s (replay_more other ds rest (subst (λ q. ReplayInTurn sorts syms q other ds) (sym (append_assoc all (c ∷ []) cs)) r))

pub replay_length : {sorts : ℕ} {syms : List FoSym} {all : List FoClause} {steps : List FoStep} {cs : List FoClause} → ReplayInTurn sorts syms all steps cs → length cs ≡ length steps
replay_length no_steps = refl
replay_length (one_step s rest) = ap suc (replay_length rest)

pub lines_length : (line literals : ℕ → ℕ) (n : ℕ) (m : Member) (vars : List ℕ) (terms : Terms) → length (lines line literals n m vars terms) ≡ line_count m
lines_length line literals n (resolve a i) vars terms = refl
lines_length line literals n (factor a i s j r) vars terms = refl
lines_length line literals n (superpose a i s d j r path) vars terms = refl

index_end : (xs : List ℕ) (x : ℕ) → slice_index (xs ++ x ∷ []) (length xs) ≡ x
index_end [] x = refl
index_end (y ∷ ys) x = index_end ys x

pub at_front : {X : Type 0} (xs ys : List X) (k : ℕ) (x : X) → slice_get xs k ≡ Some x → slice_get (xs ++ ys) k ≡ Some x
at_front [] ys k x e = absurd cc
at_front (y ∷ xs) ys zero x e = e
at_front (y ∷ xs) ys (suc k) x e = at_front xs ys k x e

pub at_back : {X : Type 0} (xs ys : List X) (k : ℕ) → slice_get (xs ++ ys) (length xs + k) ≡ slice_get ys k
at_back [] ys k = (let e : 0 + k ≡ k = omega arith in ap (slice_get ys) e)
at_back (x ∷ xs) ys k = (let e : suc (length xs) + k ≡ suc (length xs + k) = omega arith in ap (slice_get (x ∷ (xs ++ ys))) e ∙ at_back xs ys k)

pub drop_next : {X : Type 0} (x : X) (os xs : List X) (n : ℕ) → x ∷ os ≡ drop n xs → (slice_get xs n ≡ Some x) × (os ≡ drop (suc n) xs)
drop_next x os [] zero e = absurd cc
drop_next x os [] (suc n) e = absurd cc
drop_next x os (y ∷ ys) zero e = (let h : x ≡ y = cc in let t : os ≡ ys = cc in (ap Some (sym h), t))
drop_next x os (y ∷ ys) (suc n) e = drop_next x os ys n e

abbrev pub Placed : (ℕ → Type 0) → List FoClause → List FoClause → List ℕ → Type 0
Placed N cs all last = (k : ℕ) (d : FoClause) → k < length last → N k → slice_get cs k ≡ Some d → slice_get all (slice_index last k) ≡ Some d

pub placed_more : (N : ℕ → Type 0) (cs all more : List FoClause) (last : List ℕ) (x : ℕ) → Placed N cs all last → ((k : ℕ) (d : FoClause) → slice_get all k ≡ Some d → slice_get more k ≡ Some d) →
    ((d : FoClause) → N (length last) → slice_get cs (length last) ≡ Some d → slice_get more x ≡ Some d) → Placed N cs more (last ++ x ∷ [])
placed_more N cs all more last x placed grow new k d less needed stands =
    let len = length-append last (x ∷ []) in
    elim (or_more k (length last) (omega (arith, less, len))) [
      | inl e ↦ (let i : slice_index (last ++ x ∷ []) k ≡ x = subst (λ j. slice_index (last ++ x ∷ []) j ≡ x) e (index_end last x) in
          subst (λ j. slice_get more j ≡ Some d) (sym i) (new d (subst N (sym e) needed) (subst (λ j. slice_get cs j ≡ Some d) (sym e) stands)))
      | inr h ↦ (let i : slice_index (last ++ x ∷ []) k ≡ slice_index last k = get_or-append last (x ∷ []) 0 k h in
          subst (λ j. slice_get more j ≡ Some d) (sym i) (grow (slice_index last k) d (placed k d h needed stands)))
    ]

-- the lines from a clause on replay, and each clause whose lines they are is among theirs
pub record IsDone (p : FoProblem) (s : Search) (e : ℕ) (all : List FoClause) (last : List ℕ) (steps : List FoStep) : Type 0 where
  pub clauses : List FoClause
  pub replay : ReplayInTurn p.sorts p.syms all steps clauses
  pub found : (k : ℕ) (c : FoClause) (m : Member) (vars : List ℕ) (terms : Terms) → length last ≤ k → RestsOn s.origins e k → slice_get s.origins k ≡ Some (concluded m vars terms) → slice_get s.clauses k ≡ Some c →
      (j : ℕ) × (slice_get clauses j ≡ Some c)

pub behind_one : (p : FoProblem) (s : Search) (e : ℕ) (all : List FoClause) (last : List ℕ) (x : ℕ) (steps : List FoStep) → IsDone p s e all (last ++ x ∷ []) steps →
    ((m : Member) (vars : List ℕ) (terms : Terms) → RestsOn s.origins e (length last) → slice_get s.origins (length last) ≡ Some (concluded m vars terms) → ⊥) → IsDone p s e all last steps
behind_one p s e all last x steps done none = record {
  clauses = done.clauses;
  replay = done.replay;
  found = λ k c m vars terms le needed at stands. (elim (or_more (length last) k le) [
    | inl q ↦ absurd (none m vars terms (subst (λ j. RestsOn s.origins e j) q needed) (subst (λ j. slice_get s.origins j ≡ Some (concluded m vars terms)) q at))
    | inr h ↦ (let len = length-append last (x ∷ []) in done.found k c m vars terms (omega (arith, h, len)) needed at stands)
  ]);
}
