-- The lines of a run that was won are a refutation.
use Rattle.std.proofs.Common.{ℕ, zero, suc, ◌≡◌, ◌∙◌, ◌+◌, ◌<◌, ◌≤◌, inl, inr, List, [], ◌∷◌, length, map, drop, slice_get, Some, refl, sym, ap, subst, arith}
use Rattle.std.specs.Prelude.{slice_index_or}
use Rattle.leo_q0.specs.Connectives.{false_term}
use Rattle.leo_q0.specs.Derivations.{Derives}
use Rattle.leo_terms.specs.Tree.{Tree}
use Rattle.leo_terms.specs.Contents.{Contents, IsBank, tree_at}
use Rattle.leo_clause.specs.declared.clause.Clause.{Clause}
use Rattle.leo_clause.specs.declared.clause.Lit.{Lit}
use Rattle.leo_clause.specs.declared.record.StepRecord.{StepRecord}
use Rattle.leo_clause.specs.Trees.{ClauseTree, clause_at, literal_at}
use Rattle.leo_kernel.specs.Acceptance.{AreAccepted}
use Rattle.leo_kernel.specs.Records.{AreStepsOf}
use Rattle.leo_kernel.specs.Steps.{Line, line_at}
use Rattle.leo_problem.specs.declared.loaded.Hyp.{Hyp}
use Rattle.leo_problem.specs.Loading.{theory_of}
use Rattle.leo_simulation.specs.Laws.{RefutationsDeriveFalsity, BankLinesAreProper}
use Rattle.leo_derive.specs.Laws.{HasEmptyLine}
use Rattle.leo_derive.specs.Verdicts.{IsRefutation, hypotheses_of}
use Rattle.leo_derive.proofs.Falsity.{falsity_derived}
use Rattle.leo_turn.specs.Origins.{AreFrom}
use Rattle.leo_turn.specs.Searches.{HasClause, HaveClauses}
use Rattle.leo_core.specs.declared.event.Cause.TheVariants.{Won}
use Rattle.leo_core.specs.Machine.{HasEmptyClause, IsRefuted}
use Rattle.leo_core.specs.Books.{Pages, IsBook, lines_of, setting_with, standing_of}
use Rattle.leo_core.proofs.Runs.{endings_are_right, empty_none, empty_where}
use Rattle.leo_core.proofs.Books.{terms_at}

-- the line of a clause
line_of : (lines : List Line) (ns : List ℕ) (ks : List ClauseTree) → HaveClauses lines ns ks → (n : ℕ) (k : ClauseTree) → slice_get ks n ≡ Some k → (m : ℕ) × HasClause lines m k
line_of lines [] [] h n k e = (let z : ⊥ = cc in absurd z)
line_of lines [] (j ∷ ks) h n k e = absurd h
line_of lines (m ∷ ns) [] h n k e = absurd h
line_of lines (m ∷ ns) (j ∷ ks) h zero k e = let f : j ≡ k = cc in (m, subst (HasClause lines m) f h.0)
line_of lines (m ∷ ns) (j ∷ ks) h (suc n) k e = line_of lines ns ks h.1 n k e

empty_line : (lines : List Line) (ns : List ℕ) (ks : List ClauseTree) → HaveClauses lines ns ks → HasEmptyClause ks → HasEmptyLine lines
empty_line lines ns ks h e =
    let l = line_of lines ns ks h e.number e.clause e.stands in
    record { number = l.0; line = l.1.line; line_is = l.1.stands; empty = ap (λ (k : ClauseTree). k.literals) l.1.clause_is ∙ e.empty }

module _ {p : Pages} (h : IsBook p) where
  accepted : AreAccepted (hypotheses_of p.problem) (lines_of p)
  accepted = subst (λ (ts : List Tree). AreAccepted ts (lines_of p)) (ap (map (tree_at p.problem.bank)) h.fixed.hyps_are ∙ terms_at p.problem.bank p.problem.hyps) h.search.accepted

  pub book_from : AreFrom (hypotheses_of p.problem) (lines_of p)
  book_from = subst (λ (ts : List Tree). AreFrom ts (lines_of p)) (ap (map (tree_at p.problem.bank)) h.fixed.hyps_are ∙ terms_at p.problem.bank p.problem.hyps) h.search.origin

  is_refuted : p.ending ≡ Some Won → IsRefuted (standing_of p).state
  is_refuted e = endings_are_right (setting_with h.run.symbols p.settings) p.settings.turns (hypotheses_of p.problem) p.journal (standing_of p) h.run.run Won e

  pub book_refutes : p.ending ≡ Some Won → IsRefutation (hypotheses_of p.problem) (lines_of p)
  book_refutes e = (accepted, empty_line (lines_of p) p.search.at (map (clause_at p.problem.bank) p.search.kept) h.search.clause_lines (is_refuted e))

  pub falsity : IsBank p.problem.bank → RefutationsDeriveFalsity → BankLinesAreProper → (steps : List StepRecord) → AreStepsOf p.problem.bank steps → IsRefutation (hypotheses_of p.problem) (map (line_at p.problem.bank) steps)
      → Derives (map (λ h. h.formula) (theory_of p.problem).hypotheses) false_term
  falsity b sound proper steps s r = falsity_derived p.problem.bank p.problem.hyps (map (λ (x : Hyp). x.term) p.problem.hyps) refl sound proper steps b h.problem.closed s
      (subst (λ (ts : List Tree). IsRefutation ts (map (line_at p.problem.bank) steps)) (sym (terms_at p.problem.bank p.problem.hyps)) r)

-- ---- looking for the empty clause

no_lits : (c : Contents) (ls : List Lit) → map (literal_at c) ls ≡ [] → ls ≡ []
no_lits c [] e = refl
no_lits c (l ∷ ls) e = (let z : ⊥ = cc in absurd z)

drop_at : {X : Type 0} (xs : List X) (i : ℕ) (x : X) → i < length xs → x ≡ slice_index_or xs i x → drop i xs ≡ x ∷ drop (i + 1) xs
drop_at [] i x l e = (let z : ⊥ = omega arith in absurd z)
drop_at (y ∷ xs) zero x l e = let f : x ≡ y = e in rw f refl
drop_at (y ∷ xs) (suc i) x l e = (let f : suc i + 1 ≡ suc (i + 1) = omega arith in rw f (drop_at xs i x (omega arith) e))

drop_end : {X : Type 0} (xs : List X) (i : ℕ) → length xs ≤ i → drop i xs ≡ []
drop_end [] zero l = refl
drop_end [] (suc i) l = refl
drop_end (x ∷ xs) zero l = (let z : ⊥ = omega arith in absurd z)
drop_end (x ∷ xs) (suc i) l = drop_end xs i (omega arith)

-- an empty clause among those from one number on stands among those from a later one on, if any does
abbrev pub Remains : List Clause → ℕ → ℕ → Type 0
Remains ks from n = (c : Contents) → HasEmptyClause (map (clause_at c) (drop from ks)) → HasEmptyClause (map (clause_at c) (drop n ks))

pub remains_first : (ks : List Clause) (from : ℕ) → Remains ks from from
remains_first ks from c h = h

pub remains_next : (ks : List Clause) (from n : ℕ) (k : Clause) → n < length ks → k ≡ slice_index_or ks n k → (k.lits ≡ [] → ⊥) → Remains ks from n → Remains ks from (n + 1)
remains_next ks from n k l e f r c h =
    let g : HasEmptyClause (clause_at c k ∷ map (clause_at c) (drop (n + 1) ks)) = subst (λ (js : List Clause). HasEmptyClause (map (clause_at c) js)) (drop_at ks n k l e) (r c h) in
    elim (empty_where (clause_at c k) (map (clause_at c) (drop (n + 1) ks)) g) [ inl z ↦ absurd (f (no_lits c k.lits z)) | inr y ↦ y ]

pub remains_none : (ks : List Clause) (from n : ℕ) → length ks ≤ n → Remains ks from n → (c : Contents) → HasEmptyClause (map (clause_at c) (drop from ks)) → ⊥
remains_none ks from n l r c h = empty_none (subst (λ (js : List Clause). HasEmptyClause (map (clause_at c) js)) (drop_end ks n l) (r c h))

pub found_at : (ks : List Clause) (from n : ℕ) (k : Clause) → from ≤ n → n < length ks → k ≡ slice_index_or ks n k → k.lits ≡ [] → (c : Contents) → HasEmptyClause (map (clause_at c) (drop from ks))
found_at [] from n k m l e f c = (let z : ⊥ = omega arith in absurd z)
found_at (j ∷ ks) zero zero k m l e f c = let g : k ≡ j = e in record { number = zero; clause = clause_at c j; stands = refl; empty = ap (map (literal_at c)) (ap (λ (x : Clause). x.lits) (sym g) ∙ f) }
found_at (j ∷ ks) zero (suc n) k m l e f c = let r = found_at ks zero n k (omega arith) (omega arith) e f c in record { number = suc r.number; clause = r.clause; stands = r.stands; empty = r.empty }
found_at (j ∷ ks) (suc from) zero k m l e f c = (let z : ⊥ = omega arith in absurd z)
found_at (j ∷ ks) (suc from) (suc n) k m l e f c = found_at ks from n k (omega arith) (omega arith) e f c
