-- Paramodulations that are due can be worked.
use Rattle.std.proofs.Common.{ℕ, zero, suc, ◌≡◌, ◌∙◌, ◌+◌, ◌<◌, ◌||◌, Bool, true, false, List, [], ◌∷◌, ◌++◌, length, map, take, drop, slice_get, Some, refl, sym, ap, subst, arith}
use Rattle.std.specs.Prelude.{nat_eq}
use Rattle.std.proofs.lemmas.Bool.{eqb-true}
use Rattle.std.proofs.lemmas.List.{append_assoc, length-append}
use Rattle.leo_terms.specs.Contents.{Contents}
use Rattle.leo_clause.specs.declared.record.StepRecord.{StepRecord}
use Rattle.leo_clause.specs.Trees.{Literal, ClauseTree}
use Rattle.leo_kernel.specs.Conclusions.{with_literals, without}
use Rattle.leo_kernel.specs.Places.{replaced_in, shifted, shifted_literal}
use Rattle.leo_kernel.specs.Shapes.{other_side_of, side_of, unequal}
use Rattle.leo_kernel.specs.Steps.{Line, convert, line_at}
use Rattle.leo_clausify.specs.Leaves.{last_clause}
use Rattle.leo_clausify.specs.Origins.{Origin, IsClauseFrom, AreClausesFrom, AreLinesFrom}
use Rattle.leo_conclude.specs.Leaving.{AreConstraints, AreNumbersOf}
use Rattle.leo_para.specs.declared.member.Due.{Due}
use Rattle.leo_para.specs.Laws.{DueMembersAddNoBase, DueMembersAddNoSymbol}
use Rattle.leo_para.specs.Dues.{AreDue, Inference, inference_at, inference_of}
use Rattle.leo_para.specs.Members.{Member, due_members, member_line, solved_literal}
use Rattle.leo_turn.specs.Changing.{AreFirst}
use Rattle.leo_turn.specs.Turns.{Constrained, of_paramodulation}
use Rattle.leo_turn.specs.Working.{IsDueAt, constrained_at, no_clause}
use Rattle.leo_turn.proofs.Lacking.{clause-had, clause-without, literals-lack}
use Rattle.leo_turn.proofs.Origins.{clauses-from}
use Rattle.leo_turn.proofs.Lists.{get-last, get-made, get-map, get-within, length-map, map-fused, some-same}

taken-out : {X : Type 0} (xs : List X) (i : ℕ) → i < length xs → suc (length (take i xs ++ ([] ++ drop (suc i) xs))) ≡ length xs
taken-out [] i l = absurd (let f : ⊥ = omega arith in f)
taken-out (x ∷ xs) zero l = refl
taken-out (x ∷ xs) (suc i) l = ap suc (taken-out xs i (omega arith))

put-in : {X : Type 0} (xs : List X) (i : ℕ) (y : X) → i < length xs → length (take i xs ++ ((y ∷ []) ++ drop (suc i) xs)) ≡ length xs
put-in [] i y l = absurd (let f : ⊥ = omega arith in f)
put-in (x ∷ xs) zero y l = refl
put-in (x ∷ xs) (suc i) y l = ap suc (put-in xs i y (omega arith))

-- the last literal is an inequation
or-false : (b : Bool) → (b || false) ≡ true → b ≡ true
or-false true e = refl
or-false false e = e

module _ (literals front : List Literal) (last : Literal) (n : ℕ) (is : literals ≡ front ++ last ∷ []) (count : length front ≡ n) where
  last-at : slice_get literals n ≡ Some last
  last-at = subst (λ (ls : List Literal). slice_get ls n ≡ Some last) (sym is) (subst (λ m. slice_get (front ++ last ∷ []) m ≡ Some last) count (get-last front last))

  last-number : AreNumbersOf literals (n ∷ [])
  last-number = (get-within literals n last last-at, tt)

  last-constraint : last.positive ≡ false → AreConstraints literals (n ∷ [])
  last-constraint negative m l g test =
      let same : m ≡ n = eqb-true m n (or-false (nat_eq m n) test) in
      let e : last ≡ l = some-same last l (sym last-at ∙ subst (λ k. slice_get literals k ≡ Some l) same g) in
      sym (ap (λ (k : Literal). k.positive) e) ∙ negative

paramodulant-ends : (source target : ClauseTree) (m : Member) → m.literal < length source.literals → m.place < length target.literals → AreNumbersOf (member_line source target m).clause.literals (solved_literal source target ∷ []) × AreConstraints (member_line source target m).clause.literals (solved_literal source target ∷ [])
paramodulant-ends source target m p q =
    let n = length source.variables in
    let replaced : Literal = replaced_in m.place_side m.path (other_side_of m.side m.equation) (shifted_literal n m.target) in
    let moved : List Literal = map (shifted_literal n) target.literals in
    let last : Literal = unequal (side_of m.side m.equation) (shifted n m.term) in
    let kept : List Literal = without source.literals m.literal in
    let changed : List Literal = with_literals moved m.place (replaced ∷ []) in
    let many : length moved ≡ length target.literals = length-map (shifted_literal n) target.literals in
    let a : suc (length kept) ≡ length source.literals = taken-out source.literals m.literal p in
    let b : length changed ≡ length moved = put-in moved m.place replaced (subst (λ k. m.place < k) (sym many) q) in
    let d : length (kept ++ changed) ≡ length kept + length changed = length-append kept changed in
    let count : length (kept ++ changed) ≡ solved_literal source target = omega arith in
    let is : (member_line source target m).clause.literals ≡ (kept ++ changed) ++ last ∷ [] = sym (append_assoc kept changed (last ∷ [])) in
    (last-number (member_line source target m).clause.literals (kept ++ changed) last (solved_literal source target) is count, last-constraint (member_line source target m).clause.literals (kept ++ changed) last (solved_literal source target) is count refl)

-- what an inference over trees leads to
abbrev to_constrained : Inference → Constrained
to_constrained i = record { clause = last_clause no_clause i.lines; constraints = i.solved }

module _ (c : Contents) (source target : ClauseTree) (dues : List Due) (h : AreDue c source target dues) where
  pub paramodulations-read : map (constrained_at c) dues ≡ map (of_paramodulation source target) (due_members source target)
  paramodulations-read = sym (map-fused to_constrained (inference_at c) dues) ∙ ap (map to_constrained) h.listed ∙ map-fused to_constrained (inference_of source target) (due_members source target)

  module _ (n : ℕ) (d : Due) (g : slice_get dues n ≡ Some d) where
    found : (m : Member) × ((slice_get (due_members source target) n ≡ Some m) × (inference_of source target m ≡ inference_at c d))
    found = get-made (inference_of source target) (due_members source target) n (inference_at c d) (subst (λ (is : List Inference). slice_get is n ≡ Some (inference_at c d)) h.listed (get-map (inference_at c) dues n d g))

    lines-are : map (line_at c) d.records ≡ member_line source target (found.0) ∷ []
    lines-are = sym (ap (λ (i : Inference). i.lines) found.1.1)

    pairs-are : d.pairs ≡ solved_literal source target ∷ []
    pairs-are = sym (ap (λ (i : Inference). i.solved) found.1.1)

    some-there : 0 < length d.records
    some-there = (let e : length d.records ≡ 1 = sym (length-map (line_at c) d.records) ∙ ap length lines-are in omega arith)

    clause-is : (constrained_at c d).clause ≡ (member_line source target found.0).clause
    clause-is = ap (last_clause no_clause) lines-are

    parts : AreNumbersOf (member_line source target found.0).clause.literals (solved_literal source target ∷ []) × AreConstraints (member_line source target found.0).clause.literals (solved_literal source target ∷ [])
    parts =
        let get : slice_get (map (line_at c) d.records) 0 ≡ Some (member_line source target found.0) = ap (λ (ls : List Line). slice_get ls 0) lines-are in
        let p = ((h.each n d g).accepted (convert 0) (convert 0) 0 (member_line source target found.0) get).literals in
        paramodulant-ends source target found.0 p.0 p.1

    paramodulation-from : DueMembersAddNoSymbol → DueMembersAddNoBase → (o : Origin) → IsClauseFrom o source → IsClauseFrom o target → AreLinesFrom o (map (line_at c) d.records)
    paramodulation-from no_symbol no_base o from into =
        let clause : IsClauseFrom o (member_line source target found.0).clause = clause-had o (member_line source target found.0).clause
        (λ s none. no_symbol source target s (literals-lack o s none source.literals from.1) (literals-lack o s none target.literals into.1) n found.0 found.1.0)
        (λ b none. no_base source target b (clause-without o b none source from) (clause-without o b none target into) n found.0 found.1.0) in
        subst (AreLinesFrom o) (sym lines-are) ((clause, tt), tt)

    pub paramodulation-due : DueMembersAddNoSymbol → DueMembersAddNoBase → (lines : List StepRecord) (first : List ℕ) → AreFirst (map (line_at c) lines) first [] (source ∷ target ∷ []) → IsDueAt c lines first d
    paramodulation-due no_symbol no_base lines first f = record {
      ready = record {
        choices = [];
        clauses = source ∷ target ∷ [];
        some = omega arith;
        first = f;
        steps = (h.each n d g).steps;
        accepted = λ rule. (h.each n d g).accepted rule rule;
      };
      origin = λ o z from. (let clauses : AreClausesFrom o (source ∷ target ∷ []) = clauses-from o (map (line_at c) lines) f.parents (source ∷ target ∷ []) from f.clause_lines in paramodulation-from no_symbol no_base o clauses.0 clauses.1.0);
      some = some-there;
      numbers = subst (λ (k : ClauseTree). AreNumbersOf k.literals d.pairs) (sym clause-is) (subst (AreNumbersOf (member_line source target found.0).clause.literals) (sym pairs-are) parts.0);
      constraints = subst (λ (k : ClauseTree). AreConstraints k.literals d.pairs) (sym clause-is) (subst (AreConstraints (member_line source target found.0).clause.literals) (sym pairs-are) parts.1);
    }
