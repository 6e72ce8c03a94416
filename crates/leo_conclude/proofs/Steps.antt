-- Records that are accepted one after the other.
use Rattle.std.proofs.Common.{ℕ, zero, suc, ◌≡◌, ◌∙◌, ◌<◌, List, [], ◌∷◌, ◌++◌, length, map, take, true, slice_get, Some, refl, sym, ap, subst, append_assoc, arith}
use Rattle.std.proofs.lemmas.List.{map-append}
use Rattle.leo_terms.specs.Contents.{Contents}
use Rattle.leo_clause.specs.declared.clause.Clause.{Clause}
use Rattle.leo_clause.specs.declared.record.Rule.{Rule}
use Rattle.leo_clause.specs.declared.record.StepRecord.{StepRecord}
use Rattle.leo_clause.specs.Trees.{Literal, ClauseTree, clause_at}
use Rattle.leo_clause.specs.Typed.{AreTyped, IsTyped, IsTypedIn}
use Rattle.leo_kernel.specs.Acceptance.{Accepts, AreAcceptedAfter}
use Rattle.leo_kernel.specs.Conclusions.{Decomposes, with_new}
use Rattle.leo_kernel.specs.Conditions.{HaveOneHeadType}
use Rattle.leo_kernel.specs.Records.{AreTermsOfRule, AreStepsOf, IsStepOf}
use Rattle.leo_kernel.specs.Steps.{StepRule, Line, clause_of, line_at, rule_at, decompose, literal_of}
use Rattle.leo_clausify.specs.Leaves.{last_clause}
use Rattle.leo_clausify.specs.Moves.{HaveChoices}
use Rattle.leo_clausify.proofs.Following.{there, literal-there, literal-within}
use Rattle.leo_clausify.proofs.Placing.{no-fresh, typed-placed}
use Rattle.leo_unify.specs.Origins.{Origin}
use Rattle.leo_conclude.specs.Origins.{AreLinesFrom, IsClauseFrom, IsRuleFrom}
use Rattle.leo_conclude.proofs.Origins.{lines-append}
use Rattle.leo_conclude.specs.declared.derived.Derived.{Derived}
use Rattle.leo_conclude.specs.Deriving.{IsDerived}

-- one line more
accepted-more : (first ls : List Line) (l : Line) → AreAcceptedAfter first ls → Accepts [] (first ++ ls) l → AreAcceptedAfter first (ls ++ l ∷ [])
accepted-more first [] l h a zero step e = let f : l ≡ step = cc in subst (Accepts [] (first ++ [])) f a
accepted-more first [] l h a (suc n) step e = absurd (cc)
accepted-more first (k ∷ ls) l h a zero step e = h zero step e
accepted-more first (k ∷ ls) l h a (suc n) step e =
    let next : AreAcceptedAfter (first ++ k ∷ []) ls = λ m s f. rw (append_assoc first (k ∷ []) (take m ls)) (h (suc m) s f) in
    let b : Accepts [] ((first ++ k ∷ []) ++ ls) l = rw (append_assoc first (k ∷ []) ls) a in
    let r = accepted-more (first ++ k ∷ []) ls l next b n step e in
    rw (append_assoc first (k ∷ []) (take n (ls ++ l ∷ []))) at r

last-more : (c : ClauseTree) (ls : List Line) (l : Line) → last_clause c (ls ++ l ∷ []) ≡ l.clause
last-more c [] l = refl
last-more c (k ∷ ls) l = last-more k.clause ls l

last-line : (l : Line) (ls : List Line) → clause_of (l ∷ ls) (length ls) ≡ last_clause l.clause ls
last-line l [] = refl
last-line l (k ∷ ls) = last-line k ls

no-choices : (lines : List Line) → HaveChoices [] lines
no-choices lines = record { within = λ n k e. absurd (cc); abbreviated = λ n k e. absurd (cc) }

length-map : {X Y : Type 0} (f : X → Y) (xs : List X) → length (map f xs) ≡ length xs
length-map f [] = refl
length-map f (x ∷ xs) = ap suc (length-map f xs)

steps-more : (c : Contents) (ss : List StepRecord) (s : StepRecord) → AreStepsOf c ss → IsStepOf c s → AreStepsOf c (ss ++ s ∷ [])
steps-more c [] s h g zero r e = let f : s ≡ r = cc in subst (IsStepOf c) f g
steps-more c [] s h g (suc n) r e = absurd (cc)
steps-more c (t ∷ ss) s h g zero r e = h zero r e
steps-more c (t ∷ ss) s h g (suc n) r e = steps-more c ss s (λ m u f. h (suc m) u f) g n r e

-- the clause itself
pub derived-first : (c : Contents) (start : ClauseTree) (k : Clause) → IsTypedIn c k → clause_at c k ≡ start → IsDerived c start (record { clause = k; records = [] })
derived-first c start k typed reads = record {
  typed = typed;
  steps = λ n s e. absurd (cc);
  accepted = λ rule n s e. absurd (cc);
  ends = sym reads;
  origin = λ o b h. tt;
}

-- from any line with the parent the rule gives the clause, without choice symbols
abbrev pub IsGiven : ClauseTree → ClauseTree → (ℕ → StepRule) → Type 0
IsGiven parent clause rule = (lines : List Line) (p : ℕ) → p < length lines → clause_of lines p ≡ parent → HaveChoices [] lines → Accepts [] lines (record { clause = clause; rule = rule p })

-- base types and symbols of the clause and of what the rule has come from the parent and from the first clause
abbrev pub IsFromBoth : ClauseTree → ClauseTree → ClauseTree → StepRule → Type 0
IsFromBoth start parent clause rule = (o : Origin) → o.has_base 0 ≡ true → IsClauseFrom o start → IsClauseFrom o parent → IsClauseFrom o clause × IsRuleFrom o rule

pub from-read : (start p q c d : ClauseTree) (rule : StepRule) → p ≡ q → c ≡ d → IsFromBoth start q d rule → IsFromBoth start p c rule
from-read start p q c d rule e f h = rw (e, f) h

last-from : (o : Origin) (c : ClauseTree) (ls : List Line) → IsClauseFrom o c → AreLinesFrom o ls → IsClauseFrom o (last_clause c ls)
last-from o c [] h g = h
last-from o c (l ∷ ls) h g = last-from o l.clause ls g.0.0 g.1

-- a step more that follows from the clause
pub derived-step : (c : Contents) (start : ClauseTree) (d r : Derived) (k : Clause) (rule : Rule) (make : ℕ → StepRule) → IsDerived c start d → r.clause ≡ k → r.records ≡ d.records ++ record { clause = k; rule = rule } ∷ [] → IsTypedIn c k → AreTermsOfRule c rule → rule_at c rule ≡ make (length d.records) →
    IsGiven (clause_at c d.clause) (clause_at c k) make → IsFromBoth start (clause_at c d.clause) (clause_at c k) (make (length d.records)) → IsDerived c start r
derived-step c start d r k rule make h p q typed terms is follows from =
    let step : StepRecord = record { clause = k; rule = rule } in
    let lines = map (line_at c) d.records in
    let l : Line = record { clause = clause_at c k; rule = make (length d.records) } in
    let last : line_at c step ≡ l = rw is refl in
    let more : map (line_at c) r.records ≡ lines ++ l ∷ [] = ap (map (line_at c)) q ∙ map-append (line_at c) d.records (step ∷ []) ∙ ap (λ (x : Line). lines ++ x ∷ []) last in
    let count : length lines ≡ length d.records = length-map (line_at c) d.records in
    record {
      typed = rw p typed;
      steps = rw q (steps-more c d.records step h.steps (record { clause_of = typed.of_bank; terms_of = terms }));
      accepted = λ rule.
          let first : Line = record { clause = start; rule = rule } in
          let within : length d.records < length (first ∷ lines) = omega arith in
          let parent : clause_of (first ∷ lines) (length d.records) ≡ clause_at c d.clause = rw (← count) (last-line first lines ∙ h.ends) in
          let a : Accepts [] (first ∷ lines) l = follows (first ∷ lines) (length d.records) within parent (no-choices (first ∷ lines)) in
          subst (AreAcceptedAfter (first ∷ [])) (sym more) (accepted-more (first ∷ []) lines l (h.accepted rule) a);
      ends = ap (last_clause start) more ∙ last-more start lines l ∙ rw p refl;
      origin = λ o b g.
          let old = h.origin o b g in
          let parent : IsClauseFrom o (clause_at c d.clause) = subst (IsClauseFrom o) h.ends (last-from o start lines g old) in
          subst (AreLinesFrom o) (sym more) (lines-append o lines (l ∷ []) old (from o b g parent, tt));
    }

-- an inequation and its parts
pub decomposed-follows : (parent : ClauseTree) (i : ℕ) (l : Literal) (new : List Literal) → slice_get parent.literals i ≡ Some l → IsTyped parent → Decomposes l new → HaveOneHeadType l.left l.right → AreTyped parent.variables new → IsGiven parent (with_new parent i [] new) (λ p. decompose p i)
decomposed-follows parent i l new e typed d h g lines p within is k =
    record {
      parents = within;
      literals = literal-within lines p i parent l is e;
      place = tt;
      types = record {
        clause_typed = typed-placed parent i [] new typed (no-fresh parent.variables new g);
        rule_typed = there (literal_of lines p i) l (λ m. HaveOneHeadType m.left m.right) (literal-there lines p i parent l is e) h;
      };
      symbols = tt;
      shape = there (literal_of lines p i) l (λ m. (ns : List Literal) × (Decomposes m ns × (with_new parent i [] new ≡ with_new (clause_of lines p) i [] ns))) (literal-there lines p i parent l is e) (new, (d, rw is refl));
    }
