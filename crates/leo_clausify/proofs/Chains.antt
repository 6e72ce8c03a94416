-- Chains of steps, and the lines that they become.
use Rattle.std.proofs.Common.{ℕ, zero, suc, ◌≡◌, ◌+◌, ◌<◌, true, List, [], ◌∷◌, ◌++◌, length, take, slice_get, Some, refl, ◌∙◌, ap, append-nil, append_assoc, arith}
use Rattle.std.proofs.lemmas.List.{length-append}
use Rattle.leo_clause.specs.Choices.{Choice}
use Rattle.leo_clause.specs.Trees.{ClauseTree}
use Rattle.leo_kernel.specs.Acceptance.{AreAcceptedAfter}
use Rattle.leo_kernel.specs.Steps.{Line, clause_of, clause_in}
use Rattle.leo_kernel.specs.Symbols.{abbreviation_of, abbreviation_at}
use Rattle.leo_clausify.specs.Branches.{Precedes}
use Rattle.leo_clausify.specs.Leaves.{last_clause}
use Rattle.leo_clausify.specs.Moves.{TreeStep, HaveChoices, Descends, IsChain, IsDescent, lines_after}
use Rattle.leo_clausify.specs.Origins.{Origin, IsClauseFrom, AreChoicesFrom, AreLinesFrom}

pub follows-later : (choices later : List Choice) → Precedes choices later → (parent : ClauseTree) (s : TreeStep) → Descends choices parent s → Descends later parent s
follows-later choices later before parent s f = record {
  follows = record { accepted = λ lines p within is h. f.follows.accepted lines p within is (record { within = λ n k e. h.within n k (before n k e); abbreviated = λ n k e. h.abbreviated n k (before n k e) }) };
  origin = λ o z h k p. f.origin o z h (λ n j e. k n j (before n j e)) p;
}

pub chain-later : (choices later : List Choice) → Precedes choices later → (start end : ClauseTree) (ss : List TreeStep) → IsDescent choices start ss end → IsDescent later start ss end
chain-later choices later before start end [] h = h
chain-later choices later before start end (s ∷ ss) h = (follows-later choices later before start s h.0, chain-later choices later before s.clause end ss h.1)

-- a step more
pub chain-more : (choices : List Choice) (start middle : ClauseTree) (ss : List TreeStep) (s : TreeStep) → IsDescent choices start ss middle → Descends choices middle s → IsDescent choices start (ss ++ s ∷ []) s.clause
chain-more choices start middle [] s h f = (rw h f, refl)
chain-more choices start middle (t ∷ ss) s h f = (h.0, chain-more choices t.clause middle ss s h.1 f)

-- the line after others
after-lines : (first : List Line) (l : Line) → slice_get (first ++ l ∷ []) (length first) ≡ Some l
after-lines [] l = refl
after-lines (k ∷ first) l = after-lines first l

choices-more : (choices : List Choice) (first : List Line) (l : Line) → HaveChoices choices first → HaveChoices choices (first ++ l ∷ [])
choices-more choices first l h = record {
  within = λ n k e. (let a = h.within n k e in let b = length-append first (l ∷ []) in omega arith);
  abbreviated = λ n k e. kept n (h.within n k e) ∙ h.abbreviated n k e;
}
  where
    there : (ls : List Line) (l : Line) (n : ℕ) → n < length ls → slice_get (ls ++ l ∷ []) n ≡ slice_get ls n
    there [] l n h = absurd (omega arith)
    there (k ∷ ls) l zero h = refl
    there (k ∷ ls) l (suc n) h = there ls l n (omega arith)

    kept : (n : ℕ) → n < length first → abbreviation_of (first ++ l ∷ []) n ≡ abbreviation_of first n
    kept n lt = ap abbreviation_at (there first l n lt)

-- the lines of a chain are accepted after lines that abbreviate the symbols and end in its start
pub chain-accepted : (choices : List Choice) (start end : ClauseTree) (ss : List TreeStep) (first : List Line) (p : ℕ) → length first ≡ p + 1 → clause_of first p ≡ start → HaveChoices choices first → IsChain choices start ss end → AreAcceptedAfter first (lines_after p ss)
chain-accepted choices start end [] first p long is h chain n step e = absurd (cc)
chain-accepted choices start end (s ∷ ss) first p long is h chain zero step e =
    let f : record { clause = s.clause; rule = s.rule p } ≡ step = cc in
    rw (← f, append-nil first) (chain.0.accepted first p (omega arith) is h)
chain-accepted choices start end (s ∷ ss) first p long is h chain (suc n) step e =
    let l : Line = record { clause = s.clause; rule = s.rule p } in
    let more = length-append first (l ∷ []) in
    let there : clause_of (first ++ l ∷ []) (p + 1) ≡ s.clause = rw (← long) (ap clause_in (after-lines first l)) in
    let r = chain-accepted choices s.clause end ss (first ++ l ∷ []) (p + 1) (omega arith) there (choices-more choices first l h) chain.1 n step e in
    rw (append_assoc first (l ∷ []) (take n (lines_after (p + 1) ss))) at r

-- a chain without what it tells of base types and symbols
pub descent-chain : (choices : List Choice) (start end : ClauseTree) (ss : List TreeStep) → IsDescent choices start ss end → IsChain choices start ss end
descent-chain choices start end [] h = h
descent-chain choices start end (s ∷ ss) h = (h.0.follows, descent-chain choices s.clause end ss h.1)

pub chain-last : (choices : List Choice) (start end : ClauseTree) (ss : List TreeStep) (p : ℕ) → IsDescent choices start ss end → last_clause start (lines_after p ss) ≡ end
chain-last choices start end [] p h = h
chain-last choices start end (s ∷ ss) p h = chain-last choices s.clause end ss (p + 1) h.1

-- their base types and symbols are those of the start and of the choice symbols
pub chain-from : (choices : List Choice) (start end : ClauseTree) (ss : List TreeStep) (p : ℕ) → IsDescent choices start ss end → (o : Origin) → o.has_base 0 ≡ true → IsClauseFrom o start → AreChoicesFrom o choices → AreLinesFrom o (lines_after p ss)
chain-from choices start end [] p chain o z h k = tt
chain-from choices start end (s ∷ ss) p chain o z h k = let l = chain.0.origin o z h k p in (l, chain-from choices s.clause end ss (p + 1) chain.1 o z l.0 k)
